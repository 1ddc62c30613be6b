-- Each device is a home of one fragment at most, so those that devices touch are no more than these.
use Rattle.std.proofs.Common.{◌≡◌, ◌≢◌, inl, inr, ⊎_elim, ℕ, ◌==◌, Bool, true, true≢false, not, ◌||◌, AllPairs, Contains, List, slice_get, Option, Some, None, refl, sym, ap, ◌∙◌, arith}
use Rattle.std.proofs.lemmas.Bool.{eq-eqb, eqb-true, or_cases, or_left, or_right}
use Rattle.std.proofs.lemmas.List.Elements.{All-contains_itself, All-filter, All-weaker, filter_passes}
use Rattle.std.proofs.lemmas.List.Kept.{AllPairs-filter}
use Rattle.sw_hashpath.specs.Place.{IsPlace, PlaceModel}
use Rattle.sw_ring.specs.Cluster.{ClusterModel, KeepsRules, column_of}
use Rattle.sw_ring.specs.Ring.{option_is}
use Rattle.sw_message.specs.Warrant.{IsHome}
use Rattle.sw_message.specs.declared.target.Target.{Target}
use Rattle.sw_law_owed.specs.Decided.{AreApart}
use Rattle.sw_law_homes.specs.Homes.{AreLeft, IsHomeOf, IsUntouched}
use Rattle.sw_law_homes.proofs.Devices.{home_index, one_index}
use Rattle.sw_law_homes.proofs.Fewer.{fewer_left, is_touched, left_by, untouched}

-- ---- what a device touches

-- an index's primary by the test and as a fact
some_is : (found : Option ℕ) (device : ℕ) → option_is found device ≡ true → found ≡ Some device
some_is None device is = absurd (true≢false (sym is))
some_is (Some other) device is = ap (λ n. Some n) (eqb-true other device is)

is_some : (found : Option ℕ) (device : ℕ) → found ≡ Some device → option_is found device ≡ true
is_some found device is = ap (λ one. option_is one device) is ∙ eq-eqb device device refl

module _ (cluster : ClusterModel) (place : PlaceModel) where
  -- whether a device is a home of a fragment
  abbrev touches : ℕ → Target → Bool
  touches device target = target.device == device || option_is (slice_get (column_of cluster place.part) target.index) device

  -- by the test and as a fact
  touched_home : (device : ℕ) (target : Target) → touches device target ≡ true → IsHomeOf cluster place device target
  touched_home device target touched = ⊎_elim
      (λ stored. inl (sym (eqb-true target.device device stored)))
      (λ primary. inr (some_is (slice_get (column_of cluster place.part) target.index) device primary))
      (or_cases (target.device == device) (option_is (slice_get (column_of cluster place.part) target.index) device) touched)

  home_touched : (device : ℕ) (target : Target) → IsHomeOf cluster place device target → touches device target ≡ true
  home_touched device target (inl stored) = or_left (target.device == device) (option_is (slice_get (column_of cluster place.part) target.index) device) (eq-eqb target.device device (sym stored))
  home_touched device target (inr primary) = or_right (target.device == device) (option_is (slice_get (column_of cluster place.part) target.index) device) (is_some (slice_get (column_of cluster place.part) target.index) device primary)

  module _ (rules : KeepsRules cluster) (is_place : IsPlace cluster.part_power place) where
    -- no device is a home of two
    clash : (device : ℕ) (one other : Target) → IsHome cluster place one → IsHome cluster place other → one.index ≢ other.index → one.device ≢ other.device → IsHomeOf cluster place device one → IsHomeOf cluster place device other → ⊥
    clash device one other home also indices devices (inl here) (inl there) = devices (sym here ∙ there)
    clash device one other home also indices devices (inl here) (inr primary) =
        indices (home_index cluster place rules is_place one other.index home (primary ∙ ap (λ n. Some n) here))
    clash device one other home also indices devices (inr primary) (inl there) =
        indices (sym (home_index cluster place rules is_place other one.index also (primary ∙ ap (λ n. Some n) there)))
    clash device one other home also indices devices (inr primary) (inr second) = indices (one_index cluster place rules is_place one.index other.index device primary second)

    -- so none touches two of them
    once : (targets : List Target) → AreApart cluster place targets → (device : ℕ) → AllPairs (λ one other. touches device one ≡ true → touches device other ≡ true → ⊥) targets
    once targets apart device = λ i j d less within touched also.
        clash device _ _ (apart.homes i d (omega (arith, less, within))) (apart.homes j d within) (apart.indices i j d less within) (apart.devices i j d less within)
        (touched_home device _ touched) (touched_home device _ also)

-- Of fragments at different devices those that devices leave untouched are at most so many fewer than there are such devices.
pub homes : (cluster : ClusterModel) (place : PlaceModel) (out : List ℕ) (targets : List Target) → KeepsRules cluster → IsPlace cluster.part_power place → AreApart cluster place targets → AreLeft cluster place out targets
homes cluster place out targets rules is_place apart =
    let test : Target → Bool = λ target. not (is_touched (touches cluster place) out target) in
    record {
      left = left_by (touches cluster place) out targets;
      some = All-filter test (Contains targets) targets (All-contains_itself targets);
      apart = record {
        indices = AllPairs-filter (λ one other. one.index ≢ other.index) test targets apart.indices;
        devices = AllPairs-filter (λ one other. one.device ≢ other.device) test targets apart.devices;
        homes = All-filter test (IsHome cluster place) targets apart.homes;
      };
      untouched = All-weaker (λ target. test target ≡ true) (IsUntouched cluster place out)
          (λ target left device has home. untouched (touches cluster place) out target left device has (home_touched cluster place device target home))
          (left_by (touches cluster place) out targets) (filter_passes test targets);
      many = fewer_left (touches cluster place) out targets (once cluster place rules is_place targets apart);
    }
