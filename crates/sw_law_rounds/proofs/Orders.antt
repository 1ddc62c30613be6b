-- The handoffs of a get are asked before its primaries, and answer before them.
use Rattle.std.proofs.Common.{◌≡◌, inl, inr, ℕ, ◌≤◌, Bool, true, false, not, ◌&&◌, Contains, List, length, nat_lt, Some, refl, sym, ap, ◌∙◌, arith}
use Rattle.std.specs.Prelude.{if◌then◌else◌}
use Rattle.std.specs.List.{slice_get}
use Rattle.std.proofs.lemmas.Bool.{cases_Bool, ltb-false, ltb-true, true≢false}
use Rattle.std.proofs.lemmas.List.{get_or_append_left}
use Rattle.std.proofs.lemmas.List.Elements.{All-contains}
use Rattle.std.proofs.lemmas.Option.{get_or_from_slice_get}
use Rattle.sw_ring.specs.Ring.{is_among}
use Rattle.sw_ring.proofs.Among.{among-from_Contains}
use Rattle.sw_quorum.proofs.Places.{handoffs_apart}
use Rattle.sw_get.specs.Get.{Begun, Turn, devices, facts_in, from_in, going_in, place_of}
use Rattle.sw_get.specs.Round.{all_devices, ask_or}
use Rattle.sw_get.specs.declared.round_end.Going.TheVariants as going

module _ (begun : Begun) where
  -- how many handoffs there are
  abbrev pub before_primaries : ℕ
  before_primaries = length (devices begun).handoffs

  -- no device is a handoff and a primary
  not_both : (device : ℕ) → Contains (devices begun).handoffs device → Contains (devices begun).primaries device → ⊥
  not_both device handoff primary =
      let none = All-contains (λ id. is_among (devices begun).primaries id ≡ false) (devices begun).handoffs device (handoffs_apart begun.cluster (place_of begun).part) handoff in
      true≢false (sym (among-from_Contains (devices begun).primaries device primary) ∙ none)

  -- a primary stands behind the handoffs
  pub primary_behind : (number device : ℕ) → slice_get (all_devices (devices begun)) number ≡ Some device → Contains (devices begun).primaries device → before_primaries ≤ number
  primary_behind number device at primary = elim (cases_Bool (nat_lt number before_primaries)) [
    | inl before ↦
        let less = ltb-true number before_primaries before in
        let is = get_or_from_slice_get (all_devices (devices begun)) number device device at in
        absurd (not_both device (number, less, sym (get_or_append_left (devices begun).handoffs (devices begun).primaries device number less) ∙ is) primary)
    | inr behind ↦ ltb-false number before_primaries behind
  ]

  module _ (turns : List Turn) (device : ℕ) where
    by_wait : (more waits : Bool) → nat_lt (facts_in begun turns).asked before_primaries ≡ more → nat_lt (facts_in begun turns).answered before_primaries ≡ waits
        → (if not more && waits then going.Wait else going.Ask device) ≡ going.Ask device → before_primaries ≤ (facts_in begun turns).asked → before_primaries ≤ (facts_in begun turns).answered
    by_wait true waits less some is asked = absurd (omega (arith, ltb-true (facts_in begun turns).asked before_primaries less, asked))
    by_wait false true none less is asked = absurd (cc is)
    by_wait false false none all is asked = ltb-false (facts_in begun turns).answered before_primaries all

    -- where a device is asked though every handoff was, as many have answered or were given up
    pub answered_first : going_in begun turns ≡ going.Ask device → slice_get (all_devices (devices begun)) (facts_in begun turns).asked ≡ Some device
        → before_primaries ≤ (facts_in begun turns).asked → before_primaries ≤ (facts_in begun turns).answered
    answered_first goes at =
        by_wait (nat_lt (facts_in begun turns).asked before_primaries) (nat_lt (facts_in begun turns).answered before_primaries) refl refl
        (sym (ap (ask_or begun.cluster.policy (devices begun) (from_in begun turns) (facts_in begun turns)) at) ∙ goes)
