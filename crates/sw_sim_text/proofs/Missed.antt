-- The devices of misses are those of the sorted misses, each once.
use Rattle.std.proofs.Common.{◌≡◌, ◌⊎◌, inl, inr, ⊎_elim, ◌↔◌, ℕ, zero, suc, ◌<◌, Bool, true, false, eqb, AllPairs, Contains, List, [], ◌∷◌, map, refl, sym, subst, arith}
use Rattle.std.specs.Prelude.{◌==◌, nat_lt, if◌then◌else◌}
use Rattle.std.specs.List.{All, dedup}
use Rattle.std.specs.List.Sorted.{IsPermutation, IsSorted}
use Rattle.std.specs.Ordering.{nat_cmp}
use Rattle.std.proofs.lemmas.Bool.{eqb-false, eqb-true, ltb-false, ltb-true}
use Rattle.std.proofs.lemmas.List.Elements.{All-cons, All-contains, All-head, All-tail, All-weaker, Contains-get_or}
use Rattle.std.proofs.lemmas.List.Kept.{AllPairs-cons, AllPairs-from_increasing, Contains-dedup_nat, Contains-from_dedup}
use Rattle.std.proofs.lemmas.List.Sorted.{Contains-permutation, IsPermutation-sym}
use Rattle.std.proofs.lemmas.Map.Keys.{IsStrictlyIncreasing-dedup}
use Rattle.sw_diskfile.proofs.Lists.{Contains-cases, Contains-first, Contains-later, rest_ascend, same_ascending}
use Rattle.sw_message.specs.declared.miss.Miss.{Miss}
use Rattle.sw_sim_text.specs.Text.{devices_of, with_device}

abbrev Ascend : List ℕ → Type 0
Ascend numbers = AllPairs (λ a b. a < b) numbers

rest_above : (first : ℕ) (rest : List ℕ) → Ascend (first ∷ rest) → All (λ b. first < b) rest
rest_above first rest ascend k d within = ascend zero (suc k) d (omega arith) (omega arith)

-- ---- a device among others, by the answers of the two tests of the first of them

module _ (device other : ℕ) (others rest : List ℕ) where
  abbrev placed : Bool → Bool → List ℕ
  placed before same = if before then device ∷ other ∷ others else if same then other ∷ others else other ∷ rest

  All-placed : (P : ℕ → Type 0) (before same : Bool) → P device → All P (other ∷ others) → All P rest → All P (placed before same)
  All-placed P true same one all later = All-cons P device (other ∷ others) one all
  All-placed P false true one all later = all
  All-placed P false false one all later = All-cons P other rest (All-head P other others all) later

  placed_ascend : (before same : Bool) → nat_lt device other ≡ before → (device == other) ≡ same → Ascend (other ∷ others) → Ascend rest → (other < device → All (λ b. other < b) rest)
      → Ascend (placed before same)
  placed_ascend true same is_before is_same ascend later above =
      let below = ltb-true device other is_before in
      AllPairs-cons (λ a b. a < b) device (other ∷ others)
      (All-cons (λ b. device < b) other others below (All-weaker (λ b. other < b) (λ b. device < b) (λ b more. omega arith) others (rest_above other others ascend))) ascend
  placed_ascend false true is_before is_same ascend later above = ascend
  placed_ascend false false is_before is_same ascend later above =
      AllPairs-cons (λ a b. a < b) other rest (above (omega (arith, ltb-false device other is_before, eqb-false device other is_same))) later

  placed_there : (before same : Bool) → (device == other) ≡ same → Contains rest device → Contains (placed before same) device
  placed_there true same is_same has = Contains-first device (other ∷ others)
  placed_there false true is_same has = subst (Contains (other ∷ others)) (sym (eqb-true device other is_same)) (Contains-first other others)
  placed_there false false is_same has = Contains-later other rest device has

  others_there : (before same : Bool) (x : ℕ) → (Contains others x → Contains rest x) → Contains (other ∷ others) x → Contains (placed before same) x
  others_there true same x goes_on has = Contains-later device (other ∷ others) x has
  others_there false true x goes_on has = has
  others_there false false x goes_on has = ⊎_elim
      (λ here. subst (Contains (other ∷ rest)) here (Contains-first other rest))
      (λ later. Contains-later other rest x (goes_on later))
      (Contains-cases other others x has)

-- ---- a device among any

module _ (device : ℕ) where
  All-with_device : (P : ℕ → Type 0) (devices : List ℕ) → P device → All P devices → All P (with_device device devices)
  All-with_device P [] one all = All-cons P device [] one all
  All-with_device P (other ∷ others) one all =
      All-placed device other others (with_device device others) P (nat_lt device other) (device == other) one all (All-with_device P others one (All-tail P other others all))

  with_device_ascend : (devices : List ℕ) → Ascend devices → Ascend (with_device device devices)
  with_device_ascend [] ascend = λ i j d lt within. absurd (omega arith)
  with_device_ascend (other ∷ others) ascend =
      let later = with_device_ascend others (rest_ascend (λ a b. a < b) other others ascend) in
      placed_ascend device other others (with_device device others) (nat_lt device other) (device == other) refl refl ascend later
      (λ below. All-with_device (λ b. other < b) others below (rest_above other others ascend))

  one_there : (devices : List ℕ) → Contains (with_device device devices) device
  one_there [] = Contains-first device []
  one_there (other ∷ others) = placed_there device other others (with_device device others) (nat_lt device other) (device == other) refl (one_there others)

  all_there : (devices : List ℕ) (x : ℕ) → Contains devices x → Contains (with_device device devices) x
  all_there [] x has = absurd (omega (arith, has.1))
  all_there (other ∷ others) x has =
      others_there device other others (with_device device others) (nat_lt device other) (device == other) x (all_there others x) has

  from_there : (devices : List ℕ) (x : ℕ) → Contains (with_device device devices) x → (device ≡ x) ⊎ Contains devices x
  from_there devices x has =
      All-contains (λ y. (device ≡ y) ⊎ Contains devices y) (with_device device devices) x
      (All-with_device (λ y. (device ≡ y) ⊎ Contains devices y) devices (inl refl) (λ k d within. inr (Contains-get_or devices k d within))) has

-- ---- the devices of misses

abbrev pub device_in : ℕ × Miss → ℕ
device_in miss = miss.0

devices_ascend : (misses : List (ℕ × Miss)) → Ascend (devices_of misses)
devices_ascend [] = λ i j d lt within. absurd (omega arith)
devices_ascend (miss ∷ misses) = with_device_ascend miss.0 (devices_of misses) (devices_ascend misses)

members : (misses : List (ℕ × Miss)) (x : ℕ) → Contains (devices_of misses) x ↔ Contains (map device_in misses) x
members [] x = (λ has. has, λ has. has)
members (miss ∷ misses) x = (
  λ has. ⊎_elim
      (λ here. subst (Contains (miss.0 ∷ map device_in misses)) here (Contains-first miss.0 (map device_in misses)))
      (λ later. Contains-later miss.0 (map device_in misses) x ((members misses x).0 later))
      (from_there miss.0 (devices_of misses) x has),
  λ has. ⊎_elim
      (λ here. subst (Contains (with_device miss.0 (devices_of misses))) here (one_there miss.0 (devices_of misses)))
      (λ later. all_there miss.0 (devices_of misses) x ((members misses x).1 later))
      (Contains-cases miss.0 (map device_in misses) x has),
)

module _ (misses : List (ℕ × Miss)) (sorted : List ℕ) (moved : IsPermutation (map device_in misses) sorted) where
  pub devices_are : IsSorted nat_cmp sorted → dedup eqb sorted ≡ devices_of misses
  devices_are up =
      same_ascending (λ a b. a < b) (λ x below. absurd (omega arith)) (λ a b c first second. omega arith) (dedup eqb sorted) (devices_of misses)
      (AllPairs-from_increasing (dedup eqb sorted) (IsStrictlyIncreasing-dedup sorted up)) (devices_ascend misses)
      (λ x. (
        λ has. (members misses x).1 (Contains-permutation sorted (map device_in misses) x (IsPermutation-sym (map device_in misses) sorted moved) (Contains-from_dedup eqb sorted x has)),
        λ has. Contains-dedup_nat sorted x (Contains-permutation (map device_in misses) sorted x moved ((members misses x).0 has)),
      ))
