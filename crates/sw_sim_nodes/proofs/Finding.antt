-- An item of a list whose keys differ is found by its key, also once another item with its key stands in its place.
use Rattle.std.proofs.Common.{◌≡◌, ◌≢◌, ℕ, zero, suc, ◌==◌, Bool, cond, List, [], ◌∷◌, Some, get_or, refl, sym, ap, ◌∙◌, arith}
use Rattle.std.specs.List.{All, AllPairs, find, slice_get, slice_set}
use Rattle.std.proofs.lemmas.Bool.{eq-eqb, ne_eqb}
use Rattle.std.proofs.lemmas.List.Elements.{All-cons, All-head, All-tail}
use Rattle.std.proofs.lemmas.Option.{get_or_from_slice_get, slice_get_within}

module _ {X : Type 0} (key : X → ℕ) where
  abbrev has : ℕ → X → Bool
  has id x = key x == id

  abbrev Differ : List X → Type 0
  Differ xs = AllPairs (λ a b. key a ≢ key b) xs

  later : (x : X) (xs : List X) → Differ (x ∷ xs) → Differ xs
  later x xs differ = λ i j d less within. differ (suc i) (suc j) d (omega arith) (omega arith)

  -- the first differs from a later one
  first-differs : (first : X) (xs : List X) (slot : ℕ) (x : X) → Differ (first ∷ xs) → slice_get xs slot ≡ Some x → key first ≢ key x
  first-differs first xs slot x differ at same =
      differ zero (suc slot) x (omega arith) (omega (arith, slice_get_within xs slot x at)) (same ∙ ap key (sym (get_or_from_slice_get xs slot x x at)))

  -- what holds of each holds of each with another one in the place of one, where it stays so for those with another key
  pub all_set : (P Q : X → Type 0) (xs : List X) (slot : ℕ) (x new : X) → Differ xs → slice_get xs slot ≡ Some x → All P xs → ((y : X) → key y ≢ key x → P y → Q y) → Q new → All Q (slice_set xs slot new)
  all_set P Q [] slot x new differ at all stays now = absurd (cc)
  all_set P Q (first ∷ xs) zero x new differ at all stays now =
      let same : first ≡ x = cc in
      All-cons Q new xs now (λ k d within.
      stays (get_or xs k d) (λ is. differ zero (suc k) d (omega arith) (omega (arith, within)) (ap key same ∙ sym is)) (all (suc k) d (omega (arith, within))))
  all_set P Q (first ∷ xs) (suc slot) x new differ at all stays now =
      All-cons Q first (slice_set xs slot new) (stays first (first-differs first xs slot x differ at) (All-head P first xs all)) (all_set P Q xs slot x new (later first xs differ) at (All-tail P first xs all) stays now)

  pub find_at : (xs : List X) (slot : ℕ) (x : X) → Differ xs → slice_get xs slot ≡ Some x → find (has (key x)) xs ≡ Some x
  find_at [] slot x differ at = absurd (cc)
  find_at (first ∷ xs) zero x differ at =
      let same : first ≡ x = cc in
      rw same (rw (eq-eqb (key x) (key x) refl) refl)
  find_at (first ∷ xs) (suc slot) x differ at = rw (ne_eqb (key first) (key x) (first-differs first xs slot x differ at)) (find_at xs slot x (later first xs differ) at)

  pub find_set : (xs : List X) (slot : ℕ) (x new : X) → Differ xs → slice_get xs slot ≡ Some x → key new ≡ key x → find (has (key x)) (slice_set xs slot new) ≡ Some new
  find_set [] slot x new differ at same = absurd (cc)
  find_set (first ∷ xs) zero x new differ at same = rw (eq-eqb (key new) (key x) same) refl
  find_set (first ∷ xs) (suc slot) x new differ at same = rw (ne_eqb (key first) (key x) (first-differs first xs slot x differ at)) (find_set xs slot x new (later first xs differ) at same)

  -- what has another key is found as before
  pub find_other : (xs : List X) (slot : ℕ) (x new : X) (other : ℕ) → slice_get xs slot ≡ Some x → key new ≡ key x → other ≢ key x → find (has other) (slice_set xs slot new) ≡ find (has other) xs
  find_other [] slot x new other at same differs = absurd (cc)
  find_other (first ∷ xs) zero x new other at same differs =
      let is : first ≡ x = cc in
      rw (ne_eqb (key new) other (λ it. differs (sym it ∙ same))) (rw (ne_eqb (key first) other (λ it. differs (sym it ∙ ap key is))) refl)
  find_other (first ∷ xs) (suc slot) x new other at same differs = ap (λ rest. cond (key first == other) (Some first) rest) (find_other xs slot x new other at same differs)
