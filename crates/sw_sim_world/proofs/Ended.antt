-- Operations that a step ended.
use Rattle.std.proofs.Common.{◌≡◌, ⊎_elim, ℕ, zero, suc, ◌+◌, Bool, true, false, not, ◌&&◌, Contains, List, [], ◌∷◌, ◌++◌, Some, refl, ap, subst, ◌∙◌, arith}
use Rattle.std.specs.List.{AllZip, slice_get}
use Rattle.std.proofs.lemmas.List.Elements.{Contains-append_cases}
use Rattle.sw_diskfile.proofs.Lists.{Contains-cases, Contains-first, Contains-later, Contains-none}
use Rattle.sw_core.specs.World.{Operating, numbered}
use Rattle.sw_sim_world.specs.Unfolding.{Ended, ended_from, ended_if}

-- ---- none

-- one that did not change is not told
pub not_again : (is_over : Bool) (number : ℕ) (operation : Operating) → ended_if (is_over && not is_over) number operation ≡ []
not_again true number operation = refl
not_again false number operation = refl

-- where no operation changed, none ended
pub none_ended : (number : ℕ) (operations : List Operating) → ended_from number operations operations ≡ []
none_ended number [] = refl
none_ended number (operation ∷ operations) =
    ap (λ ended. ended ++ ended_from (number + 1) operations operations) (not_again operation.is_over number operation) ∙ none_ended (number + 1) operations

-- ---- some

-- it is over, and stands at its number
record IsEndedAt (first : ℕ) (operations : List Operating) (ended : Ended) : Type 0 where
  pub slot : ℕ
  pub number_is : ended.number ≡ first + slot
  pub there : slice_get operations slot ≡ Some ended.operation
  pub over : ended.operation.is_over ≡ true

-- one operation before it
one_later : (first : ℕ) (operation : Operating) (operations : List Operating) (ended : Ended) → IsEndedAt (first + 1) operations ended → IsEndedAt first (operation ∷ operations) ended
one_later first operation operations ended at = record { slot = suc at.slot; number_is = omega (arith, at.number_is); there = at.there; over = at.over }

-- the first of them
at_first : (first : ℕ) (operation : Operating) (operations : List Operating) (is_over : Bool) → (is_over ≡ true → operation.is_over ≡ true) → (ended : Ended) → Contains (ended_if is_over first operation) ended
    → IsEndedAt first (operation ∷ operations) ended
at_first first operation operations false over ended has = absurd (Contains-none ended has)
at_first first operation operations true over ended has = ⊎_elim
    (λ same. subst (IsEndedAt first (operation ∷ operations)) same (record { slot = zero; number_is = omega arith; there = refl; over = over refl }))
    (λ none. absurd (Contains-none ended none))
    (Contains-cases (record { number = first; operation = operation }) [] ended has)

-- where both hold the left one does
both_left : (a b : Bool) → a && b ≡ true → a ≡ true
both_left true b both = refl
both_left false b both = both

-- each that is told is over
is_ended : (first : ℕ) (before after : List Operating) (ended : Ended) → Contains (ended_from first before after) ended → IsEndedAt first after ended
is_ended first before [] ended has = absurd (Contains-none ended has)
is_ended first [] (operation ∷ operations) ended has = ⊎_elim
    (λ here. at_first first operation operations operation.is_over (λ over. over) ended here)
    (λ later. one_later first operation operations ended (is_ended (first + 1) [] operations ended later))
    (Contains-append_cases (ended_if operation.is_over first operation) (ended_from (first + 1) [] operations) ended has)
is_ended first (old ∷ olds) (operation ∷ operations) ended has = ⊎_elim
    (λ here. at_first first operation operations (operation.is_over && not old.is_over) (both_left operation.is_over (not old.is_over)) ended here)
    (λ later. one_later first operation operations ended (is_ended (first + 1) olds operations ended later))
    (Contains-append_cases (ended_if (operation.is_over && not old.is_over) first operation) (ended_from (first + 1) olds operations) ended has)

-- so it is, by its number
pub ended_over : (before after : List Operating) (ended : Ended) → Contains (ended_from 1 before after) ended → (numbered after ended.number ≡ Some ended.operation) × (ended.operation.is_over ≡ true)
ended_over before after ended has =
    let at = is_ended 1 before after ended has in
    let next : suc at.slot ≡ ended.number = omega (arith, at.number_is) in
    (subst (λ number. numbered after number ≡ Some ended.operation) next at.there, at.over)

-- ---- lists side by side

module _ {A B : Type 0} (R : A → B → Type 0) where
  -- what stands beside an item of the second
  pub zip_beside : (xs : List A) (ys : List B) (y : B) → AllZip R xs ys → Contains ys y → (x : A) × Contains xs x × R x y
  zip_beside xs [] y all has = absurd (Contains-none y has)
  zip_beside [] (first ∷ ys) y all has = absurd all
  zip_beside (x ∷ xs) (first ∷ ys) y all has = ⊎_elim
      (λ same. (x, Contains-first x xs, subst (R x) same all.0))
      (λ later. let found = zip_beside xs ys y all.1 later in (found.0, Contains-later x xs found.0 found.1, found.2))
      (Contains-cases first ys y has)
