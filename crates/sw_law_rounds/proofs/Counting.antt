-- Lists: different items that another list has, too, are at most as many; and one list that has all that each item of another asks for.
use Rattle.std.proofs.Common.{◌≡◌, ◌≢◌, ⊎_elim, ℕ, ◌<◌, ◌≤◌, ◌==◌, Bool, true, not, AllPairs, Contains, List, [], ◌∷◌, ◌++◌, filter, length, refl, sym, subst, ap, arith}
use Rattle.std.proofs.lemmas.Bool.{eq-eqb, ne_eqb}
use Rattle.std.proofs.lemmas.List.Elements.{Contains-append_cases, Contains-append_left, Contains-append_right}
use Rattle.std.proofs.lemmas.List.Filters.{length-filter_both}
use Rattle.sw_diskfile.proofs.Lists.{Contains-cases, Contains-first, Contains-later, Contains-none, first_before, keeps, rest_ascend}

-- ---- counts

abbrev is_other : ℕ → ℕ → Bool
is_other x y = not (y == x)

-- without a number that it has a list is shorter
fewer : (x : ℕ) (ys : List ℕ) → Contains ys x → length (filter (is_other x) ys) < length ys
fewer x ys has =
    let both = length-filter_both (is_other x) (λ y. not (is_other x y)) (λ y. refl) ys in
    let there = keeps (λ y. not (is_other x y)) ys x has (ap (λ b. not (not b)) (eq-eqb x x refl)) in
    omega (arith, both, there.1)

-- different numbers that are all among others are at most as many
pub at_most : (xs ys : List ℕ) → AllPairs (λ a b. a ≢ b) xs → ((x : ℕ) → Contains xs x → Contains ys x) → length xs ≤ length ys
at_most [] ys apart all = omega arith
at_most (x ∷ xs) ys apart all =
    let rest = at_most xs (filter (is_other x) ys) (rest_ascend (λ a b. a ≢ b) x xs apart) (λ z has. keeps (is_other x) ys z (all z (Contains-later x xs z has)) (other z has)) in
    omega (arith, rest, fewer x ys (all x (Contains-first x xs)))
  where
    other : (z : ℕ) → Contains xs z → is_other x z ≡ true
    other z has = ap not (ne_eqb z x (λ same. first_before (λ a b. a ≢ b) x xs apart z has (sym same)))

-- ---- what is asked for

-- items that are all good, and among which each of some others has what it asks for
pub record Collected {X S : Type 0} (Good : S → Type 0) (Asks : X → List S → Type 0) (xs : List X) : Type 0 where
  pub items : List S
  pub good : (item : S) → Contains items item → Good item
  pub each : (x : X) → Contains xs x → Asks x items

module _ {X S : Type 0} (Good : S → Type 0) (Asks : X → List S → Type 0) (more : (x : X) (few many : List S) → ((item : S) → Contains few item → Contains many item) → Asks x few → Asks x many) where
  -- where each of some has such items for itself, there are such for all
  pub collected : (xs : List X) → ((x : X) → Contains xs x → (items : List S) × ((item : S) → Contains items item → Good item) × Asks x items) → Collected Good Asks xs
  collected [] give = record { items = []; good = λ item has. absurd (Contains-none item has); each = λ x has. absurd (Contains-none x has) }
  collected (x ∷ xs) give =
      let first = give x (Contains-first x xs) in
      let rest = collected xs (λ y has. give y (Contains-later x xs y has)) in
      record {
        items = first.0 ++ rest.items;
        good = λ item has. ⊎_elim (first.1 item) (rest.good item) (Contains-append_cases first.0 rest.items item has);
        each = λ y has. ⊎_elim
            (λ same. subst (λ z. Asks z (first.0 ++ rest.items)) same (more x first.0 (first.0 ++ rest.items) (λ item there. Contains-append_left first.0 rest.items item there) first.2))
            (λ later. more y rest.items (first.0 ++ rest.items) (λ item there. Contains-append_right first.0 rest.items item there) (rest.each y later))
            (Contains-cases x xs y has);
      }
