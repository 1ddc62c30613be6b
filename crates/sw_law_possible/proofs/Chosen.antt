-- What holds of an item or does not: whether a list has it, and those of its items of which something holds.
use Rattle.std.proofs.Common.{◌≡◌, ◌↔◌, inl, inr, ⊎_elim, Contains, List, [], ◌∷◌, sym, subst}
use Rattle.sw_diskfile.proofs.Lists.{Contains-cases, Contains-first, Contains-later, Contains-none}
use Rattle.sw_diskfile.proofs.Decisions.{OrNot}

-- something does not hold, or does
pub negated : {P : Type 0} → OrNot P → OrNot (P → ⊥)
negated (inl p) = inr (λ not. not p)
negated (inr not) = inl not

module _ {X : Type 0} (same_or_not : (a b : X) → OrNot (a ≡ b)) where
  has_by : (y : X) (ys : List X) (x : X) → OrNot (y ≡ x) → OrNot (Contains ys x) → OrNot (Contains (y ∷ ys) x)
  has_by y ys x (inl same) rest = inl (subst (Contains (y ∷ ys)) same (Contains-first y ys))
  has_by y ys x (inr differ) (inl later) = inl (Contains-later y ys x later)
  has_by y ys x (inr differ) (inr none) = inr (λ has. ⊎_elim differ none (Contains-cases y ys x has))

  -- a list has an item, or not
  pub has_or_not : (xs : List X) (x : X) → OrNot (Contains xs x)
  has_or_not [] x = inr (Contains-none x)
  has_or_not (y ∷ ys) x = has_by y ys x (same_or_not y x) (has_or_not ys x)

module _ {X : Type 0} (P : X → Type 0) (or_not : (x : X) → OrNot (P x)) where
  abbrev HasChosen : List X → Type 0
  HasChosen xs = (ys : List X) × ((x : X) → Contains ys x ↔ (Contains xs x × P x))

  chosen_by : (y : X) (ys : List X) → OrNot (P y) → HasChosen ys → HasChosen (y ∷ ys)
  chosen_by y ys (inl p) rest = (
    y ∷ rest.0,
    λ x. (
      λ has. ⊎_elim
          (λ here. subst (λ z. Contains (y ∷ ys) z × P z) here (Contains-first y ys, p))
          (λ later. let is = (rest.1 x).0 later in (Contains-later y ys x is.0, is.1))
          (Contains-cases y rest.0 x has),
      λ is. ⊎_elim
          (λ here. subst (Contains (y ∷ rest.0)) here (Contains-first y rest.0))
          (λ later. Contains-later y rest.0 x ((rest.1 x).1 (later, is.1)))
          (Contains-cases y ys x is.0),
    ),
  )
  chosen_by y ys (inr not) rest = (
    rest.0,
    λ x. (
      λ has. let is = (rest.1 x).0 has in (Contains-later y ys x is.0, is.1),
      λ is. ⊎_elim
          (λ here. absurd (not (subst P (sym here) is.1)))
          (λ later. (rest.1 x).1 (later, is.1))
          (Contains-cases y ys x is.0),
    ),
  )

  -- the items of which it holds
  pub chosen : (xs : List X) → HasChosen xs
  chosen [] = ([], λ x. (λ has. absurd (Contains-none x has), λ is. is.0))
  chosen (y ∷ ys) = chosen_by y ys (or_not y) (chosen ys)
