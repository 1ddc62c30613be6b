-- What holds or does not: that texts are the same, that a text is one of a list, that a number is less than another, that one below a
-- bound has something.
use Rattle.std.proofs.Common.{◌≡◌, ◌⊎◌, inl, inr, ⊎_elim, ℕ, zero, suc, ◌<◌, Contains, List, [], ◌∷◌, subst, arith}
use Rattle.std.proofs.lemmas.Bool.{cases_eq, cases_lt}
use Rattle.sw_diskfile.proofs.Directories.{same_or_other}
use Rattle.sw_diskfile.proofs.Lists.{Contains-cases, Contains-first, Contains-later, Contains-none}

abbrev pub OrNot : Type 0 → Type 0
OrNot P = P ⊎ (P → ⊥)

-- of two facts, and of three
pub both : {P Q : Type 0} → OrNot P → OrNot Q → OrNot (P × Q)
both (inl p) (inl q) = inl (p, q)
both (inl p) (inr not) = inr (λ is. not is.1)
both (inr not) q = inr (λ is. not is.0)

pub all_three : {P Q R : Type 0} → OrNot P → OrNot Q → OrNot R → OrNot (P × Q × R)
all_three (inl p) (inl q) (inl r) = inl (p, q, r)
all_three (inl p) (inl q) (inr not) = inr (λ is. not is.2)
all_three (inl p) (inr not) r = inr (λ is. not is.1)
all_three (inr not) q r = inr (λ is. not is.0)

pub either : {P Q : Type 0} → OrNot P → OrNot Q → OrNot (P ⊎ Q)
either (inl p) q = inl (inl p)
either (inr not) (inl q) = inl (inr q)
either (inr not) (inr nor) = inr (λ is. ⊎_elim not nor is)

-- two texts are the same, or not
pub same_or_not : (text other : List ℕ) → OrNot (text ≡ other)
same_or_not text other = ⊎_elim (λ same. inl same.1) (λ differ. inr differ.1) (same_or_other text other)

-- a text is one of these, or not
pub among_or_not : (texts : List (List ℕ)) (text : List ℕ) → OrNot (Contains texts text)
among_or_not [] text = inr (Contains-none text)
among_or_not (first ∷ texts) text = by (same_or_not first text) (among_or_not texts text)
  where
    by : OrNot (first ≡ text) → OrNot (Contains texts text) → OrNot (Contains (first ∷ texts) text)
    by (inl same) rest = inl (subst (Contains (first ∷ texts)) same (Contains-first first texts))
    by (inr differ) (inl later) = inl (Contains-later first texts text later)
    by (inr differ) (inr none) = inr (λ has. ⊎_elim differ none (Contains-cases first texts text has))

-- a number is less than another, or not
pub less_or_not : (a b : ℕ) → OrNot (a < b)
less_or_not a b = ⊎_elim (λ less. inl less) (λ upto. inr (λ less. omega (arith, less, upto))) (cases_lt a b)

-- a number below the bound has it, or none does
module _ (P : ℕ → Type 0) (or_not : (n : ℕ) → OrNot (P n)) where
  abbrev HasBelow : ℕ → Type 0
  HasBelow bound = (n : ℕ) × (n < bound) × P n

  pub below_or_not : (bound : ℕ) → OrNot (HasBelow bound)
  below_or_not zero = inr (λ found. absurd (omega (arith, found.1)))
  below_or_not (suc bound) = by (below_or_not bound) (or_not bound)
    where
      by : OrNot (HasBelow bound) → OrNot (P bound) → OrNot (HasBelow (suc bound))
      by (inl found) here = inl (found.0, omega (arith, found.1), found.2)
      by (inr none) (inl here) = inl (bound, omega arith, here)
      by (inr none) (inr not) = inr (λ found. ⊎_elim
          (λ same. not (subst P same found.2))
          (λ differ. none (found.0, omega (arith, found.1, differ), found.2))
          (cases_eq found.0 bound))
