-- Counts over all views, after one view changed or came.
use Rattle.std.proofs.Common.{◌≡◌, ◌≢◌, ℕ, zero, suc, ◌+◌, ◌≤◌, ◌<◌, List, [], ◌∷◌, ◌++◌, set, refl, sym, ap, ◌∙◌, arith}
use mathlib.Core.Option.{some, some-injective, some-ne-none}
use mathlib.Core.Logic.{dite}
use native.Mathlib.Decide.{ℕ_discrete}
use lib.ListN.{get_elem?}
use Rattle.sw_pass.specs.declared.known.Known.{Known}
use Rattle.sw_pass.specs.Rule.{claims, greatest, total}

pub total_set : (f : Known → ℕ) (vs : List Known) (i : ℕ) (v w : Known) → get_elem? vs i ≡ some v → total f (set vs i w) + f v ≡ total f vs + f w
total_set f [] i v w e = absurd (some-ne-none v (sym e))
total_set f (x ∷ xs) zero v w e = let same : f x ≡ f v = ap f (some-injective x v e) in omega arith
total_set f (x ∷ xs) (suc i) v w e = let h = total_set f xs i v w e in omega arith

pub total_added : (f : Known → ℕ) (vs : List Known) (w : Known) → total f (vs ++ w ∷ []) ≡ total f vs + f w
total_added f [] w = omega arith
total_added f (x ∷ xs) w = let h = total_added f xs w in omega arith

pub one_of_total : (f : Known → ℕ) (vs : List Known) (i : ℕ) (v : Known) → get_elem? vs i ≡ some v → f v ≤ total f vs
one_of_total f [] i v e = absurd (some-ne-none v (sym e))
one_of_total f (x ∷ xs) zero v e = let same : f x ≡ f v = ap f (some-injective x v e) in omega arith
one_of_total f (x ∷ xs) (suc i) v e = let h = one_of_total f xs i v e in omega arith

pub total_le : (f g : Known → ℕ) (vs : List Known) → ((i : ℕ) (v : Known) → get_elem? vs i ≡ some v → f v ≤ g v) → total f vs ≤ total g vs
total_le f g [] le = omega arith
total_le f g (x ∷ xs) le = let a = le zero x refl in let b = total_le f g xs (λ i. le (suc i)) in omega arith

-- ---- claims

-- none is
pub claims_same : (word word' : ℕ → ℕ) (slots : ℕ) → ((y : ℕ) → y < slots → word' y ≡ word y) → claims word' slots ≡ claims word slots
claims_same word word' zero same = refl
claims_same word word' (suc slots) same =
    let a = same slots (omega arith) in
    let b = claims_same word word' slots (λ y less. same y (omega (arith, less))) in
    omega arith

-- a slot is claimed
pub claims_more : (word word' : ℕ → ℕ) (slots x : ℕ) → x < slots → word x ≡ 0 → word' x ≡ 1 → ((y : ℕ) → y ≢ x → word' y ≡ word y) → claims word' slots ≡ claims word slots + 1
claims_more word word' zero x inside was is others = absurd (omega (arith, inside))
claims_more word word' (suc slots) x inside was is others =
    dite (ℕ_discrete slots x)
    (λ here.
    let w : word slots ≡ 0 = ap word here ∙ was in
    let w' : word' slots ≡ 1 = ap word' here ∙ is in
    let rest : claims word' slots ≡ claims word slots = claims_same word word' slots (λ y less. others y (λ e. omega (arith, e, here, less))) in
    omega arith)
    (λ apart.
    let h = claims_more word word' slots x (omega (arith, apart, inside)) was is others in
    let w : word' slots ≡ word slots = others slots apart in
    omega arith)

pub claims_le : (word : ℕ → ℕ) (slots : ℕ) → ((y : ℕ) → y < slots → word y ≤ 1) → claims word slots ≤ slots
claims_le word zero few = omega arith
claims_le word (suc slots) few =
    let a = few slots (omega arith) in
    let b = claims_le word slots (λ y less. few y (omega (arith, less))) in
    omega arith

pub claims_none : (word : ℕ → ℕ) (slots : ℕ) → ((y : ℕ) → word y ≡ 0) → claims word slots ≡ 0
claims_none word zero none = refl
claims_none word (suc slots) none = let a = none slots in let b = claims_none word slots none in omega arith

pub greatest_set : (vs : List Known) (i : ℕ) (v w : Known) → get_elem? vs i ≡ some v → v.clock ≤ w.clock → (greatest vs ≤ greatest (set vs i w)) × (w.clock ≤ greatest (set vs i w))
greatest_set [] i v w e le = absurd (some-ne-none v (sym e))
greatest_set (x ∷ xs) zero v w e le = let same : x.clock ≡ v.clock = ap (λ (y : Known). y.clock) (some-injective x v e) in (omega arith, omega arith)
greatest_set (x ∷ xs) (suc i) v w e le = let h = greatest_set xs i v w e le in let a = h.0 in let b = h.1 in (omega arith, omega arith)

pub greatest_added : (vs : List Known) (w : Known) → greatest vs ≤ greatest (vs ++ w ∷ [])
greatest_added [] w = omega arith
greatest_added (x ∷ xs) w = let h = greatest_added xs w in omega arith
