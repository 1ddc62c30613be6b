-- Equality of names.
use Rattle.std.proofs.Common.{◌≡◌, ℕ, ◌&&◌, Bool, true, false, nat_eq, List, [], ◌∷◌, refl, ap, ◌∙◌, eq-eqb, eqb-true}
use Rattle.std.specs.Cmp.Lexicographic.{pointwise}
use Rattle.sw_types.specs.Name.{NameModel, name_eq}

both : (a b : Bool) → (a && b) ≡ true → (a ≡ true) × (b ≡ true)
both true b h = (refl, h)
both false b h = absurd (cc)

pub pointwise-true : (xs ys : List ℕ) → pointwise nat_eq xs ys ≡ true → xs ≡ ys
pointwise-true [] [] h = refl
pointwise-true [] (y ∷ ys) h = absurd (cc)
pointwise-true (x ∷ xs) [] h = absurd (cc)
pointwise-true (x ∷ xs) (y ∷ ys) h =
    let parts = both (nat_eq x y) (pointwise nat_eq xs ys) h in
    let first : x ≡ y = eqb-true x y parts.0 in
    let rest : xs ≡ ys = pointwise-true xs ys parts.1 in
    cc

pub pointwise-same : (xs : List ℕ) → pointwise nat_eq xs xs ≡ true
pointwise-same [] = refl
pointwise-same (x ∷ xs) = ap (λ b. b && pointwise nat_eq xs xs) (eq-eqb x x refl) ∙ pointwise-same xs

-- names that are equal have the same parts
pub name_eq-true : (a b : NameModel) → name_eq a b ≡ true → a ≡ b
name_eq-true a b h =
    let first = both (pointwise nat_eq a.account b.account) (pointwise nat_eq a.container b.container && pointwise nat_eq a.object b.object) h in
    let others = both (pointwise nat_eq a.container b.container) (pointwise nat_eq a.object b.object) first.1 in
    let account : a.account ≡ b.account = pointwise-true a.account b.account first.0 in
    let container : a.container ≡ b.container = pointwise-true a.container b.container others.0 in
    let object : a.object ≡ b.object = pointwise-true a.object b.object others.1 in
    ap (λ (part : List ℕ). record { account = part; container = a.container; object = a.object }) account
    ∙ ap (λ (part : List ℕ). record { account = b.account; container = part; object = a.object }) container
    ∙ ap (λ (part : List ℕ). record { account = b.account; container = b.container; object = part }) object

-- a name equals itself
pub name_eq-same : (a : NameModel) → name_eq a a ≡ true
name_eq-same a =
    ap (λ b. b && (pointwise nat_eq a.container a.container && pointwise nat_eq a.object a.object)) (pointwise-same a.account)
    ∙ ap (λ b. b && pointwise nat_eq a.object a.object) (pointwise-same a.container) ∙ pointwise-same a.object
