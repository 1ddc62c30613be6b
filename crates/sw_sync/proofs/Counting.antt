-- How often a list has what passes a test, and lists in which no two are alike.
use Rattle.std.proofs.Common.{◌≡◌, inl, inr, zero, suc, ◌≤◌, Bool, true, cond, Contains, List, [], ◌∷◌, ◌++◌, get_or, map, sym, ap, subst, refl, ◌∙◌, arith}
use Rattle.std.specs.List.{All, AllPairs, count_by}
use Rattle.std.proofs.lemmas.Bool.{cases_Bool, cases_lt, cases_order}
use Rattle.std.proofs.lemmas.List.{get_or_default}
use Rattle.std.proofs.lemmas.List.Elements.{All-contains, All-map}
use Rattle.std.proofs.lemmas.List.Kept.{AllPairs-cons}
use Rattle.std.proofs.lemmas.List.Sums.{sum_by-append, sum_by-cons}
use Rattle.sw_quorum.proofs.Places.{one_if, some-passing}

module _ {A : Type 0} (test : A → Bool) where
  pub none-passing : (xs : List A) → ((x : A) → Contains xs x → test x ≡ true → ⊥) → count_by test xs ≡ 0
  none-passing xs none = elim (cases_lt 0 (count_by test xs)) [
    | inl some ↦ let one = some-passing test xs some in absurd (none one.0 one.1 one.2)
    | inr few ↦ omega (arith, few)
  ]

  -- where no two that pass are in a list
  pub passes-once : (R : A → A → Type 0) → ((a b : A) → R a b → test a ≡ true → test b ≡ true → ⊥) → (xs : List A) → AllPairs R xs → count_by test xs ≤ 1
  passes-once R never [] apart = omega arith
  passes-once R never (x ∷ xs) apart = elim (cases_Bool (test x)) [
    | inl is ↦
        let others : All (R x) xs = λ i d within. apart zero (suc i) d (omega arith) (omega arith) in
        omega (arith, sum_by-cons (λ y. cond (test y) 1 0) x xs, ap one_if is, none-passing xs (λ y there passes. never x y (All-contains (R x) xs y others there) is passes))
    | inr other ↦
        let rest : AllPairs R xs = λ i j d less within. apart (suc i) (suc j) d (omega arith) (omega arith) in
        omega (arith, sum_by-cons (λ y. cond (test y) 1 0) x xs, ap one_if other, passes-once R never xs rest)
  ]

  -- in two lists that have none in common
  pub passes-either : (xs ys : List A) → count_by test xs ≤ 1 → count_by test ys ≤ 1 → ((x y : A) → Contains xs x → Contains ys y → test x ≡ true → test y ≡ true → ⊥) → count_by test (xs ++ ys) ≤ 1
  passes-either xs ys first second none = elim (cases_lt 0 (count_by test xs)) [
    | inl some ↦
        let one = some-passing test xs some in
        omega (arith, first, sum_by-append (λ y. cond (test y) 1 0) xs ys, none-passing ys (λ y there passes. none one.0 y one.1 there one.2 passes))
    | inr few ↦ omega (arith, few, second, sum_by-append (λ y. cond (test y) 1 0) xs ys)
  ]

module _ {A B : Type 0} (f : A → B) where
  pub counted-map : (test : B → Bool) (xs : List A) → count_by test (map f xs) ≡ count_by (λ x. test (f x)) xs
  counted-map test [] = refl
  counted-map test (x ∷ xs) = omega (arith, counted-map test xs, sum_by-cons (λ y. cond (test y) 1 0) (f x) (map f xs), sum_by-cons (λ y. cond (test (f y)) 1 0) x xs)

  pub apart-map : (R : B → B → Type 0) (xs : List A) → AllPairs (λ a b. R (f a) (f b)) xs → AllPairs R (map f xs)
  apart-map R [] apart = λ i j d less within. absurd (omega arith)
  apart-map R (x ∷ xs) apart =
      AllPairs-cons R (f x) (map f xs) (All-map (R (f x)) f xs (λ i d within. apart zero (suc i) d (omega arith) (omega arith)))
      (apart-map R xs (λ i j d less within. apart (suc i) (suc j) d (omega arith) (omega arith)))

-- where two that are in such a list are alike, they are one
pub one-apart : {A : Type 0} (R : A → A → Type 0) (xs : List A) (a b : A) → AllPairs R xs → Contains xs a → Contains xs b → (R a b → ⊥) → (R b a → ⊥) → a ≡ b
one-apart R xs a b apart (i, within, at) (j, below, bt) never not =
    let other : get_or xs j a ≡ b = get_or_default xs j a b below ∙ bt in
    elim (cases_order i j) [
      | inl same ↦ sym at ∙ ap (λ n. get_or xs n a) same ∙ other
      | inr (inl less) ↦ absurd (never (subst (R a) other (subst (λ one. R one (get_or xs j a)) at (apart i j a less below))))
      | inr (inr more) ↦ absurd (not (subst (R b) at (subst (λ one. R one (get_or xs i a)) other (apart j i a more within))))
    ]
