-- What lists have, and where.
use Rattle.std.proofs.Common.{◌≡◌, inl, inr, ◌⊎◌, ℕ, zero, suc, ◌<◌, ◌||◌, Bool, true, false, Contains, List, [], ◌∷◌, ◌++◌, length, map, Some, None, refl, sym, ap, subst, ◌∙◌, arith}
use Rattle.std.specs.Prelude.{if◌then◌else◌}
use Rattle.std.specs.List.{All, AllZip, filter, find, flat_map, list_any, slice_get}
use Rattle.std.proofs.lemmas.Bool.{cases_Bool, cond-true, or_cases}
use Rattle.std.proofs.lemmas.List.Elements.{All-contains_itself, All-filter, Contains-append_cases, Contains-append_left, Contains-append_right, filter_passes}
use Rattle.std.proofs.lemmas.Option.{none-some}
use Rattle.sw_ring.proofs.Among.{Contains-cons}

-- there is an item at each number below the length
pub slice_get_some : {A : Type 0} (xs : List A) (i : ℕ) → i < length xs → (x : A) × (slice_get xs i ≡ Some x)
slice_get_some [] i below = absurd (omega (arith, below))
slice_get_some (x ∷ xs) zero below = (x, refl)
slice_get_some (x ∷ xs) (suc i) below = slice_get_some xs i (omega (arith, below))

-- items stay where they are as others are put behind them
pub slice_get_before : {A : Type 0} (xs more : List A) (i : ℕ) (x : A) → slice_get xs i ≡ Some x → slice_get (xs ++ more) i ≡ Some x
slice_get_before [] more i x is = absurd (none-some x is)
slice_get_before (y ∷ xs) more zero x is = is
slice_get_before (y ∷ xs) more (suc i) x is = slice_get_before xs more i x is

pub slice_get_last : {A : Type 0} (xs : List A) (x : A) (i : ℕ) → i ≡ length xs → slice_get (xs ++ x ∷ []) i ≡ Some x
slice_get_last [] x zero is = refl
slice_get_last [] x (suc i) is = absurd (omega (arith, is))
slice_get_last (y ∷ xs) x zero is = absurd (omega (arith, is))
slice_get_last (y ∷ xs) x (suc i) is = slice_get_last xs x i (omega (arith, is))

-- ---- two lists, place by place

module _ {A B : Type 0} where
  pub zip-push : (R : A → B → Type 0) (xs : List A) (ys : List B) (x : A) (y : B) → AllZip R xs ys → R x y → AllZip R (xs ++ x ∷ []) (ys ++ y ∷ [])
  zip-push R [] [] x y all is = (is, tt)
  zip-push R [] (b ∷ ys) x y all is = absurd all
  zip-push R (a ∷ xs) [] x y all is = absurd all
  zip-push R (a ∷ xs) (b ∷ ys) x y all is = (all.0, zip-push R xs ys x y all.1 is)

  pub zip-weaker : (R S : A → B → Type 0) → ((x : A) (y : B) → R x y → S x y) → (xs : List A) (ys : List B) → AllZip R xs ys → AllZip S xs ys
  zip-weaker R S follows [] [] all = tt
  zip-weaker R S follows [] (b ∷ ys) all = absurd all
  zip-weaker R S follows (a ∷ xs) [] all = absurd all
  zip-weaker R S follows (a ∷ xs) (b ∷ ys) all = (follows a b all.0, zip-weaker R S follows xs ys all.1)

  -- where there is nothing, anything holds
  pub zip-none : (R S : A → B → Type 0) (xs : List A) (ys : List B) → xs ≡ [] → AllZip R xs ys → AllZip S xs ys
  zip-none R S [] [] none all = tt
  zip-none R S [] (b ∷ ys) none all = absurd all
  zip-none R S (a ∷ xs) ys none all = absurd (cc)

-- ---- what holds of each item

pub All-contains : {A : Type 0} (P : A → Type 0) (xs : List A) (x : A) → All P xs → Contains xs x → P x
All-contains P xs x all is = subst P is.2 (all is.0 x is.1)

-- ---- what a list contains

module _ {A : Type 0} where
  pub here : (x : A) (xs : List A) → Contains (x ∷ xs) x
  here x xs = (zero, omega arith, refl)

  pub first_or_later : (y : A) (xs : List A) (x : A) → Contains (y ∷ xs) x → (y ≡ x) ⊎ Contains xs x
  first_or_later y xs x (zero, below, is) = inl is
  first_or_later y xs x (suc k, below, is) = inr (k, omega (arith, below), is)

pub none_in : {A : Type 0} (x : A) → Contains [] x → ⊥
none_in x is = absurd (omega (arith, is.1))

module _ {A : Type 0} (p : A → Bool) where
  pub in_filter : (xs : List A) (x : A) → Contains xs x → p x ≡ true → Contains (filter p xs) x
  in_filter [] x is passes = absurd (none_in x is)
  in_filter (y ∷ xs) x is passes = elim (first_or_later y xs x is) [
    | inl same ↦ subst (λ these. Contains these x) (sym (cond-true (p y) (y ∷ filter p xs) (filter p xs) (ap p same ∙ passes))) (subst (λ z. Contains (z ∷ filter p xs) x) (sym same) (here x (filter p xs)))
    | inr later ↦ by_test (p y) (in_filter xs x later passes)
  ]
    where
      by_test : (b : Bool) → Contains (filter p xs) x → Contains (if b then y ∷ filter p xs else filter p xs) x
      by_test true is = Contains-cons x y (filter p xs) is
      by_test false is = is

module _ {A B : Type 0} where
  pub in_map : (f : A → B) (xs : List A) (x : A) → Contains xs x → Contains (map f xs) (f x)
  in_map f [] x is = absurd (none_in x is)
  in_map f (y ∷ xs) x is = elim (first_or_later y xs x is) [
    | inl same ↦ subst (λ z. Contains (f z ∷ map f xs) (f x)) (sym same) (here (f x) (map f xs))
    | inr later ↦ Contains-cons (f x) (f y) (map f xs) (in_map f xs x later)
  ]

  pub in_flat : (f : A → List B) (xs : List A) (x : A) (y : B) → Contains xs x → Contains (f x) y → Contains (flat_map f xs) y
  in_flat f [] x y is among = absurd (none_in x is)
  in_flat f (z ∷ xs) x y is among = elim (first_or_later z xs x is) [
    | inl same ↦ Contains-append_left (f z) (flat_map f xs) y (subst (λ w. Contains (f w) y) (sym same) among)
    | inr later ↦ Contains-append_right (f z) (flat_map f xs) y (in_flat f xs x y later among)
  ]

-- ---- where what is in such a list is from

pub from_filter : {A : Type 0} (p : A → Bool) (xs : List A) (x : A) → Contains (filter p xs) x → Contains xs x × (p x ≡ true)
from_filter p xs x is =
    (All-contains (Contains xs) (filter p xs) x (All-filter p (Contains xs) xs (All-contains_itself xs)) is, All-contains (λ y. p y ≡ true) (filter p xs) x (filter_passes p xs) is)

module _ {A B : Type 0} where
  pub from_map : (f : A → B) (xs : List A) (y : B) → Contains (map f xs) y → (x : A) × Contains xs x × (f x ≡ y)
  from_map f [] y is = absurd (none_in y is)
  from_map f (x ∷ xs) y is = elim (first_or_later (f x) (map f xs) y is) [
    | inl same ↦ (x, here x xs, same)
    | inr later ↦ let one = from_map f xs y later in (one.0, Contains-cons one.0 x xs one.1, one.2)
  ]

  pub from_flat : (f : A → List B) (xs : List A) (y : B) → Contains (flat_map f xs) y → (x : A) × Contains xs x × Contains (f x) y
  from_flat f [] y is = absurd (none_in y is)
  from_flat f (x ∷ xs) y is = elim (Contains-append_cases (f x) (flat_map f xs) y is) [
    | inl this ↦ (x, here x xs, this)
    | inr later ↦ let one = from_flat f xs y later in (one.0, Contains-cons one.0 x xs one.1, one.2)
  ]

-- ---- tests

pub some_passes : {A : Type 0} (test : A → Bool) (xs : List A) → list_any test xs ≡ true → (x : A) × Contains xs x × (test x ≡ true)
some_passes test [] is = absurd (cc)
some_passes test (first ∷ xs) is = elim (or_cases (test first) (list_any test xs) is) [
  | inl passes ↦ (first, here first xs, passes)
  | inr later ↦ let one = some_passes test xs later in (one.0, Contains-cons one.0 first xs one.1, one.2)
]

pub any_passes : {A : Type 0} (test : A → Bool) (xs : List A) (x : A) → Contains xs x → test x ≡ true → list_any test xs ≡ true
any_passes test [] x has passes = absurd (omega (arith, has.1))
any_passes test (first ∷ xs) x has passes = elim (first_or_later first xs x has) [
  | inl same ↦ ap (λ b. b || list_any test xs) (ap test same ∙ passes)
  | inr later ↦ by_test (test first) (any_passes test xs x later passes)
]
  where
    by_test : (b : Bool) → list_any test xs ≡ true → (b || list_any test xs) ≡ true
    by_test true is = refl
    by_test false is = is

pub none_passes : {A : Type 0} (test : A → Bool) (xs : List A) (x : A) → find test xs ≡ None → Contains xs x → test x ≡ false
none_passes test [] x none has = absurd (omega (arith, has.1))
none_passes test (first ∷ xs) x none has = elim (cases_Bool (test first)) [
  | inl passes ↦ absurd (none-some first (sym none ∙ cond-true (test first) (Some first) (find test xs) passes))
  | inr fails ↦ elim (first_or_later first xs x has) [
    | inl same ↦ ap test (sym same) ∙ fails
    | inr later ↦ none_passes test xs x (by_test (test first) fails none) later
  ]
]
  where
    by_test : (b : Bool) → b ≡ false → (if b then Some first else find test xs) ≡ None → find test xs ≡ None
    by_test true is none = absurd (cc)
    by_test false is none = none
