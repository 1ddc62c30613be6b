-- Which ids are in a list, by the test and as a fact; and the items of a list that pass a test.
use Rattle.std.proofs.Common.{◌≡◌, ℕ, zero, suc, ◌<◌, ◌==◌, ◌||◌, Bool, true, false, List, [], ◌∷◌, length, get_or, Option, Some, None, refl, arith}
use Rattle.std.specs.Prelude.{slice_get, IsSomeAnd}
use Rattle.std.specs.List.{Contains, list_any}
use Rattle.std.proofs.lemmas.Bool.Decides.{nat_tests}
use Rattle.sw_ring.specs.Ring.{is_among}

pub same_number : (a b : ℕ) → (a == b) ≡ true → a ≡ b
same_number a b h = grind (arith, nat_tests)

pub Contains-cons : {A : Type 0} (x y : A) (xs : List A) → Contains xs x → Contains (y ∷ xs) x
Contains-cons x y xs (k, within, here) = (suc k, omega arith, here)

among_by : (id other : ℕ) (ids : List ℕ) (b : Bool) → (other == id) ≡ b → (b || is_among ids id) ≡ true → (is_among ids id ≡ true → Contains ids id) → Contains (other ∷ ids) id
among_by id other ids true is h later = (0, omega arith, same_number other id is)
among_by id other ids false is h later = Contains-cons id other ids (later h)

pub Contains-from_among : (ids : List ℕ) (id : ℕ) → is_among ids id ≡ true → Contains ids id
Contains-from_among [] id h = cc
Contains-from_among (other ∷ ids) id h = among_by id other ids (other == id) refl h (Contains-from_among ids id)

among_at : (ids : List ℕ) (id k : ℕ) → k < length ids → get_or ids k id ≡ id → is_among ids id ≡ true
among_at [] id k within here = absurd (omega arith)
among_at (other ∷ ids) id zero within here = let same : (other == id) ≡ true = grind (arith, nat_tests) in rw same refl
among_at (other ∷ ids) id (suc k) within here = let later = among_at ids id k (omega arith) here in grind (arith, later)

pub among-from_Contains : (ids : List ℕ) (id : ℕ) → Contains ids id → is_among ids id ≡ true
among-from_Contains ids id (k, within, here) = among_at ids id k within here

pub not_among : (ids : List ℕ) (id : ℕ) → is_among ids id ≡ false → ¬ (Contains ids id)
not_among ids id h there = let found = among-from_Contains ids id there in cc

-- some item is so
abbrev pub Somewhere : {A : Type 0} → (A → Type 0) → List A → Type 0
Somewhere P items = (i : ℕ) × IsSomeAnd (slice_get items i) P

somewhere_by : {A : Type 0} (test : A → Bool) (x : A) (xs : List A) (b : Bool) → test x ≡ b → (b || list_any test xs) ≡ true → (list_any test xs ≡ true → Somewhere (λ x. test x ≡ true) xs) → Somewhere (λ x. test x ≡ true) (x ∷ xs)
somewhere_by test x xs true is h later = (0, is)
somewhere_by test x xs false is h later = let there = later h in (suc there.0, there.1)

pub somewhere : {A : Type 0} (test : A → Bool) (xs : List A) → list_any test xs ≡ true → Somewhere (λ x. test x ≡ true) xs
somewhere test [] h = cc
somewhere test (x ∷ xs) h = somewhere_by test x xs (test x) refl h (somewhere test xs)

pub IsSomeAnd-weaker : {A : Type 0} (P Q : A → Type 0) → ((x : A) → P x → Q x) → (found : Option A) → IsSomeAnd found P → IsSomeAnd found Q
IsSomeAnd-weaker P Q weaker None h = h
IsSomeAnd-weaker P Q weaker (Some x) h = weaker x h

pub IsSomeAnd-value : {A : Type 0} (P : A → Type 0) (found : Option A) → IsSomeAnd found P → (x : A) × (found ≡ Some x) × P x
IsSomeAnd-value P None h = absurd h
IsSomeAnd-value P (Some x) h = (x, refl, h)
