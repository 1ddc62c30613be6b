-- What is found at a number of a list.
use Rattle.std.specs.Prelude.{◌≡◌, ℕ, zero, suc, ◌-◌, ◌≤◌, List, [], ◌∷◌, ◌++◌, length, slice_get, Option, Some, None, is_some, IfSome}
use Rattle.std.specs.Option.{option_copied}
use Rattle.std.proofs.Common.{Bor, ap, arith, get_or, ltb, refl, sym, ◌∙◌}
use Rattle.std.proofs.lemmas.Bool.{ltb-false, ltb-true}
use Rattle.std.proofs.lemmas.Option.{none-some, slice_get_past, slice_get_read}

pub slice_get_none : {A : Type 0} (xs : List A) (i : ℕ) → slice_get xs i ≡ None → length xs ≤ i
slice_get_none [] i none = omega arith
slice_get_none (x ∷ xs) zero none = cc
slice_get_none (x ∷ xs) (suc i) none = let later : length xs ≤ i = slice_get_none xs i none in omega (arith, later)

-- behind the front of a list
pub slice_get-behind : {A : Type 0} (front xs : List A) (i : ℕ) → length front ≤ i → slice_get (front ++ xs) i ≡ slice_get xs (i - length front)
slice_get-behind [] xs i from = ap (slice_get xs) (omega arith)
slice_get-behind (first ∷ front) xs zero from = absurd (omega (arith, from))
slice_get-behind (first ∷ front) xs (suc i) from = slice_get-behind front xs i (omega (arith, from)) ∙ ap (slice_get xs) (omega arith)

-- and within it
pub slice_get-front : {A : Type 0} (front xs : List A) (i : ℕ) (x : A) → slice_get front i ≡ Some x → slice_get (front ++ xs) i ≡ Some x
slice_get-front [] xs i x at = absurd (none-some x at)
slice_get-front (first ∷ front) xs zero x at = at
slice_get-front (first ∷ front) xs (suc i) x at = slice_get-front front xs i x at

-- what a look-up gives
pub looked-up : {A : Type 0} (xs : List A) (i : ℕ) (found : Option (Bor A)) → is_some found ≡ ltb i (length xs) → IfSome found (λ x. x.now ≡ get_or xs i x.now) → option_copied found ≡ slice_get xs i
looked-up xs i None is same = sym (slice_get_past xs i (ltb-false i (length xs) (sym is)))
looked-up xs i (Some x) is same = sym (slice_get_read xs (length xs) i x.now refl (ltb-true i (length xs) (sym is)) same)
