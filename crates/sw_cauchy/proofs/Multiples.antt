-- A multiple of a list, added to another element by element.
use Rattle.std.proofs.Common.{◌≡◌, ℕ, zero, suc, ◌<◌, List, [], ◌∷◌, length, get_or, refl, ap, arith, bit_xor}
use Rattle.sw_gf256.specs.Field.{product, plus_multiple}

-- it is as long as the first list
pub length-plus_multiple : (xs ys : List ℕ) (c : ℕ) → length (plus_multiple xs ys c) ≡ length xs
unfolding plus_multiple
length-plus_multiple [] ys c = refl
length-plus_multiple (x ∷ xs) [] c = refl
length-plus_multiple (x ∷ xs) (y ∷ ys) c = ap suc (length-plus_multiple xs ys c)

-- one of its elements
pub get_or-plus_multiple : (xs ys : List ℕ) (c j : ℕ) → j < length xs → j < length ys → get_or (plus_multiple xs ys c) j 0 ≡ bit_xor (get_or xs j 0) (product c (get_or ys j 0))
unfolding plus_multiple
get_or-plus_multiple [] ys c j h k = absurd (omega arith)
get_or-plus_multiple (x ∷ xs) [] c j h k = absurd (omega arith)
get_or-plus_multiple (x ∷ xs) (y ∷ ys) c zero h k = refl
get_or-plus_multiple (x ∷ xs) (y ∷ ys) c (suc j) h k = get_or-plus_multiple xs ys c j (omega arith) (omega arith)
