-- Which lists are bytes.
use Rattle.std.proofs.Common.{◌≡◌, ℕ, zero, suc, ◌<◌, List, [], ◌∷◌, ◌++◌, take, drop, slice_index, replicate, subst, lit<}
use Rattle.std.specs.List.{flat_map}
use Rattle.sw_words.specs.Bytes.{IsBytes}

pub IsBytes-none : IsBytes []
IsBytes-none position = lit< tt

-- one byte more at the front
pub IsBytes-cons : (byte : ℕ) (bytes : List ℕ) → byte < 256 → IsBytes bytes → IsBytes (byte ∷ bytes)
IsBytes-cons byte bytes small are zero = small
IsBytes-cons byte bytes small are (suc position) = are position

-- bytes that are joined
pub IsBytes-append : (xs ys : List ℕ) → IsBytes xs → IsBytes ys → IsBytes (xs ++ ys)
IsBytes-append [] ys front back position = back position
IsBytes-append (x ∷ xs) ys front back zero = front 0
IsBytes-append (x ∷ xs) ys front back (suc position) = IsBytes-append xs ys (λ at. front (suc at)) back position

-- lists of bytes that are joined
pub IsBytes-flat_map : {A : Type 0} (f : A → List ℕ) (items : List A) → ((item : A) → IsBytes (f item)) → IsBytes (flat_map f items)
IsBytes-flat_map f [] are position = lit< tt
IsBytes-flat_map f (item ∷ items) are position = IsBytes-append (f item) (flat_map f items) (are item) (IsBytes-flat_map f items are) position

-- a front of bytes
pub IsBytes-take : (count : ℕ) (xs : List ℕ) → IsBytes xs → IsBytes (take count xs)
IsBytes-take zero xs are position = lit< tt
IsBytes-take (suc count) [] are position = lit< tt
IsBytes-take (suc count) (x ∷ xs) are zero = are 0
IsBytes-take (suc count) (x ∷ xs) are (suc position) = IsBytes-take count xs (λ at. are (suc at)) position

-- what is left behind a front
pub IsBytes-drop : (count : ℕ) (xs : List ℕ) → IsBytes xs → IsBytes (drop count xs)
IsBytes-drop zero xs are position = are position
IsBytes-drop (suc count) [] are position = lit< tt
IsBytes-drop (suc count) (x ∷ xs) are position = IsBytes-drop count xs (λ at. are (suc at)) position

-- zeros
pub IsBytes-zeros : (count : ℕ) → IsBytes (replicate count 0)
IsBytes-zeros zero position = lit< tt
IsBytes-zeros (suc count) zero = lit< tt
IsBytes-zeros (suc count) (suc position) = IsBytes-zeros count position
