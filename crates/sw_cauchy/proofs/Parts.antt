-- Lists of parts of one width, one after another.
use Rattle.std.proofs.Common.{◌≡◌, ℕ, zero, suc, ◌+◌, ◌-◌, ◌*◌, ◌<◌, ◌≤◌, List, [], ◌∷◌, ◌++◌, length, take, drop, get_or, sym, ap, ◌∙◌, arith, zero-add, length-append}
use borrow.Rule.Slice.PartMut.{put_mid}
use Rattle.std.specs.List.{flat_map, range_with_len}
use Rattle.std.proofs.lemmas.List.{map-id, flat_map_more, take_at, length-take, length-drop, get_or_append_left, get_or-append_right}
use Rattle.std.proofs.lemmas.List.FromFn.{map-range_with_len_more}
use Rattle.std.proofs.lemmas.Slice.{take-put_mid}

-- one more part
pub flat_map-push : (f : ℕ → List ℕ) (xs : List ℕ) (x : ℕ) → flat_map f (xs ++ x ∷ []) ≡ flat_map f xs ++ f x
flat_map-push f xs x = sym (flat_map_more f [] xs x)

-- one more number
range_more : (n : ℕ) → range_with_len 0 (n + 1) ≡ range_with_len 0 n ++ n ∷ []
range_more n =
    sym (map-id (range_with_len 0 (n + 1))) ∙ map-range_with_len_more (λ i. i) 0 n n (zero-add n) ∙ ap (λ xs. xs ++ n ∷ []) (map-id (range_with_len 0 n))

-- one more part, made from its position
pub flat_map-range_more : (f : ℕ → List ℕ) (n : ℕ) → flat_map f (range_with_len 0 (n + 1)) ≡ flat_map f (range_with_len 0 n) ++ f n
flat_map-range_more f n = ap (flat_map f) (range_more n) ∙ flat_map-push f (range_with_len 0 n) n

-- as many elements as parts of that width have
pub length-parts : (f : ℕ → List ℕ) (width : ℕ) (xs : List ℕ) → ((x : ℕ) → length (f x) ≡ width) → length (flat_map f xs) ≡ length xs * width
length-parts f width [] wide = omega arith
length-parts f width (x ∷ xs) wide = length-append (f x) (flat_map f xs) ∙ omega (arith, wide x, length-parts f width xs wide)

-- an element of a part
pub get_or-part : (f : ℕ → List ℕ) (width : ℕ) (xs : List ℕ) (i position : ℕ) → ((x : ℕ) → length (f x) ≡ width) → i < length xs → position < width
    → get_or (flat_map f xs) (i * width + position) 0 ≡ get_or (f (get_or xs i 0)) position 0
get_or-part f width [] i position wide h l = absurd (omega arith)
get_or-part f width (x ∷ xs) zero position wide h l =
    ap (λ n. get_or (f x ++ flat_map f xs) n 0) (omega arith) ∙ get_or_append_left (f x) (flat_map f xs) 0 position (omega (arith, wide x))
get_or-part f width (x ∷ xs) (suc i) position wide h l =
    get_or-append_right (f x) (flat_map f xs) width (suc i * width + position) 0 (wide x) (omega arith)
    ∙ ap (λ n. get_or (flat_map f xs) n 0) (omega arith) ∙ get_or-part f width xs i position wide (omega arith) l

-- a write to a part keeps the length
length-put_mid : (a k : ℕ) (xs ys : List ℕ) → a + k ≤ length xs → length ys ≡ k → length (put_mid a k xs ys) ≡ length xs
length-put_mid a k xs ys h e = simp (length-append, length-take, length-drop) (omega arith)

-- after a part is written, in a slice whose parts before it are done
pub next_part_of_slice : (i width : ℕ) (items new : List ℕ) → length new ≡ width → i * width + width ≤ length items
    → take ((i + 1) * width) (put_mid (i * width) ((i + 1) * width - i * width) items new) ≡ take (i * width) items ++ new
next_part_of_slice i width items new wide within =
    take-put_mid (i * width) ((i + 1) * width - i * width) items new ((i + 1) * width) (omega arith) (omega arith)

-- and in a `Vec`
pub next_part : (i width len : ℕ) (items was new : List ℕ) → was ≡ items → length was ≡ len → length new ≡ width → i * width + width ≤ len
    → let after = put_mid (i * width) ((i + 1) * width - i * width) was new in
    take ((i + 1) * width) (take len (after ++ drop (length after) items)) ≡ take (i * width) items ++ new
next_part i width len items was new e count wide within =
    let after = put_mid (i * width) ((i + 1) * width - i * width) was new in
    let whole : length after ≡ len = length-put_mid (i * width) ((i + 1) * width - i * width) was new (omega arith) (omega arith) ∙ count in
    ap (take ((i + 1) * width)) (take_at after (drop (length after) items) len whole)
    ∙ next_part_of_slice i width was new wide (omega arith)
    ∙ ap (λ xs. take (i * width) xs ++ new) e
