-- The elements before a position of a list, the last of them first.
use Rattle.std.proofs.Common.{◌≡◌, ℕ, ◌+◌, ◌<◌, ◌==◌, cond, List, [], ◌∷◌, length, get_or, take, drop, map, reverse, Some, refl, sym, ap, ◌∙◌}
use Rattle.std.proofs.lemmas.List.{at_drop_more, map-append, reverse-append, take_more}
use Rattle.std.proofs.lemmas.List.Sorted.{IsPermutation-reverse, list_any-IsPermutation}
use Rattle.std.specs.List.{slice_get}
use Rattle.std.specs.List.Sorted.{IsPermutation}
use Rattle.std.specs.Option.{option_or}
use Rattle.sw_ring.specs.Ring.{duplicate_after, has_at, is_among, option_is, twice_after, twice_in}

reverse_more : {X : Type 0} (xs : List X) (i : ℕ) (d : X) → i < length xs → reverse (take (i + 1) xs) ≡ get_or xs i d ∷ reverse (take i xs)
reverse_more xs i d within = ap reverse (take_more xs i d within) ∙ reverse-append (take i xs) (get_or xs i d ∷ [])

pub duplicate_step : (ids : List ℕ) (i : ℕ) → i < length ids
    → duplicate_after (reverse (take i ids)) (drop i ids)
    ≡ cond (is_among (take i ids) (get_or ids i 0)) (Some (get_or ids i 0)) (duplicate_after (reverse (take (i + 1) ids)) (drop (i + 1) ids))
duplicate_step ids i within =
    let id = get_or ids i 0 in
    let rest = drop (i + 1) ids in
    at_drop_more (duplicate_after (reverse (take i ids))) ids i 0 within
    ∙ ap (λ b. cond b (Some id) (duplicate_after (id ∷ reverse (take i ids)) rest))
    (sym (list_any-IsPermutation (λ other. other == id) (take i ids) (reverse (take i ids)) (IsPermutation-reverse (take i ids))))
    ∙ ap (λ earlier. cond (is_among (take i ids) id) (Some id) (duplicate_after earlier rest)) (sym (reverse_more ids i 0 within))

twice_in_same : (part : ℕ) (xs ys : List (List ℕ)) → IsPermutation xs ys → (row : List ℕ) → twice_in part xs row ≡ twice_in part ys row
twice_in_same part xs ys h [] = refl
twice_in_same part xs ys h (id ∷ ids) =
    ap (λ b. cond b (Some (record { part = part; id = id })) (twice_in (part + 1) xs ids)) (list_any-IsPermutation (λ row. option_is (slice_get row part) id) xs ys h)
    ∙ ap (cond (has_at part id ys) (Some (record { part = part; id = id }))) (twice_in_same (part + 1) xs ys h ids)

pub twice_step : {X : Type 0} (f : X → List ℕ) (rows : List X) (i : ℕ) (row : X) → i < length rows → row ≡ get_or rows i row
    → twice_after (reverse (map f (take i rows))) (map f (drop i rows))
    ≡ option_or (twice_in 0 (map f (take i rows)) (f row)) (twice_after (reverse (map f (take (i + 1) rows))) (map f (drop (i + 1) rows)))
twice_step f rows i row within is =
    let before = map f (take i rows) in
    let rest = map f (drop (i + 1) rows) in
    let one_more : reverse (map f (take (i + 1) rows)) ≡ f (get_or rows i row) ∷ reverse before =
    ap (λ ws. reverse (map f ws)) (take_more rows i row within) ∙ ap reverse (map-append f (take i rows) (get_or rows i row ∷ [])) ∙ reverse-append before (f (get_or rows i row) ∷ []) in
    at_drop_more (λ ws. twice_after (reverse before) (map f ws)) rows i row within
    ∙ ap (λ w. option_or (twice_in 0 (reverse before) (f w)) (twice_after (f (get_or rows i row) ∷ reverse before) rest)) (sym is)
    ∙ ap (λ found. option_or found (twice_after (f (get_or rows i row) ∷ reverse before) rest)) (sym (twice_in_same 0 before (reverse before) (IsPermutation-reverse before) (f row)))
    ∙ ap (λ earlier. option_or (twice_in 0 before (f row)) (twice_after earlier rest)) (sym one_more)
