-- A row times pieces, byte by byte and piece by piece, and the fragments that it gives.
use Rattle.std.proofs.Common.{◌≡◌, ℕ, ◌+◌, ◌-◌, ◌*◌, ◌<◌, ◌≤◌, min, List, ◌++◌, length, map, get_or, take, drop, replicate, refl, sym, ap, ap₂, ◌∙◌, inl, inr, add-one, arith, bit_xor, length-append}
use Rattle.std.specs.List.{range_with_len}
use Rattle.std.proofs.lemmas.Bool.{cases_lt}
use Rattle.std.proofs.lemmas.List.{ext_get_or, get_or-replicate, length-replicate, length-take, length-take-le, length-drop, get_or-take, get_or-drop, get_or_past, get_or_append_left, get_or-append_right}
use Rattle.std.proofs.lemmas.List.FromFn.{length-map-range_with_len, get_or-map-range_with_len}
use lib.Bits.{xor_zero_r}
use Rattle.sw_words.specs.Bytes.{IsBytes}
use Rattle.sw_gf256.specs.Field.{product, plus_multiple}
use Rattle.sw_gf256.proofs.FieldLaws.{product_zero}
use Rattle.sw_cauchy.specs.Matrix.{row_sum}
use Rattle.sw_cauchy.specs.Rows.{generator_row, row_times}
use Rattle.sw_cauchy.specs.Stripe.{fragment, fragment_width, padded, segment_fragment}
use Rattle.sw_cauchy.proofs.Fragments.{IsBytes-padded, data_byte, get_or-padded, get_or-segment_fragment, length-segment_fragment}
use Rattle.sw_cauchy.proofs.GeneratorRows.{length-generator_row, get_or-generator_row}
use Rattle.sw_cauchy.proofs.Multiples.{length-plus_multiple, get_or-plus_multiple}
use Rattle.sw_cauchy.proofs.RowSums.{row_sum-same}

-- a row times pieces is as wide as they are
pub length-row_times : (count width : ℕ) (row : ℕ → ℕ) (pieces : List ℕ) → length (row_times count width row pieces) ≡ width
unfolding row_times
length-row_times count width row pieces = length-map-range_with_len _ 0 width

-- the byte at a position of a row times pieces
pub get_or-row_times : (count width : ℕ) (row : ℕ → ℕ) (pieces : List ℕ) (position : ℕ) → position < width
    → get_or (row_times count width row pieces) position 0 ≡ row_sum count row (λ j. get_or pieces (j * width + position) 0)
unfolding row_times
get_or-row_times count width row pieces position h =
    get_or-map-range_with_len (λ position. row_sum count row (λ j. get_or pieces (j * width + position) 0)) 0 width position position 0 h (omega arith)

-- one row, at the entries that count
pub row_times-same : (count n width w : ℕ) (f g : ℕ → ℕ) (pieces : List ℕ) → count ≡ n → width ≡ w → ((j : ℕ) → j < n → f j ≡ g j)
    → row_times count width f pieces ≡ row_times n w g pieces
row_times-same count n width w f g pieces counts widths rows =
    ext_get_or 0 _ _ (length-row_times count width f pieces ∙ widths ∙ sym (length-row_times n w g pieces))
    (λ position h. let below : position < width = omega (arith, length-row_times count width f pieces) in
    get_or-row_times count width f pieces position below
    ∙ ap (λ m. row_sum m f (λ j. get_or pieces (j * width + position) 0)) counts
    ∙ row_sum-same n f g _ _ rows (λ j l. ap (λ v. get_or pieces (j * v + position) 0) widths)
    ∙ sym (get_or-row_times n w g pieces position (omega arith)))

-- no piece
pub row_times-none : (width : ℕ) (row : ℕ → ℕ) (pieces : List ℕ) → replicate width 0 ≡ row_times 0 width row pieces
unfolding row_sum
row_times-none width row pieces =
    ext_get_or 0 _ _ (length-replicate {A = ℕ} width 0 ∙ sym (length-row_times 0 width row pieces))
    (λ i h. let within : i < width = omega (arith, length-replicate {A = ℕ} width 0) in
    get_or-replicate width i 0 0 within ∙ sym (get_or-row_times 0 width row pieces i within))

-- one more piece, as far as it goes
pub row_times-more : (count width : ℕ) (row : ℕ → ℕ) (pieces sum piece new : List ℕ) → sum ≡ row_times count width row pieces → piece ≡ take width (drop (count * width) pieces)
    → new ≡ plus_multiple (take (length piece) sum) piece (row count) → new ++ drop (length piece) sum ≡ row_times (count + 1) width row pieces
unfolding row_sum
row_times-more count width row pieces sum piece new before cut added =
    ext_get_or 0 _ _ (whole ∙ sym (length-row_times (count + 1) width row pieces))
    (λ i h. let below : i < width = omega (arith, whole) in
    elim (cases_lt i (length piece)) [ inl low ↦ in_piece i below low | inr high ↦ past_piece i below high ] ∙ ap (λ n. row_sum n row (λ j. get_or pieces (j * width + i) 0)) (sym (add-one count))
    ∙ sym (get_or-row_times (count + 1) width row pieces i below))
  where
    sum_long : length sum ≡ width
    sum_long = ap length before ∙ length-row_times count width row pieces

    piece_long : length piece ≡ min width (length pieces - count * width)
    piece_long = ap length cut ∙ length-take width (drop (count * width) pieces) ∙ ap (min width) (length-drop (count * width) pieces)

    new_long : length new ≡ length piece
    new_long = ap length added ∙ length-plus_multiple (take (length piece) sum) piece (row count) ∙ length-take-le (length piece) sum (omega (arith, piece_long, sum_long))

    whole : length (new ++ drop (length piece) sum) ≡ width
    whole = length-append new (drop (length piece) sum) ∙ omega (arith, new_long, length-drop (length piece) sum, sum_long, piece_long)

    so_far : (i : ℕ) → i < width → get_or sum i 0 ≡ row_sum count row (λ j. get_or pieces (j * width + i) 0)
    so_far i below = ap (λ xs. get_or xs i 0) before ∙ get_or-row_times count width row pieces i below

    in_piece : (i : ℕ) → i < width → i < length piece
        → get_or (new ++ drop (length piece) sum) i 0 ≡ bit_xor (row_sum count row (λ j. get_or pieces (j * width + i) 0)) (product (row count) (get_or pieces (count * width + i) 0))
    in_piece i below low =
        get_or_append_left new (drop (length piece) sum) 0 i (omega (arith, new_long)) ∙ ap (λ xs. get_or xs i 0) added
        ∙ get_or-plus_multiple (take (length piece) sum) piece (row count) i (omega (arith, length-take-le (length piece) sum (omega (arith, piece_long, sum_long)))) low
        ∙ ap₂ (λ x y. bit_xor x (product (row count) y)) (get_or-take (length piece) sum i 0 low ∙ so_far i below)
        (ap (λ xs. get_or xs i 0) cut ∙ get_or-take width (drop (count * width) pieces) i 0 below ∙ get_or-drop (count * width) pieces i 0)

    past_piece : (i : ℕ) → i < width → length piece ≤ i
        → get_or (new ++ drop (length piece) sum) i 0 ≡ bit_xor (row_sum count row (λ j. get_or pieces (j * width + i) 0)) (product (row count) (get_or pieces (count * width + i) 0))
    past_piece i below high =
        get_or-append_right new (drop (length piece) sum) (length piece) i 0 new_long high ∙ get_or-drop (length piece) sum (i - length piece) 0
        ∙ ap (λ n. get_or sum n 0) (omega (arith, high)) ∙ so_far i below
        ∙ sym (ap (bit_xor _) (ap (product (row count)) (get_or_past pieces (count * width + i) 0 (omega (arith, piece_long, below, high))) ∙ product_zero (row count))
        ∙ xor_zero_r (row_sum count row (λ j. get_or pieces (j * width + i) 0)))

-- ---- fragments

-- a row of the generator matrix gives its fragment
pub fragment_from_row : (k width : ℕ) (row segment : List ℕ) (i : ℕ) → row ≡ generator_row k i → width ≡ fragment_width k (length segment)
    → row_times (length row) width (λ j. get_or row j 0) segment ≡ segment_fragment k segment i
fragment_from_row k width row segment i made e =
    ext_get_or 0 _ _ (length-row_times (length row) width (λ j. get_or row j 0) segment ∙ e ∙ sym (length-segment_fragment k segment i))
    (λ position h. let below : position < width = omega (arith, length-row_times (length row) width (λ j. get_or row j 0) segment) in
    get_or-row_times (length row) width (λ j. get_or row j 0) segment position below
    ∙ ap (λ n. row_sum n (λ j. get_or row j 0) (λ j. get_or segment (j * width + position) 0)) (ap length made ∙ length-generator_row k i)
    ∙ row_sum-same k _ _ _ _ (λ j l. ap (λ r. get_or r j 0) made ∙ get_or-generator_row k i j l) (λ j l. refl)
    ∙ sym (get_or-segment_fragment k segment i width position e below))

-- a data fragment is its piece
pub fragment_from_piece : (k width : ℕ) (segment : List ℕ) (i : ℕ) → i < k → IsBytes segment → width ≡ fragment_width k (length segment)
    → map (λ position. get_or segment (i * width + position) 0) (range_with_len 0 width) ≡ segment_fragment k segment i
fragment_from_piece k width segment i low bytes e =
    ext_get_or 0 _ _ (length-map-range_with_len (λ position. get_or segment (i * width + position) 0) 0 width ∙ e ∙ sym (length-segment_fragment k segment i))
    (λ position h. let below : position < width = omega (arith, length-map-range_with_len (λ position. get_or segment (i * width + position) 0) 0 width) in
    get_or-map-range_with_len (λ position. get_or segment (i * width + position) 0) 0 width position position 0 below (omega arith)
    ∙ sym (ap (λ w. get_or (fragment k w (padded k segment) i) position 0) (sym e) ∙ data_byte k width i (padded k segment) position low below (IsBytes-padded k segment bytes) ∙ get_or-padded k segment (i * width + position)))
