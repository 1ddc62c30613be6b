-- What an inverse of the rows of the generator matrix makes of fragments.
use Rattle.std.proofs.Common.{◌≡◌, ℕ, zero, suc, ◌+◌, ◌-◌, ◌*◌, ◌/◌, ◌%◌, ◌<◌, ◌≤◌, List, [], length, get_or, refl, sym, ap, ◌∙◌, arith, zero-add}
use Rattle.std.specs.List.{range_with_len}
use Rattle.std.proofs.lemmas.Bool.{lt-ltb}
use Rattle.std.proofs.lemmas.List.{ext_get_or}
use Rattle.std.proofs.lemmas.List.FromFn.{length-range_with_len, get_or-range_with_len}
use Rattle.std.proofs.lemmas.Nat.{div-add-mod', div-mul-add, div_below, mod_below}
use Rattle.sw_words.specs.Bytes.{IsBytes}
use Rattle.sw_cauchy.specs.Decodes.{Decodes}
use Rattle.sw_cauchy.specs.Elimination.{HasUnitColumns}
use Rattle.sw_cauchy.specs.Gather.{shares_of}
use Rattle.sw_cauchy.specs.Linear.{matrix_entry}
use Rattle.sw_cauchy.specs.Matrix.{entry, row_sum}
use Rattle.sw_cauchy.specs.Rows.{generator_rows, row_times, rows_times}
use Rattle.sw_cauchy.specs.Share.{Share, AreFragments}
use Rattle.sw_cauchy.specs.Stripe.{fragment, fragment_width, segment_fragment}
use Rattle.sw_cauchy.proofs.Fragments.{length-fragment, get_or-fragment, length-segment_fragment, get_or-segment_fragment}
use Rattle.sw_cauchy.proofs.Parts.{length-parts, get_or-part}
use Rattle.sw_cauchy.proofs.GeneratorRows.{entry-lt, IsBytes-generator_rows, matrix_entry-generator_rows}
use Rattle.sw_cauchy.proofs.Inverses.{Undoes, undone, undone_in_row}
use Rattle.sw_cauchy.proofs.RowSums.{row_sum-same}
use Rattle.sw_cauchy.proofs.RowTimes.{length-row_times, get_or-row_times}
use Rattle.sw_cauchy.proofs.Shares.{length-shares_of, share_index, share_byte}
use Rattle.sw_cauchy.proofs.UnitMatrix.{unit_product}

-- the unit matrix decodes the data fragments
pub Decodes-unit : (k : ℕ) (unit : List ℕ) → length unit ≡ k * k → IsBytes unit → HasUnitColumns k unit k → Decodes k unit (range_with_len 0 k)
Decodes-unit k unit square bytes is_unit =
    let indices = range_with_len 0 k in
    let count = length-range_with_len 0 k in
    record {
      count = count;
      square = square;
      bytes = bytes;
      inverse = λ i j h l.
          unit_product k unit (generator_rows k indices) is_unit (IsBytes-generator_rows k indices) i j h l
          ∙ matrix_entry-generator_rows k indices i j (omega (arith, count)) l
          ∙ ap (λ n. entry k n j) (get_or-range_with_len 0 k i 0 h ∙ zero-add i)
          ∙ rw (lt-ltb i k h) refl;
    }

-- the decoding matrix undoes the rows of its indices
decodes-undoes : (k : ℕ) (matrix indices : List ℕ) → Decodes k matrix indices → Undoes k (matrix_entry k matrix) (λ t. entry k (get_or indices t 0))
decodes-undoes k matrix indices decodes = record {
  units = λ i j h l.
      row_sum-same k _ _ _ _ (λ t m. refl)
      (λ t m. sym (matrix_entry-generator_rows k indices t j (omega (arith, decodes.count)) l))
      ∙ decodes.inverse i j h l;
  inverse_bytes = λ i t. decodes.bytes (i * k + t);
  matrix_bytes = λ t j. entry-lt k (get_or indices t 0) j;
}

-- the byte at a position of a share
share_sum : (k width : ℕ) (indices bytes pieces : List ℕ) → AreFragments k width pieces (shares_of width indices bytes) → (t position : ℕ) → t < length indices → position < width
    → get_or bytes (t * width + position) 0 ≡ row_sum k (entry k (get_or indices t 0)) (λ j. get_or pieces (j * width + position) 0)
share_sum k width indices bytes pieces are t position h l =
    let none : Share = record { index = 0; bytes = [] } in
    sym (share_byte width indices bytes t position none h l)
    ∙ ap (λ b. get_or b position 0) (are t none (omega (arith, length-shares_of width indices bytes)))
    ∙ get_or-fragment k width pieces (get_or (shares_of width indices bytes) t none).index position l
    ∙ ap (λ i. row_sum k (entry k i) (λ j. get_or pieces (j * width + position) 0)) (share_index width indices bytes t none 0 h)

-- the byte at a position of a piece
piece_byte : (k width : ℕ) (matrix indices bytes pieces : List ℕ) → Decodes k matrix indices → IsBytes pieces → AreFragments k width pieces (shares_of width indices bytes)
    → (i position : ℕ) → i < k → position < width → row_sum k (matrix_entry k matrix i) (λ t. get_or bytes (t * width + position) 0) ≡ get_or pieces (i * width + position) 0
piece_byte k width matrix indices bytes pieces decodes ps are i position h l =
    row_sum-same k _ _ _ _ (λ t m. refl) (λ t m. share_sum k width indices bytes pieces are t position (omega (arith, decodes.count)) l)
    ∙ undone k (matrix_entry k matrix) (λ t. entry k (get_or indices t 0)) (λ j. get_or pieces (j * width + position) 0) (decodes-undoes k matrix indices decodes)
    (λ j. ps (j * width + position)) i h

-- a position has a piece only where the width is not 0
pub positive_width : (k width position : ℕ) → position < k * width → 0 < width
positive_width k zero position h = absurd (omega arith)
positive_width k (suc w) position h = omega arith

-- as many bytes as k pieces have
pub length-rows_times : (k width : ℕ) (matrix pieces : List ℕ) → length (rows_times k width matrix pieces k) ≡ k * width
length-rows_times k width matrix pieces =
    length-parts (λ i. row_times k width (matrix_entry k matrix i) pieces) width (range_with_len 0 k) (λ i. length-row_times k width (matrix_entry k matrix i) pieces)
    ∙ ap (λ n. n * width) (length-range_with_len 0 k)

-- the pieces are decoded
pub pieces_decoded : (k width : ℕ) (matrix indices bytes pieces : List ℕ) → Decodes k matrix indices → IsBytes pieces → length pieces ≡ k * width
    → AreFragments k width pieces (shares_of width indices bytes) → rows_times k width matrix bytes k ≡ pieces
pieces_decoded k width matrix indices bytes pieces decodes ps whole are =
    let f : ℕ → List ℕ = λ i. row_times k width (matrix_entry k matrix i) bytes in
    let wide : (i : ℕ) → length (f i) ≡ width = λ i. length-row_times k width (matrix_entry k matrix i) bytes in
    let count : length (rows_times k width matrix bytes k) ≡ k * width = length-rows_times k width matrix bytes in
    ext_get_or 0 _ _ (count ∙ sym whole)
    (λ p h. let within : p < k * width = omega arith in
    let positive = positive_width k width p within in
    let i = p / width in
    let position = p % width in
    let row : i < k = div_below p width k positive within in
    let column : position < width = mod_below p width positive in
    let here : i * width + position ≡ p = div-add-mod' p width in
    ap (λ q. get_or (rows_times k width matrix bytes k) q 0) (sym here)
    ∙ get_or-part f width (range_with_len 0 k) i position wide (omega (arith, length-range_with_len 0 k)) column
    ∙ ap (λ j. get_or (f j) position 0) (get_or-range_with_len 0 k i 0 row ∙ zero-add i)
    ∙ get_or-row_times k width (matrix_entry k matrix i) bytes position column
    ∙ piece_byte k width matrix indices bytes pieces decodes ps are i position row column ∙ ap (λ q. get_or pieces q 0) here)

-- a k-th of a square matrix of k rows is one of them
square_width : (k : ℕ) → 1 ≤ k → k ≡ fragment_width k (k * k)
square_width k some = sym (div-mul-add k k (k - 1) (omega (arith, some)))

-- so a fragment of it is as wide as its rows
pub length-combined_row : (k : ℕ) (matrix : List ℕ) (i : ℕ) → 1 ≤ k → length matrix ≡ k * k → length (segment_fragment k matrix i) ≡ k
length-combined_row k matrix i some square = length-segment_fragment k matrix i ∙ ap (fragment_width k) square ∙ sym (square_width k some)

-- and is a sum of them
row_entry : (k : ℕ) (matrix : List ℕ) (i t : ℕ) → 1 ≤ k → length matrix ≡ k * k → t < k
    → get_or (segment_fragment k matrix i) t 0 ≡ row_sum k (entry k i) (λ j. matrix_entry k matrix j t)
row_entry k matrix i t some square h = get_or-segment_fragment k matrix i k t (square_width k some ∙ ap (fragment_width k) (sym square)) h

-- a fragment is decoded
pub fragment_decoded : (k width : ℕ) (matrix indices bytes pieces row : List ℕ) (i : ℕ) → Decodes k matrix indices → IsBytes pieces
    → AreFragments k width pieces (shares_of width indices bytes) → 1 ≤ k → length matrix ≡ k * k → row ≡ segment_fragment k matrix i
    → row_times k width (λ t. get_or row t 0) bytes ≡ fragment k width pieces i
fragment_decoded k width matrix indices bytes pieces row i decodes ps are some square made =
    ext_get_or 0 _ _ (length-row_times k width (λ t. get_or row t 0) bytes ∙ sym (length-fragment k width pieces i))
    (λ position h. let within : position < width = omega (arith, length-row_times k width (λ t. get_or row t 0) bytes) in
    get_or-row_times k width (λ t. get_or row t 0) bytes position within
    ∙ row_sum-same k _ _ _ _ (λ t m. ap (λ r. get_or r t 0) made ∙ row_entry k matrix i t some square m)
    (λ t m. share_sum k width indices bytes pieces are t position (omega (arith, decodes.count)) within)
    ∙ undone_in_row k (entry k i) (matrix_entry k matrix) (λ t. entry k (get_or indices t 0)) (λ j. get_or pieces (j * width + position) 0)
    (decodes-undoes k matrix indices decodes) (entry-lt k i) (λ j. ps (j * width + position))
    ∙ sym (get_or-fragment k width pieces i position within))
