-- Any k shares of one width and of different indices are fragments of some pieces, and of no others.
use Rattle.std.proofs.Common.{◌≡◌, ◌≢◌, ℕ, ◌+◌, ◌*◌, ◌/◌, ◌%◌, ◌<◌, List, [], length, map, get_or, refl, sym, ap, ap₂, subst, ◌∙◌, inl, inr, arith}
use Rattle.std.specs.List.{AllPairs, range_with_len}
use Rattle.std.proofs.lemmas.Bool.{cases_lt}
use Rattle.std.proofs.lemmas.List.{ext_get_or, get_or-map, get_or_default, get_or_past, length-map}
use Rattle.std.proofs.lemmas.List.Elements.{All-map}
use Rattle.std.proofs.lemmas.List.FromFn.{length-map-range_with_len, get_or-map-range_with_len}
use Rattle.std.proofs.lemmas.Nat.{div-add-mod', div-mul-add, div_below, mod-mul-add, mod_below, mul-add-lt}
use Rattle.sw_words.specs.Bytes.{IsBytes}
use Rattle.sw_cauchy.specs.Linear.{matrix_entry, IsInverse}
use Rattle.sw_cauchy.specs.Matrix.{entry, row_sum}
use Rattle.sw_cauchy.specs.Rows.{generator_rows}
use Rattle.sw_cauchy.specs.Share.{AreFragments, AreShares, Share}
use Rattle.sw_cauchy.specs.Stripe.{fragment}
use Rattle.sw_cauchy.proofs.Decoding.{positive_width}
use Rattle.sw_cauchy.proofs.Fragments.{get_or-fragment, length-fragment}
use Rattle.sw_cauchy.proofs.GeneratorRows.{IsBytes-generator_rows, matrix_entry-generator_rows}
use Rattle.sw_cauchy.proofs.Independence.{any_rows_independent}
use Rattle.sw_cauchy.proofs.Inverses.{Undoes, undone}
use Rattle.sw_cauchy.proofs.Invertible.{independent_invertible}
use Rattle.sw_cauchy.proofs.RowSums.{row_sum-lt, row_sum-same}

abbrev no_share : Share
no_share = record { index = 0; bytes = [] }

abbrev index_of : Share → ℕ
index_of share = share.index

-- the byte at a position of a share
abbrev byte_of : List Share → ℕ → ℕ → ℕ
byte_of shares t position = get_or ((get_or shares t no_share).bytes) position 0

module _ (k width : ℕ) (shares : List Share) (are : AreShares k width shares) where
  indices_differ : AllPairs (λ i j. i ≢ j) (map index_of shares)
  indices_differ i j other before within same =
      let below : j < length shares = omega (arith, within, length-map shares index_of) in
      are.distinct i j no_share before below (sym (get_or-map index_of shares i no_share other (omega (arith, before, below))) ∙ same ∙ get_or-map index_of shares j no_share other below)

  -- the rows of their indices, and an inverse of these
  abbrev rows : List ℕ
  rows = generator_rows k (map index_of shares)

  rows_inverse : (inverse : List ℕ) × IsBytes inverse × (length inverse ≡ k * k) × IsInverse k inverse rows × IsInverse k rows inverse
  rows_inverse =
      independent_invertible k rows (IsBytes-generator_rows k (map index_of shares))
      (any_rows_independent k (map index_of shares) are.small (length-map shares index_of ∙ are.count) (All-map (λ i. i < 256) index_of shares are.below) indices_differ)

  abbrev inverse : List ℕ
  inverse = rows_inverse.0

  inverse-undoes : Undoes k (matrix_entry k inverse) (matrix_entry k rows)
  inverse-undoes = record {
    units = rows_inverse.3;
    inverse_bytes = λ i t. rows_inverse.1 (i * k + t);
    matrix_bytes = λ t j. IsBytes-generator_rows k (map index_of shares) (t * k + j);
  }

  rows-undo : Undoes k (matrix_entry k rows) (matrix_entry k inverse)
  rows-undo = record {
    units = rows_inverse.4;
    inverse_bytes = λ i t. IsBytes-generator_rows k (map index_of shares) (i * k + t);
    matrix_bytes = λ t j. rows_inverse.1 (t * k + j);
  }

  byte_lt : (t position : ℕ) → byte_of shares t position < 256
  byte_lt t position = elim (cases_lt t (length shares)) [
    | inl low ↦ are.bytes t no_share low position
    | inr high ↦ subst (λ (share : Share). get_or share.bytes position 0 < 256) (sym (get_or_past shares t no_share high)) (omega arith)
  ]

  -- a share's row times the bytes at a position of pieces is the byte of its fragment there
  fragment_byte_of : (pieces : List ℕ) (t position : ℕ) → t < k → position < width
      → row_sum k (matrix_entry k rows t) (λ j. get_or pieces (j * width + position) 0) ≡ get_or (fragment k width pieces (get_or shares t no_share).index) position 0
  fragment_byte_of pieces t position h l =
      let within : t < length shares = omega (arith, h, are.count) in
      row_sum-same k _ _ _ _
      (λ j m. matrix_entry-generator_rows k (map index_of shares) t j (omega (arith, within, length-map shares index_of)) m ∙ ap (λ i. entry k i j) (get_or-map index_of shares t no_share 0 within))
      (λ j m. refl)
      ∙ sym (get_or-fragment k width pieces (get_or shares t no_share).index position l)

  -- ---- the pieces

  -- the bytes that the inverse makes of those at a position of the shares
  abbrev decoded : ℕ → ℕ → ℕ
  decoded i position = row_sum k (matrix_entry k inverse i) (λ t. byte_of shares t position)

  decoded_lt : (i position : ℕ) → decoded i position < 256
  decoded_lt i position = row_sum-lt k _ _ (λ t m. rows_inverse.1 (i * k + t)) (λ t m. byte_lt t position)

  abbrev pieces : List ℕ
  pieces = map (λ p. decoded (p / width) (p % width)) (range_with_len 0 (k * width))

  length-pieces : length pieces ≡ k * width
  length-pieces = length-map-range_with_len _ 0 (k * width)

  IsBytes-pieces : IsBytes pieces
  IsBytes-pieces p = elim (cases_lt p (k * width)) [
    | inl low ↦
        subst (λ n. n < 256) (sym (get_or-map-range_with_len (λ p. decoded (p / width) (p % width)) 0 (k * width) p p 0 low (omega arith))) (decoded_lt (p / width) (p % width))
    | inr high ↦ subst (λ n. n < 256) (sym (get_or_past pieces p 0 (omega (arith, high, length-pieces)))) (omega arith)
  ]

  get_or-pieces : (i position : ℕ) → i < k → position < width → get_or pieces (i * width + position) 0 ≡ decoded i position
  get_or-pieces i position h l =
      get_or-map-range_with_len (λ p. decoded (p / width) (p % width)) 0 (k * width) (i * width + position) (i * width + position) 0 (omega (arith, mul-add-lt i width position k h l)) (omega arith)
      ∙ ap₂ decoded (div-mul-add i width position l) (mod-mul-add i width position l)

  -- their fragments are the shares
  share_is_fragment : (t : ℕ) → t < k → (get_or shares t no_share).bytes ≡ fragment k width pieces (get_or shares t no_share).index
  share_is_fragment t h =
      let share = get_or shares t no_share in
      let wide : length share.bytes ≡ width = are.wide t no_share (omega (arith, h, are.count)) in
      ext_get_or 0 _ _ (wide ∙ sym (length-fragment k width pieces share.index))
      (λ position within. let l : position < width = omega (arith, within, wide) in
      sym (undone k (matrix_entry k rows) (matrix_entry k inverse) (λ s. byte_of shares s position) rows-undo (λ s. byte_lt s position) t h)
      ∙ row_sum-same k _ _ _ _ (λ j m. refl) (λ j m. sym (get_or-pieces j position m l)) ∙ fragment_byte_of pieces t position h l)

  pub some_pieces : (pieces : List ℕ) × IsBytes pieces × (length pieces ≡ k * width) × AreFragments k width pieces shares
  some_pieces = (
    pieces,
    IsBytes-pieces,
    length-pieces,
    (λ t other below.
        subst (λ (share : Share). share.bytes ≡ fragment k width pieces share.index) (get_or_default shares t no_share other below) (share_is_fragment t (omega (arith, below, are.count)))),
  )

  -- ---- no others

  -- the bytes of any pieces are those that the inverse makes
  byte_is_decoded : (pieces : List ℕ) → IsBytes pieces → AreFragments k width pieces shares → (i position : ℕ) → i < k → position < width → decoded i position ≡ get_or pieces (i * width + position) 0
  byte_is_decoded pieces bytes fragments i position h l =
      row_sum-same k _ _ _ _ (λ t m. refl)
      (λ t m. ap (λ b. get_or b position 0) (fragments t no_share (omega (arith, m, are.count))) ∙ sym (fragment_byte_of pieces t position m l))
      ∙ undone k (matrix_entry k inverse) (matrix_entry k rows) (λ j. get_or pieces (j * width + position) 0) inverse-undoes (λ j. bytes (j * width + position)) i h

  pub same_pieces : (a b : List ℕ) → IsBytes a → IsBytes b → length a ≡ k * width → length b ≡ k * width → AreFragments k width a shares → AreFragments k width b shares → a ≡ b
  same_pieces a b a_bytes b_bytes a_whole b_whole a_fragments b_fragments =
      ext_get_or 0 _ _ (a_whole ∙ sym b_whole)
      (λ p h. let within : p < k * width = omega (arith, h, a_whole) in
      let positive = positive_width k width p within in
      let i = p / width in
      let position = p % width in
      let row : i < k = div_below p width k positive within in
      let column : position < width = mod_below p width positive in
      let here : i * width + position ≡ p = div-add-mod' p width in
      ap (λ q. get_or a q 0) (sym here) ∙ sym (byte_is_decoded a a_bytes a_fragments i position row column)
      ∙ byte_is_decoded b b_bytes b_fragments i position row column ∙ ap (λ q. get_or b q 0) here)
