-- The fragments of a segment: how wide each is, its bytes, how many there are, and the one at an index; the segment with
-- zeros behind it; and what is decoded from its fragments.
use Rattle.std.proofs.Common.{◌≡◌, ℕ, zero, suc, ◌+◌, ◌-◌, ◌*◌, ◌/◌, ◌<◌, ◌≤◌, List, [], ◌∷◌, ◌++◌, Result, IfOk, length, take, drop, replicate, get_or, refl, sym, ap, subst, ◌∙◌, inl, inr, arith, length-append}
use Rattle.std.specs.List.{All}
use Rattle.std.proofs.Math.Nat.{lt-div-mul-add, mul-le-mul_right, mul_comm}
use Rattle.std.proofs.lemmas.Bool.{cases_lt, lt-ltb}
use Rattle.std.proofs.lemmas.List.{ext_get_or, get_or-drop, get_or-take, get_or_past, length-drop, length-replicate, length-take-le, take_at}
use Rattle.std.proofs.lemmas.List.FromFn.{length-map-range_with_len, get_or-map-range_with_len}
use Rattle.std.proofs.lemmas.Result.{IfOk-weaker}
use Rattle.sw_words.specs.Bytes.{IsBytes}
use Rattle.sw_words.proofs.ByteLists.{IsBytes-append, IsBytes-zeros}
use Rattle.sw_cauchy.specs.Matrix.{entry, row_sum}
use Rattle.sw_cauchy.specs.Share.{AreFragments, GatherModel}
use Rattle.sw_cauchy.specs.Stripe.{fragment, fragment_byte, fragment_width, padded, segment_fragment, segment_fragments}
use Rattle.sw_cauchy.proofs.GeneratorRows.{entry-lt}
use Rattle.sw_cauchy.proofs.RowSums.{row_sum-lt, row_sum-same, row_sum-unit}

-- ---- the segment with zeros behind it

-- k pieces of a fragment's width are no less than the segment
pub width_covers : (k size : ℕ) → 1 ≤ k → size ≤ k * fragment_width k size
width_covers k size some =
    let past : size + (k - 1) < (size + (k - 1)) / k * k + k = lt-div-mul-add (omega (arith, some)) in
    let turned : (size + (k - 1)) / k * k ≡ k * ((size + (k - 1)) / k) = mul_comm ((size + (k - 1)) / k) k in
    omega (arith, past, turned, some)

-- zeros behind bytes are what is read there anyway
pub get_or-zeros : (bytes : List ℕ) (count position : ℕ) → get_or (bytes ++ replicate count 0) position 0 ≡ get_or bytes position 0
get_or-zeros [] zero position = refl
get_or-zeros [] (suc count) zero = refl
get_or-zeros [] (suc count) (suc position) = get_or-zeros [] count position
get_or-zeros (byte ∷ bytes) count zero = refl
get_or-zeros (byte ∷ bytes) count (suc position) = get_or-zeros bytes count position

-- its length
pub length-padded : (k : ℕ) (segment : List ℕ) → 1 ≤ k → length (padded k segment) ≡ k * fragment_width k (length segment)
length-padded k segment some =
    let zeros : ℕ = k * fragment_width k (length segment) - length segment in
    length-append segment (replicate zeros 0) ∙ ap (λ n. length segment + n) (length-replicate zeros 0) ∙ omega (arith, width_covers k (length segment) some)

-- its bytes
pub get_or-padded : (k : ℕ) (segment : List ℕ) (position : ℕ) → get_or (padded k segment) position 0 ≡ get_or segment position 0
get_or-padded k segment position = get_or-zeros segment _ position

-- they are bytes
pub IsBytes-padded : (k : ℕ) (segment : List ℕ) → IsBytes segment → IsBytes (padded k segment)
IsBytes-padded k segment bytes = IsBytes-append segment _ bytes (IsBytes-zeros _)

-- the segment stands at its front
pub take-padded : (k : ℕ) (segment : List ℕ) → take (length segment) (padded k segment) ≡ segment
take-padded k segment = take_at segment _ (length segment) refl

-- ---- one fragment

-- its width
pub length-fragment : (k width : ℕ) (pieces : List ℕ) (i : ℕ) → length (fragment k width pieces i) ≡ width
unfolding fragment
length-fragment k width pieces i = length-map-range_with_len (fragment_byte k width pieces i) 0 width

-- its bytes
pub get_or-fragment : (k width : ℕ) (pieces : List ℕ) (i position : ℕ) → position < width
    → get_or (fragment k width pieces i) position 0 ≡ row_sum k (entry k i) (λ j. get_or pieces (j * width + position) 0)
unfolding fragment
get_or-fragment k width pieces i position h = get_or-map-range_with_len (fragment_byte k width pieces i) 0 width position position 0 h (omega arith)

-- they are bytes
pub IsBytes-fragment : (k width : ℕ) (pieces : List ℕ) (i : ℕ) → IsBytes pieces → IsBytes (fragment k width pieces i)
IsBytes-fragment k width pieces i bytes position =
    elim (cases_lt position width) [
      | inl low ↦
          subst (λ n. n < 256) (sym (get_or-fragment k width pieces i position low))
          (row_sum-lt k (entry k i) _ (λ j h. entry-lt k i j) (λ j h. bytes (j * width + position)))
      | inr high ↦ subst (λ n. n < 256) (sym (get_or_past (fragment k width pieces i) position 0 (omega (arith, high, length-fragment k width pieces i)))) (omega arith)
    ]

-- a byte of a data fragment is that of its piece
pub data_byte : (k width i : ℕ) (pieces : List ℕ) (position : ℕ) → i < k → position < width → IsBytes pieces → get_or (fragment k width pieces i) position 0 ≡ get_or pieces (i * width + position) 0
data_byte k width i pieces position low below bytes =
    get_or-fragment k width pieces i position below
    ∙ row_sum-unit k i (entry k i) (λ j. get_or pieces (j * width + position) 0) low (λ j l. rw (lt-ltb i k low) refl) (bytes _)

-- a data fragment is its piece
pub data_fragment : (k width i : ℕ) (pieces : List ℕ) → i < k → IsBytes pieces → length pieces ≡ k * width → fragment k width pieces i ≡ take width (drop (i * width) pieces)
data_fragment k width i pieces low bytes whole =
    let more : (i + 1) * width ≤ k * width = mul-le-mul_right width (omega (arith, low)) in
    let room : width ≤ length (drop (i * width) pieces) = omega (arith, more, whole, length-drop (i * width) pieces) in
    ext_get_or 0 _ _ (length-fragment k width pieces i ∙ sym (length-take-le width (drop (i * width) pieces) room))
    (λ position within.
    let below : position < width = omega (arith, within, length-fragment k width pieces i) in
    data_byte k width i pieces position low below bytes ∙ sym (get_or-take width (drop (i * width) pieces) position 0 below ∙ get_or-drop (i * width) pieces position 0))

-- the width of a segment's
pub length-segment_fragment : (k : ℕ) (segment : List ℕ) (i : ℕ) → length (segment_fragment k segment i) ≡ fragment_width k (length segment)
length-segment_fragment k segment i = length-fragment k (fragment_width k (length segment)) (padded k segment) i

-- its bytes, from the segment without the zeros
pub get_or-segment_fragment : (k : ℕ) (segment : List ℕ) (i width position : ℕ) → width ≡ fragment_width k (length segment) → position < width
    → get_or (segment_fragment k segment i) position 0 ≡ row_sum k (entry k i) (λ j. get_or segment (j * width + position) 0)
get_or-segment_fragment k segment i width position e h =
    ap (λ w. get_or (fragment k w (padded k segment) i) position 0) (sym e) ∙ get_or-fragment k width (padded k segment) i position h
    ∙ row_sum-same k _ _ _ _ (λ j l. refl) (λ j l. get_or-padded k segment (j * width + position))

-- ---- all fragments

-- how many there are
pub length-segment_fragments : (k n : ℕ) (segment : List ℕ) → length (segment_fragments k n segment) ≡ n
length-segment_fragments k n segment = length-map-range_with_len (segment_fragment k segment) 0 n

-- the one at an index
pub get_or-segment_fragments : (k n : ℕ) (segment : List ℕ) (i : ℕ) (other : List ℕ) → i < n → get_or (segment_fragments k n segment) i other ≡ segment_fragment k segment i
get_or-segment_fragments k n segment i other h = get_or-map-range_with_len (segment_fragment k segment) 0 n i i other h (omega arith)

-- ---- decoding

-- what is decoded from fragments of a segment is the segment
pub decoded_segment : {E : Type 0} (result : Result (List ℕ) E) (gather : GatherModel) (segment : List ℕ) (size : ℕ) → 1 ≤ gather.k → IsBytes segment → length segment ≡ size
    → gather.width ≡ fragment_width gather.k (length segment) → All (λ share. share.bytes ≡ segment_fragment gather.k segment share.index) gather.shares
    → ((pieces : List ℕ) → IsBytes pieces → length pieces ≡ gather.k * gather.width → AreFragments gather.k gather.width pieces gather.shares
    → IfOk result (λ decoded. decoded ≡ take size pieces))
    → IfOk result (λ decoded. decoded ≡ segment)
decoded_segment result gather segment size some bytes long width shares decodes =
    let k = gather.k in
    let pieces = padded k segment in
    IfOk-weaker result (λ decoded. decoded ≡ take size pieces) (λ decoded. decoded ≡ segment)
    (λ decoded same. same ∙ ap (λ n. take n pieces) (sym long) ∙ take-padded k segment)
    (decodes pieces (IsBytes-padded k segment bytes) (length-padded k segment some ∙ ap (λ w. k * w) (sym width))
    (λ t other h. shares t other h ∙ ap (λ w. fragment k w pieces (get_or gather.shares t other).index) (sym width)))
