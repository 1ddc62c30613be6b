-- Segments of a body and payloads, one segment after the other.
use Rattle.std.proofs.Common.{◌≡◌, ℕ, zero, suc, ◌+◌, ◌-◌, ◌*◌, ◌/◌, ◌%◌, ◌<◌, ◌≤◌, List, [], ◌∷◌, ◌++◌, length, take, drop, map, min, refl, sym, ap, ◌∙◌, inl, inr, arith, append_assoc, length-append, length-drop, length-take}
use Rattle.std.specs.Fork.{slice_chunk}
use Rattle.std.specs.List.{flat_map, range_with_len}
use Rattle.std.specs.Slice.Iter.{chunk_count}
use Rattle.std.proofs.lemmas.Bool.{cases_lt}
use Rattle.std.proofs.lemmas.List.{drop-drop, drop_at, drop_min, nil_from_length, take_at, take_min}
use Rattle.std.proofs.Math.Nat.{add-mul-div_left, add-mul-mod_self_left, div-eq_of_lt, div-le_of_le-mul, mod-eq_of_lt, mul-le-mul_left, mul_comm}
use Rattle.sw_cauchy.specs.Stripe.{fragment_width, segment_fragment}
use Rattle.sw_cauchy.proofs.Fragments.{length-segment_fragment}
use Rattle.sw_archive.specs.Archive.{payload_length}
use Rattle.sw_archive.specs.Put.{payload, segments}

-- ---- widths

pub fragment_width-zero : (k : ℕ) → 0 < k → fragment_width k 0 ≡ 0
fragment_width-zero k some = div-eq_of_lt (omega arith)

times_more : (k n : ℕ) → 0 < k → suc n + (k - 1) ≤ k * suc n
times_more zero n some = elim some [ ]
times_more (suc j) n some = omega (arith, mul_comm (suc j) (suc n))

pub fragment_width-le : (k bytes : ℕ) → 0 < k → fragment_width k bytes ≤ bytes
fragment_width-le k zero some = omega (arith, fragment_width-zero k some)
fragment_width-le k (suc n) some = div-le_of_le-mul k (times_more k n some)

-- ---- the length of a payload

one_width_more : (a w r : ℕ) → (a + 1) * w + r ≡ w + (a * w + r)
one_width_more a w r = omega (arith, mul_comm (a + 1) w, mul_comm a w)

-- of a whole segment and what is behind it
pub payload_length-step : (k size total : ℕ) → 0 < size → size ≤ total → payload_length k size total ≡ fragment_width k size + payload_length k size (total - size)
payload_length-step k size total whole le =
    let split : total ≡ (total - size) + size * 1 = omega arith in
    let quotient : total / size ≡ (total - size) / size + 1 = ap (λ (n : ℕ). n / size) split ∙ add-mul-div_left (total - size) 1 whole in
    let rest : total % size ≡ (total - size) % size = ap (λ (n : ℕ). n % size) split ∙ add-mul-mod_self_left (total - size) size 1 in
    ap (λ n. n * fragment_width k size + fragment_width k (total % size)) quotient
    ∙ ap (λ n. ((total - size) / size + 1) * fragment_width k size + fragment_width k n) rest
    ∙ one_width_more ((total - size) / size) (fragment_width k size) (fragment_width k ((total - size) % size))

-- of a last segment
pub payload_length-last : (k size total : ℕ) → total < size → payload_length k size total ≡ fragment_width k total
payload_length-last k size total short =
    let none : total / size ≡ 0 = div-eq_of_lt short in
    let rest : total % size ≡ total = mod-eq_of_lt short in
    let only : 0 * fragment_width k size + fragment_width k (total % size) ≡ fragment_width k (total % size) = omega arith in
    ap (λ n. n * fragment_width k size + fragment_width k (total % size)) none ∙ only ∙ ap (λ n. fragment_width k n) rest

pub payload_length-zero : (k size : ℕ) → 0 < k → 0 < size → payload_length k size 0 ≡ 0
payload_length-zero k size some whole = payload_length-last k size 0 whole ∙ fragment_width-zero k some

-- a payload's length, cut behind the first segment
pub payload_length-cut : (k size total : ℕ) → 0 < k → 0 < size → payload_length k size total ≡ fragment_width k (min size total) + payload_length k size (total - min size total)
payload_length-cut k size total some whole = elim (cases_lt total size) [
  | inl short ↦
      let least : min size total ≡ total = omega arith in
      let none : total - min size total ≡ 0 = omega arith in
      payload_length-last k size total short
      ∙ sym (ap (λ n. fragment_width k n + payload_length k size (total - min size total)) least ∙ ap (λ n. fragment_width k total + payload_length k size n) none
      ∙ ap (λ n. fragment_width k total + n) (payload_length-zero k size some whole) ∙ omega arith)
  | inr long ↦
      let least : min size total ≡ size = omega arith in
      payload_length-step k size total whole long ∙ sym (ap (λ n. fragment_width k n + payload_length k size (total - n)) least)
]

pub payload_length-le : (k size total : ℕ) → 0 < k → 0 < size → payload_length k size total ≤ total
payload_length-le k size total some whole =
    let many : total / size * fragment_width k size ≤ total / size * size = mul-le-mul_left (total / size) (fragment_width-le k size some) in
    let last : fragment_width k (total % size) ≤ total % size = fragment_width-le k (total % size) some in
    omega (arith, mul_comm (total / size) size)

-- ---- the segments of a body

next_start : (size s : ℕ) → (s + 1) * size ≡ size + s * size
next_start size s = omega (arith, mul_comm (s + 1) size, mul_comm s size)

map-shifted : (f g : ℕ → List ℕ) (from n : ℕ) → ((s : ℕ) → f (s + 1) ≡ g s) → map f (range_with_len (from + 1) n) ≡ map g (range_with_len from n)
map-shifted f g from zero same = refl
map-shifted f g from (suc n) same =
    let first : f (from + 1) ≡ g from = same from in
    let rest : map f (range_with_len (from + 1 + 1) n) ≡ map g (range_with_len (from + 1) n) = map-shifted f g (from + 1) n same in
    ap (λ (x : List ℕ). x ∷ map f (range_with_len (from + 1 + 1) n)) first ∙ ap (λ (xs : List (List ℕ)). g from ∷ xs) rest

chunk_count-is : (n size : ℕ) → 0 < size → chunk_count n size ≡ (n + (size - 1)) / size
chunk_count-is n size whole =
    let same : n + size - 1 ≡ n + (size - 1) = omega arith in
    let few = fragment_width-le size n whole in
    ap (λ m. min n (m / size)) same ∙ omega (arith, few)

quotient_more : (n size : ℕ) → 0 < size → 0 < n → (n + (size - 1)) / size ≡ suc (((n - size) + (size - 1)) / size)
quotient_more n size whole some = elim (cases_lt n size) [
  | inl lt ↦
      let a : n + (size - 1) ≡ (n - 1) + size * 1 = omega arith in
      let b : (n - 1) / size ≡ 0 = div-eq_of_lt (omega arith) in
      let c : (n - size) + (size - 1) ≡ size - 1 = omega arith in
      let d : (size - 1) / size ≡ 0 = div-eq_of_lt (omega arith) in
      let e : ((n - 1) + size * 1) / size ≡ (n - 1) / size + 1 = add-mul-div_left (n - 1) 1 whole in
      rw (a, e, b, c, d) refl
  | inr le ↦
      let a : n + (size - 1) ≡ ((n - size) + (size - 1)) + size * 1 = omega arith in
      let e : (((n - size) + (size - 1)) + size * 1) / size ≡ ((n - size) + (size - 1)) / size + 1 = add-mul-div_left ((n - size) + (size - 1)) 1 whole in
      ap (λ (m : ℕ). m / size) a ∙ e ∙ omega arith
]

chunk_count-more : (n size : ℕ) → 0 < size → 0 < n → chunk_count n size ≡ suc (chunk_count (n - size) size)
chunk_count-more n size whole some = chunk_count-is n size whole ∙ quotient_more n size whole some ∙ ap suc (sym (chunk_count-is (n - size) size whole))

segments-step : (size : ℕ) (body : List ℕ) → 0 < size → 0 < length body → segments size body ≡ take size body ∷ segments size (drop size body)
segments-step size body whole some =
    let n : ℕ = chunk_count (length (drop size body)) size in
    let count : chunk_count (length body) size ≡ suc n = chunk_count-more (length body) size whole some ∙ ap (λ (l : ℕ). suc (chunk_count l size)) (sym (length-drop size body)) in
    let start : 0 * size ≡ 0 = omega arith in
    let shift : map (slice_chunk body size) (range_with_len 1 n) ≡ map (slice_chunk (drop size body) size) (range_with_len 0 n) =
    map-shifted (slice_chunk body size) (slice_chunk (drop size body) size) 0 n (λ s. ap (take size) (ap (λ (k : ℕ). drop k body) (next_start size s) ∙ sym (drop-drop (s * size) size body))) in
    ap (λ (c : ℕ). map (slice_chunk body size) (range_with_len 0 c)) count
    ∙ ap (λ (k : ℕ). take size (drop k body) ∷ map (slice_chunk body size) (range_with_len 1 n)) start
    ∙ ap (λ (xs : List (List ℕ)). take size body ∷ xs) shift

-- ---- a payload

-- the fragment of the first segment, and the payload of the rest
pub payload-step : (k size : ℕ) (body : List ℕ) (index : ℕ) → 0 < size → 0 < length body
    → payload k size body index ≡ segment_fragment k (take size body) index ++ payload k size (drop size body) index
payload-step k size body index whole some = ap (flat_map (λ segment. segment_fragment k segment index)) (segments-step size body whole some)

-- the same, of a body that is cut behind its first segment
pub payload-cut : (k size : ℕ) (body front tail : List ℕ) (index : ℕ) → 0 < size → 0 < length body → body ≡ front ++ tail → length front ≡ min size (length body)
    → payload k size body index ≡ segment_fragment k front index ++ payload k size tail index
payload-cut k size body front tail index whole some split count =
    let first : take size body ≡ front = sym (take_min size body) ∙ ap (λ b. take (min size (length body)) b) split ∙ take_at front tail _ count in
    let rest : drop size body ≡ tail = sym (drop_min size body) ∙ ap (λ b. drop (min size (length body)) b) split ∙ drop_at front tail _ count in
    payload-step k size body index whole some ∙ ap (λ b. segment_fragment k b index ++ payload k size (drop size body) index) first ∙ ap (λ b. segment_fragment k front index ++ payload k size b index) rest

-- one fragment more of a payload
pub payload_added : (k size most : ℕ) (rest front tail out more whole : List ℕ) (index : ℕ) → 0 < size → most ≡ size → rest ≡ front ++ tail → length front ≡ min most (length rest) → 0 < length rest
    → more ≡ out ++ segment_fragment k front index → out ++ payload k size rest index ≡ whole → more ++ payload k size tail index ≡ whole
payload_added k size most rest front tail out more whole index positive most_is split count some grew so_far =
    let step = payload-cut k size rest front tail index positive some split (count ∙ ap (λ n. min n (length rest)) most_is) in
    ap (λ bytes. bytes ++ payload k size tail index) grew ∙ append_assoc out (segment_fragment k front index) (payload k size tail index) ∙ ap (λ bytes. out ++ bytes) (sym step) ∙ so_far

pub payload-nil : (k size : ℕ) (index : ℕ) → payload k size [] index ≡ []
payload-nil k size index =
    let none : chunk_count 0 size ≡ 0 = omega arith in
    ap (λ (count : ℕ). flat_map (λ segment. segment_fragment k segment index) (map (slice_chunk [] size) (range_with_len 0 count))) none

nothing_left : (k size : ℕ) (body : List ℕ) (index : ℕ) → 0 < k → 0 < size → length body ≡ 0 → length (payload k size body index) ≡ payload_length k size (length body)
nothing_left k size body index some whole none =
    let empty : body ≡ [] = nil_from_length body none in
    ap (λ (b : List ℕ). length (payload k size b index)) empty ∙ ap length (payload-nil k size index)
    ∙ sym (ap (payload_length k size) none ∙ payload_length-zero k size some whole)

-- of a body of at most n bytes
length-payload_up_to : (n k size : ℕ) (body : List ℕ) (index : ℕ) → 0 < k → 0 < size → length body ≤ n → length (payload k size body index) ≡ payload_length k size (length body)
length-payload_up_to zero k size body index some whole le = nothing_left k size body index some whole (omega (arith, le))
length-payload_up_to (suc n) k size body index some whole le = elim (cases_lt 0 (length body)) [
  | inr none ↦ nothing_left k size body index some whole (omega (arith, none))
  | inl more ↦
      let step : length (payload k size body index) ≡ length (segment_fragment k (take size body) index) + length (payload k size (drop size body) index) =
      ap length (payload-step k size body index whole more) ∙ length-append (segment_fragment k (take size body) index) (payload k size (drop size body) index) in
      let first : length (segment_fragment k (take size body) index) ≡ fragment_width k (length (take size body)) = length-segment_fragment k (take size body) index in
      let rest : length (payload k size (drop size body) index) ≡ payload_length k size (length (drop size body)) =
      length-payload_up_to n k size (drop size body) index some whole (omega (arith, le, more, whole, length-drop size body)) in
      elim (cases_lt (length body) size) [
        | inl short ↦
            let t : length (take size body) ≡ length body = omega (arith, length-take size body, short) in
            let d : length (drop size body) ≡ 0 = omega (arith, length-drop size body, short) in
            let r : payload_length k size (length (drop size body)) ≡ 0 = ap (payload_length k size) d ∙ payload_length-zero k size some whole in
            let f : fragment_width k (length (take size body)) ≡ fragment_width k (length body) = ap (fragment_width k) t in
            omega (arith, step, first, rest, r, f, payload_length-last k size (length body) short)
        | inr long ↦
            let t : length (take size body) ≡ size = omega (arith, length-take size body, long) in
            let r : payload_length k size (length (drop size body)) ≡ payload_length k size (length body - size) = ap (payload_length k size) (length-drop size body) in
            let f : fragment_width k (length (take size body)) ≡ fragment_width k size = ap (fragment_width k) t in
            omega (arith, step, first, rest, r, f, payload_length-step k size (length body) whole long)
      ]
]

pub length-payload : (k size : ℕ) (body : List ℕ) (index : ℕ) → 0 < k → 0 < size → length (payload k size body index) ≡ payload_length k size (length body)
length-payload k size body index some whole = length-payload_up_to (length body) k size body index some whole (omega arith)
