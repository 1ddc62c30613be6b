-- Headers: they are read and written field by field, and no two have the same bytes.
use Rattle.std.proofs.Common.{◌≡◌, ◌≤◌, ◌<◌, ◌^◌, ℕ, ◌+◌, List, [], ◌∷◌, ◌++◌, length, slice_index, refl, sym, ◌∙◌, arith, append_assoc, length-append}
use Rattle.std.specs.Int.{w16, w32, w64, to_be_bytes}
use Rattle.sw_words.specs.Bytes.{IsBytes}
use Rattle.sw_archive.specs.Fault.{Opens}
use Rattle.sw_archive.specs.Header.{HeaderModel, IsHeader, opening}
use Rattle.sw_archive.proofs.Cuts.{Front, cut, cut_16, cut_32, cut_64, front_of, number_16, number_32, number_64}

pub four_cells : (xs : List ℕ) → length xs ≡ 4 → xs ≡ slice_index xs 0 ∷ slice_index xs 1 ∷ slice_index xs 2 ∷ slice_index xs 3 ∷ []
four_cells [] e = absurd (omega (arith, e))
four_cells (a ∷ []) e = absurd (omega (arith, e))
four_cells (a ∷ b ∷ []) e = absurd (omega (arith, e))
four_cells (a ∷ b ∷ c ∷ []) e = absurd (omega (arith, e))
four_cells (a ∷ b ∷ c ∷ d ∷ []) e = refl
four_cells (a ∷ b ∷ c ∷ d ∷ x ∷ xs) e = absurd (omega (arith, e))

-- the bytes, taken field by field
pub opening_taken : (h : HeaderModel) (bytes magic r0 small r1 r2 r3 r4 md5 r5 r6 r7 rest : List ℕ)
    → bytes ≡ magic ++ r0 → magic ≡ h.magic → r0 ≡ small ++ r1 → small ≡ h.version ∷ h.k ∷ h.m ∷ h.index ∷ []
    → r1 ≡ to_be_bytes w32 h.segment ++ r2 → r2 ≡ to_be_bytes w64 h.stamp ++ r3 → r3 ≡ to_be_bytes w64 h.body_length ++ r4
    → r4 ≡ md5 ++ r5 → md5 ≡ h.body_md5 → r5 ≡ to_be_bytes w16 h.path_length ++ r6 → r6 ≡ to_be_bytes w16 h.head_length ++ r7
    → r7 ≡ to_be_bytes w32 h.payload_length ++ rest
    → bytes ≡ opening h rest
unfolding opening
opening_taken h bytes magic r0 small r1 r2 r3 r4 md5 r5 r6 r7 rest e0 m e1 s e2 e3 e4 e5 d e6 e7 e8 = rw (e0, e1, e2, e3, e4, e5, e6, e7, e8, m, s, d) refl

-- the bytes, added field by field
pub opening_added : (h : HeaderModel) (out o1 o2 o3 o4 o5 o6 o7 o8 o9 : List ℕ)
    → o1 ≡ out ++ h.magic → o2 ≡ o1 ++ h.version ∷ h.k ∷ h.m ∷ h.index ∷ [] → o3 ≡ o2 ++ to_be_bytes w32 h.segment → o4 ≡ o3 ++ to_be_bytes w64 h.stamp
    → o5 ≡ o4 ++ to_be_bytes w64 h.body_length → o6 ≡ o5 ++ h.body_md5 → o7 ≡ o6 ++ to_be_bytes w16 h.path_length → o8 ≡ o7 ++ to_be_bytes w16 h.head_length
    → o9 ≡ o8 ++ to_be_bytes w32 h.payload_length → o9 ≡ out ++ opening h []
unfolding opening
opening_added h out o1 o2 o3 o4 o5 o6 o7 o8 o9 e1 e2 e3 e4 e5 e6 e7 e8 e9 = rw (e9, e8, e7, e6, e5, e4, e3, e2, e1) (simp append_assoc)

pub opening-append : (h : HeaderModel) (x y : List ℕ) → opening h x ++ y ≡ opening h (x ++ y)
unfolding opening
opening-append h x y = simp append_assoc

pub length-opening_any : (h : HeaderModel) (x : List ℕ) → length (opening h x) ≡ length h.magic + length h.body_md5 + 32 + length x
unfolding opening
length-opening_any h x = simp length-append (omega arith)

pub length-opening : (h : HeaderModel) (x : List ℕ) → IsHeader h → length (opening h x) ≡ 52 + length x
unfolding opening
length-opening h x fits = simp length-append (omega (arith, fits.magic, fits.body_md5))

-- ---- one header

abbrev header : List ℕ → ℕ → ℕ → ℕ → ℕ → ℕ → ℕ → ℕ → List ℕ → ℕ → ℕ → ℕ → HeaderModel
header magic version k m index segment stamp body_length body_md5 path_length head_length payload_length = record {
  magic = magic;
  version = version;
  k = k;
  m = m;
  index = index;
  segment = segment;
  stamp = stamp;
  body_length = body_length;
  body_md5 = body_md5;
  path_length = path_length;
  head_length = head_length;
  payload_length = payload_length;
}

-- headers whose fields are equal
pub same_header : (a b : HeaderModel) → a.magic ≡ b.magic → a.version ≡ b.version → a.k ≡ b.k → a.m ≡ b.m → a.index ≡ b.index → a.segment ≡ b.segment
    → a.stamp ≡ b.stamp → a.body_length ≡ b.body_length → a.body_md5 ≡ b.body_md5 → a.path_length ≡ b.path_length → a.head_length ≡ b.head_length
    → a.payload_length ≡ b.payload_length → a ≡ b
same_header a b magic version k m index segment stamp body_length body_md5 path_length head_length payload_length =
    let all : header a.magic a.version a.k a.m a.index a.segment a.stamp a.body_length a.body_md5 a.path_length a.head_length a.payload_length
    ≡ header b.magic b.version b.k b.m b.index b.segment b.stamp b.body_length b.body_md5 b.path_length b.head_length b.payload_length = cc in
    all

-- bytes have one header, and one list of bytes behind it
pub one_opening : (a b : HeaderModel) (x y : List ℕ) → IsHeader a → IsHeader b → opening a x ≡ opening b y → (a ≡ b) × (x ≡ y)
unfolding opening
one_opening a b x y a_fits b_fits e =
    let r0 = cut a.magic b.magic _ _ (a_fits.magic ∙ sym b_fits.magic) e in
    let r1 = cut (a.version ∷ a.k ∷ a.m ∷ a.index ∷ []) (b.version ∷ b.k ∷ b.m ∷ b.index ∷ []) _ _ refl r0.1 in
    let r2 = cut_32 a.segment b.segment _ _ a_fits.segment b_fits.segment r1.1 in
    let r3 = cut_64 a.stamp b.stamp _ _ a_fits.stamp b_fits.stamp r2.1 in
    let r4 = cut_64 a.body_length b.body_length _ _ a_fits.body_length b_fits.body_length r3.1 in
    let r5 = cut a.body_md5 b.body_md5 _ _ (a_fits.body_md5 ∙ sym b_fits.body_md5) r4.1 in
    let r6 = cut_16 a.path_length b.path_length _ _ a_fits.path_length b_fits.path_length r5.1 in
    let r7 = cut_16 a.head_length b.head_length _ _ a_fits.head_length b_fits.head_length r6.1 in
    let r8 = cut_32 a.payload_length b.payload_length _ _ a_fits.payload_length b_fits.payload_length r7.1 in
    let small : a.version ∷ a.k ∷ a.m ∷ a.index ∷ [] ≡ b.version ∷ b.k ∷ b.m ∷ b.index ∷ [] = r1.0 in
    (same_header a b r0.0 (cc) (cc) (cc) (cc) r2.0 r3.0 r4.0 r5.0 r6.0 r7.0 r8.0, r8.1)

-- ---- some header

enough : (count more n : ℕ) → count + more ≤ n → count ≤ n
enough count more n long = omega arith

behind_enough : (count more n m : ℕ) → n + count ≡ m → count + more ≤ m → more ≤ n
behind_enough count more n m left long = omega arith

both_left : (a b i j k : ℕ) → i + a ≡ j → j + b ≡ k → i + (a + b) ≡ k
both_left a b i j k first second = omega arith

-- the last three numbers of a header, and what is behind each
record Lengths (bytes : List ℕ) : Type 0 where
  path_length : ℕ
  head_length : ℕ
  payload_length : ℕ
  behind_path : List ℕ
  behind_head : List ℕ
  rest : List ℕ
  path_split : bytes ≡ to_be_bytes w16 path_length ++ behind_path
  head_split : behind_path ≡ to_be_bytes w16 head_length ++ behind_head
  payload_split : behind_head ≡ to_be_bytes w32 payload_length ++ rest
  path_fits : path_length < 2 ^ 16
  head_fits : head_length < 2 ^ 16
  payload_fits : payload_length < 2 ^ 32
  left : length rest + 8 ≡ length bytes

lengths : (bytes : List ℕ) → 8 ≤ length bytes → IsBytes bytes → Lengths bytes
lengths bytes long are =
    let path = number_16 bytes (enough 2 6 (length bytes) long) are in
    let behind = behind_enough 2 6 (length path.rest) (length bytes) path.left long in
    let head = number_16 path.rest (enough 2 4 (length path.rest) behind) path.rest_bytes in
    let payload = number_32 head.rest (behind_enough 2 4 (length head.rest) (length path.rest) head.left behind) head.rest_bytes in
    record {
      path_length = path.number;
      head_length = head.number;
      payload_length = payload.number;
      behind_path = path.rest;
      behind_head = head.rest;
      rest = payload.rest;
      path_split = path.split;
      head_split = head.split;
      payload_split = payload.split;
      path_fits = path.fits;
      head_fits = head.fits;
      payload_fits = payload.fits;
      left = both_left 6 2 (length payload.rest) (length path.rest) (length bytes)
          (both_left 4 2 (length payload.rest) (length head.rest) (length path.rest) payload.left head.left) path.left;
    }

-- the three before them, and what is behind each
record Sizes (bytes : List ℕ) : Type 0 where
  segment : ℕ
  stamp : ℕ
  body_length : ℕ
  behind_segment : List ℕ
  behind_stamp : List ℕ
  rest : List ℕ
  segment_split : bytes ≡ to_be_bytes w32 segment ++ behind_segment
  stamp_split : behind_segment ≡ to_be_bytes w64 stamp ++ behind_stamp
  body_split : behind_stamp ≡ to_be_bytes w64 body_length ++ rest
  segment_fits : segment < 2 ^ 32
  stamp_fits : stamp < 2 ^ 64
  body_fits : body_length < 2 ^ 64
  left : length rest + 20 ≡ length bytes
  rest_bytes : IsBytes rest

sizes : (bytes : List ℕ) → 20 ≤ length bytes → IsBytes bytes → Sizes bytes
sizes bytes long are =
    let segment = number_32 bytes (enough 4 16 (length bytes) long) are in
    let behind = behind_enough 4 16 (length segment.rest) (length bytes) segment.left long in
    let stamp = number_64 segment.rest (enough 8 8 (length segment.rest) behind) segment.rest_bytes in
    let body = number_64 stamp.rest (behind_enough 8 8 (length stamp.rest) (length segment.rest) stamp.left behind) stamp.rest_bytes in
    record {
      segment = segment.number;
      stamp = stamp.number;
      body_length = body.number;
      behind_segment = segment.rest;
      behind_stamp = stamp.rest;
      rest = body.rest;
      segment_split = segment.split;
      stamp_split = stamp.split;
      body_split = body.split;
      segment_fits = segment.fits;
      stamp_fits = stamp.fits;
      body_fits = body.fits;
      left = both_left 16 4 (length body.rest) (length segment.rest) (length bytes)
          (both_left 8 8 (length body.rest) (length stamp.rest) (length segment.rest) body.left stamp.left) segment.left;
      rest_bytes = body.rest_bytes;
    }

-- a header, and the bytes behind it
pub record Opened (bytes : List ℕ) : Type 0 where
  pub header : HeaderModel
  pub rest : List ℕ
  pub opens : Opens bytes header rest
  pub left : length rest + 52 ≡ length bytes

opened_by : (bytes : List ℕ) (magic : Front 4 bytes) (small : Front 4 magic.rest) (sizes : Sizes small.rest) (body_md5 : Front 16 sizes.rest) → Lengths body_md5.rest → Opened bytes
opened_by bytes magic small sizes body_md5 lengths =
    let told = header magic.front (slice_index small.front 0) (slice_index small.front 1) (slice_index small.front 2) (slice_index small.front 3) sizes.segment sizes.stamp sizes.body_length body_md5.front
    lengths.path_length lengths.head_length lengths.payload_length in
    let end = length lengths.rest in
    record {
      header = told;
      rest = lengths.rest;
      opens = record {
        fits = record {
          magic = magic.long;
          segment = sizes.segment_fits;
          stamp = sizes.stamp_fits;
          body_length = sizes.body_fits;
          body_md5 = body_md5.long;
          path_length = lengths.path_fits;
          head_length = lengths.head_fits;
          payload_length = lengths.payload_fits;
        };
        spelled = opening_taken told bytes magic.front magic.rest small.front small.rest sizes.behind_segment sizes.behind_stamp sizes.rest body_md5.front body_md5.rest lengths.behind_path lengths.behind_head lengths.rest
            magic.split refl small.split (four_cells small.front small.long) sizes.segment_split sizes.stamp_split sizes.body_split body_md5.split refl lengths.path_split lengths.head_split lengths.payload_split;
      };
      left = both_left 48 4 end (length magic.rest) (length bytes)
          (both_left 44 4 end (length small.rest) (length magic.rest)
          (both_left 24 20 end (length sizes.rest) (length small.rest) (both_left 8 16 end (length body_md5.rest) (length sizes.rest) lengths.left body_md5.left) sizes.left) small.left) magic.left;
    }

-- bytes have one where they are long enough
pub opened : (bytes : List ℕ) → 52 ≤ length bytes → IsBytes bytes → Opened bytes
opened bytes long are =
    let magic = front_of 4 bytes (enough 4 48 (length bytes) long) are in
    let behind_magic = behind_enough 4 48 (length magic.rest) (length bytes) magic.left long in
    let small = front_of 4 magic.rest (enough 4 44 (length magic.rest) behind_magic) magic.rest_bytes in
    let behind_small = behind_enough 4 44 (length small.rest) (length magic.rest) small.left behind_magic in
    let sized = sizes small.rest (enough 20 24 (length small.rest) behind_small) small.rest_bytes in
    let behind_sizes = behind_enough 20 24 (length sized.rest) (length small.rest) sized.left behind_small in
    let body_md5 = front_of 16 sized.rest (enough 16 8 (length sized.rest) behind_sizes) sized.rest_bytes in
    opened_by bytes magic small sized body_md5 (lengths body_md5.rest (behind_enough 16 8 (length body_md5.rest) (length sized.rest) body_md5.left behind_sizes) body_md5.rest_bytes)
