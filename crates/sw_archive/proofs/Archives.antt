-- The bytes of an archive: its header opens them, and they are those of one archive.
use Rattle.std.proofs.Common.{◌≡◌, ℕ, ◌+◌, ◌*◌, ◌==◌, ◌||◌, ◌<◌, nat_lt, false, List, [], ◌++◌, length, take, drop, None, refl, sym, ap, subst, ◌∙◌, arith, append_assoc, length-append}
use Rattle.std.proofs.lemmas.Bool.Decides.{nat_tests}
use Rattle.std.proofs.lemmas.List.{append-nil, drop_at, nil_from_length, take_at}
use Rattle.md5.specs.Md5.{md5}
use Rattle.md5.proofs.StandardFacts.{length-md5}
use Rattle.sw_words.specs.Bytes.{IsBytes}
use Rattle.sw_words.proofs.Rules.{kept, passed}
use Rattle.sw_types.specs.Head.{HeadModel}
use Rattle.sw_types.specs.Name.{NameModel, path_of}
use Rattle.sw_types.specs.Object.{ObjectModel}
use Rattle.sw_types.specs.Policy.{PolicyModel, greatest_total, policy_fault}
use Rattle.sw_types.specs.declared.policy.PolicyFault.TheVariants.{K, M, N, Q, C}
use Rattle.sw_types.proofs.Policies.{Bounds, bounds}
use Rattle.sw_archive.specs.Archive.{ArchiveModel, IsArchive, IsCode, IsSound, checked, header_of}
use Rattle.sw_archive.specs.Fault.{Opens, head_in, path_in}
use Rattle.sw_archive.specs.Header.{HeaderModel, IsHeader, opening}
use Rattle.sw_archive.specs.Parts.{head_bytes}
use Rattle.sw_archive.specs.Put.{IsPut, put_archive, put_fields}
use Rattle.sw_archive.proofs.Cuts.{cut}
use Rattle.sw_archive.proofs.Heads.{length-head, one_head}
use Rattle.sw_archive.proofs.Openings.{length-opening, one_opening, opening-append}
use Rattle.sw_archive.proofs.Paths.{length-path, one_name}
use Rattle.sw_archive.proofs.Payloads.{length-payload, payload_length-le}
use Rattle.sw_archive.proofs.Pieces.{IsBytes-joined, of_body}

-- ---- the numbers of a code

pub code_bounds : (k m segment : ℕ) → IsCode k m segment → Bounds (record { k = k; m = m; q = k; c = k; segment = segment })
code_bounds k m segment code = bounds (record { k = k; m = m; q = k; c = k; segment = segment }) code

-- those of a policy are such, whatever its quorums
pub code_of_policy : (p : PolicyModel) → policy_fault p ≡ None → IsCode p.k p.m p.segment
code_of_policy p h =
    let a = kept (p.k == 0) (K p.k) _ h in
    let b = kept (p.m == 0 || nat_lt (3 * p.k) p.m) (M p.m) _ a.1 in
    let c = kept (nat_lt greatest_total (p.k + p.m)) (N (p.k + p.m)) _ b.1 in
    let d = kept (nat_lt p.q p.k || nat_lt (p.k + p.m) p.q) (Q p.q) _ c.1 in
    let e = kept (p.c == 0 || nat_lt p.q p.c) (C p.c) _ d.1 in
    let none : (p.k == 0) ≡ false = a.0 in
    let low : nat_lt p.k p.k ≡ false = grind (arith, nat_tests) in
    let high : nat_lt (p.k + p.m) p.k ≡ false = grind (arith, nat_tests) in
    passed (p.k == 0) (K p.k) _ a.0
    (passed (p.m == 0 || nat_lt (3 * p.k) p.m) (M p.m) _ b.0
    (passed (nat_lt greatest_total (p.k + p.m)) (N (p.k + p.m)) _ c.0
    (passed (nat_lt p.k p.k || nat_lt (p.k + p.m) p.k) (Q p.k) _ (rw (low, high) refl)
    (passed (p.k == 0 || nat_lt p.k p.k) (C p.k) _ (rw (none, low) refl) e.1))))

-- ---- what stands behind the header

abbrev pub middle : ArchiveModel → List ℕ
middle archive = path_of archive.name ++ (head_bytes archive.head ++ archive.payload)

abbrev pub behind : ArchiveModel → List ℕ
behind archive = middle archive ++ md5 (checked archive)

regrouped : (path head payload digest : List ℕ) → (path ++ (head ++ payload)) ++ digest ≡ path ++ (head ++ (payload ++ digest))
regrouped path head payload digest = simp append_assoc

-- the path, the head and the payload behind a header, and the MD5
behind-parts : (archive : ArchiveModel) → behind archive ≡ path_of archive.name ++ (head_bytes archive.head ++ (archive.payload ++ md5 (checked archive)))
behind-parts archive = regrouped (path_of archive.name) (head_bytes archive.head) archive.payload (md5 (checked archive))

pub path_in-behind : (archive : ArchiveModel) → path_in (header_of archive) (behind archive) ≡ path_of archive.name
path_in-behind archive = ap (take (length (path_of archive.name))) (behind-parts archive) ∙ take_at (path_of archive.name) _ _ refl

pub head_in-behind : (archive : ArchiveModel) → head_in (header_of archive) (behind archive) ≡ head_bytes archive.head
head_in-behind archive =
    ap (λ bytes. take (length (head_bytes archive.head)) (drop (length (path_of archive.name)) bytes)) (behind-parts archive)
    ∙ ap (take (length (head_bytes archive.head))) (drop_at (path_of archive.name) _ _ refl) ∙ take_at (head_bytes archive.head) _ _ refl

-- ---- the header of an archive

pub header_fits : (archive : ArchiveModel) → IsSound archive → IsHeader (header_of archive)
header_fits archive sound =
    let b = code_bounds archive.k archive.m archive.segment sound.code in
    let payload = payload_length-le archive.k archive.segment archive.body_length (omega (arith, b.some_data)) (omega (arith, b.some_data, b.least_segment)) in
    record {
      magic = refl;
      segment = omega (arith, b.most_segment);
      stamp = omega (arith, sound.stamp);
      body_length = omega (arith, sound.body_length);
      body_md5 = sound.body_md5;
      path_length = omega (arith, length-path archive.name sound.name);
      head_length = length-head archive.head sound.head;
      payload_length = omega (arith, sound.payload, payload, sound.body_length);
    }

pub archive_opens : (bytes : List ℕ) (archive : ArchiveModel) → IsArchive bytes archive → Opens bytes (header_of archive) (behind archive)
archive_opens bytes archive is = record {
  fits = header_fits archive is.sound;
  spelled = is.spelled ∙ opening-append (header_of archive) (middle archive) (md5 (checked archive));
}

lengths : (path head payload digest : List ℕ) → length (path ++ (head ++ (payload ++ digest))) ≡ length path + (length head + (length payload + length digest))
lengths path head payload digest = simp length-append

pub length-archive : (bytes : List ℕ) (archive : ArchiveModel) → IsArchive bytes archive
    → length bytes ≡ 68 + length (path_of archive.name) + length (head_bytes archive.head) + length archive.payload
length-archive bytes archive is =
    let opens = archive_opens bytes archive is in
    let rest : length (behind archive) ≡ length (path_of archive.name) + (length (head_bytes archive.head) + (length archive.payload + length (md5 (checked archive)))) =
    ap length (behind-parts archive) ∙ lengths (path_of archive.name) (head_bytes archive.head) archive.payload (md5 (checked archive)) in
    omega (arith, ap length opens.spelled, length-opening (header_of archive) (behind archive) opens.fits, rest, length-md5 (checked archive))

-- ---- no archive begins another

-- the archive of these fields
abbrev pub archive_of : ℕ → ℕ → ℕ → ℕ → ℕ → ℕ → List ℕ → NameModel → HeadModel → List ℕ → ArchiveModel
archive_of k m index segment stamp body_length body_md5 name head payload = record {
  k = k;
  m = m;
  index = index;
  segment = segment;
  stamp = stamp;
  body_length = body_length;
  body_md5 = body_md5;
  name = name;
  head = head;
  payload = payload;
}

-- archives whose fields are equal
pub same_archive : (a b : ArchiveModel) → a.k ≡ b.k → a.m ≡ b.m → a.index ≡ b.index → a.segment ≡ b.segment → a.stamp ≡ b.stamp → a.body_length ≡ b.body_length
    → a.body_md5 ≡ b.body_md5 → a.name ≡ b.name → a.head ≡ b.head → a.payload ≡ b.payload → a ≡ b
same_archive a b k m index segment stamp body_length body_md5 name head payload =
    let all : archive_of a.k a.m a.index a.segment a.stamp a.body_length a.body_md5 a.name a.head a.payload
    ≡ archive_of b.k b.m b.index b.segment b.stamp b.body_length b.body_md5 b.name b.head b.payload = cc in
    all

pub no_prefix : (a b rest : List ℕ) (first second : ArchiveModel) → IsArchive a first → IsArchive b second → a ≡ b ++ rest → (first ≡ second) × (rest ≡ [])
no_prefix a b rest first second a_is b_is e =
    let a_opens = archive_opens a first a_is in
    let b_opens = archive_opens b second b_is in
    let both : opening (header_of first) (behind first) ≡ opening (header_of second) (behind second ++ rest) =
    sym a_opens.spelled ∙ e ∙ ap (λ bytes. bytes ++ rest) b_opens.spelled ∙ opening-append (header_of second) (behind second) rest in
    let header = one_opening (header_of first) (header_of second) (behind first) (behind second ++ rest) a_opens.fits b_opens.fits both in
    let tails : path_of first.name ++ (head_bytes first.head ++ (first.payload ++ md5 (checked first))) ≡ path_of second.name ++ (head_bytes second.head ++ (second.payload ++ (md5 (checked second) ++ rest))) =
    sym (behind-parts first) ∙ header.1 ∙ append_assoc (middle second) (md5 (checked second)) rest ∙ regrouped (path_of second.name) (head_bytes second.head) second.payload (md5 (checked second) ++ rest) in
    let path = cut (path_of first.name) (path_of second.name) _ _ (ap (λ (h : HeaderModel). h.path_length) header.0) tails in
    let head = cut (head_bytes first.head) (head_bytes second.head) _ _ (ap (λ (h : HeaderModel). h.head_length) header.0) path.1 in
    let payload = cut first.payload second.payload _ _ (ap (λ (h : HeaderModel). h.payload_length) header.0) head.1 in
    let digests : length (md5 (checked first)) ≡ length (md5 (checked second)) + length rest = ap length payload.1 ∙ length-append (md5 (checked second)) rest in (
      same_archive first second (ap (λ (h : HeaderModel). h.k) header.0) (ap (λ (h : HeaderModel). h.m) header.0) (ap (λ (h : HeaderModel). h.index) header.0)
          (ap (λ (h : HeaderModel). h.segment) header.0) (ap (λ (h : HeaderModel). h.stamp) header.0) (ap (λ (h : HeaderModel). h.body_length) header.0) (ap (λ (h : HeaderModel). h.body_md5) header.0)
          (one_name first.name second.name a_is.sound.name b_is.sound.name path.0) (one_head first.head second.head a_is.sound.head b_is.sound.head head.0) payload.0,
      nil_from_length rest (omega (arith, digests, length-md5 (checked first), length-md5 (checked second))),
    )

pub one_archive : (bytes : List ℕ) (first second : ArchiveModel) → IsArchive bytes first → IsArchive bytes second → first ≡ second
one_archive bytes first second a b = (no_prefix bytes bytes [] first second a b (sym (append-nil bytes))).0

-- ---- what is put has archives

pub put_is_archive : (policy : PolicyModel) (stamp : ℕ) (name : NameModel) (object : ObjectModel) (index : ℕ) → IsPut policy stamp name object → index < policy.k + policy.m
    → IsArchive (put_archive policy stamp name object index) (put_fields policy stamp name object index)
put_is_archive policy stamp name object index put below =
    let b = bounds policy put.policy_rules in
    let some : 0 < policy.k = omega (arith, b.some_data) in
    let whole : 0 < policy.segment = omega (arith, b.some_data, b.least_segment) in
    let pieces = of_body policy.k policy.segment object.body some whole put.object_rules.bytes in
    record {
      sound = record {
        code = code_of_policy policy put.policy_rules;
        index = below;
        stamp = put.stamp_bound;
        body_length = put.object_rules.size;
        body_md5 = ap length put.object_rules.body_md5 ∙ length-md5 object.body;
        name = put.name_rules;
        head = put.object_rules.head;
        payload = length-payload policy.k policy.segment object.body index some whole;
        bytes = subst IsBytes (sym (pieces.fragments index)) (IsBytes-joined policy.k policy.segment (length object.body) pieces.pieces index pieces.are);
      };
      spelled = refl;
    }
