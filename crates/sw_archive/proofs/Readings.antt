-- What is read behind a header without a fault is an archive.
use Rattle.std.proofs.Common.{◌≡◌, ◌≢◌, ◌+◌, ◌-◌, ◌==◌, ◌&&◌, ℕ, not, nat_lt, nat_eq, List, [], ◌++◌, length, take, drop, Option, Some, None, Bool, true, false, refl, sym, ap, subst, ◌∙◌, arith, append_assoc, length-append, length-take, length-drop, eqb-true, eq-eqb}
use Rattle.std.specs.Cmp.Lexicographic.{pointwise}
use Rattle.std.specs.Prelude.{is_none}
use Rattle.std.proofs.lemmas.Bool.{and_parts, le-ltb, lt-ltb, ltb-false, ltb-true, not-false}
use Rattle.std.proofs.lemmas.List.{drop_at, take-append-drop, take_at}
use Rattle.md5.specs.Md5.{md5}
use Rattle.md5.proofs.StandardFacts.{length-md5}
use Rattle.sw_words.specs.Bytes.{IsBytes}
use Rattle.sw_words.proofs.ByteLists.{IsBytes-drop, IsBytes-take}
use Rattle.sw_words.proofs.Rules.{kept, passed}
use Rattle.sw_types.specs.Object.{greatest_body}
use Rattle.sw_types.specs.Stamp.{greatest_stamp}
use Rattle.sw_archive.specs.Archive.{ArchiveModel, IsArchive, checked, header_of, magic}
use Rattle.sw_archive.specs.Fault.{IsSealed, Opens, before_md5, early_fault, head_in, is_code, last_md5, number_fault, path_in}
use Rattle.sw_archive.specs.Header.{HeaderModel, opening, told_length}
use Rattle.sw_archive.specs.Reading.{AreNumbers, IsReadBehind}
use Rattle.sw_archive.specs.declared.fault.ArchiveFault.TheVariants.{BadMagic, BadVersion, BadLength, Damaged, BadField}
use Rattle.sw_archive.specs.declared.fault.ArchiveField.TheVariants.{Code, Stamp, BodyLength}
use Rattle.sw_archive.proofs.Archives.{length-archive, middle}
use Rattle.sw_archive.proofs.Openings.{opening-append, same_header}
use Rattle.sw_archive.proofs.Decisions.{Decides-texts}

-- ---- a header in which there is no fault

pub record IsFaultless (bytes : List ℕ) (h : HeaderModel) : Type 0 where
  pub magic : h.magic ≡ magic
  pub version : h.version ≡ 1
  pub length : told_length h ≡ length bytes
  pub digest : last_md5 bytes ≡ md5 (before_md5 bytes)
  pub numbers : AreNumbers h

none_is : {A : Type 0} (o : Option A) → is_none o ≡ true → o ≡ None
none_is None e = refl
none_is (Some x) e = absurd (cc)

numbers_kept : (h : HeaderModel) → number_fault h ≡ None → AreNumbers h
numbers_kept h e =
    let code = kept (not (is_code h.k h.m h.segment && nat_lt h.index (h.k + h.m))) (BadField Code) _ e in
    let stamp = kept (nat_lt greatest_stamp h.stamp) (BadField Stamp) _ code.1 in
    let body = kept (nat_lt greatest_body h.body_length) (BadField BodyLength) None stamp.1 in
    let both = and_parts (is_code h.k h.m h.segment) (nat_lt h.index (h.k + h.m)) (not-false _ code.0) in
    record {
      code = none_is _ both.0;
      index = ltb-true _ _ both.1;
      stamp = ltb-false _ _ stamp.0;
      body_length = ltb-false _ _ body.0;
    }

pub faultless : (bytes : List ℕ) (h : HeaderModel) → early_fault bytes h ≡ None → IsFaultless bytes h
faultless bytes h e =
    let magic = kept (not (pointwise nat_eq h.magic magic)) BadMagic _ e in
    let version = kept (not (h.version == 1)) (BadVersion h.version) _ magic.1 in
    let length = kept (not (told_length h == length bytes)) (BadLength (told_length h) (length bytes)) _ version.1 in
    let digest = kept (not (pointwise nat_eq (last_md5 bytes) (md5 (before_md5 bytes)))) (Damaged (last_md5 bytes) (md5 (before_md5 bytes))) _ length.1 in
    record {
      magic = (Decides-texts _ _).0 (not-false _ magic.0);
      version = eqb-true _ _ (not-false _ version.0);
      length = eqb-true _ _ (not-false _ length.0);
      digest = (Decides-texts _ _).0 (not-false _ digest.0);
      numbers = numbers_kept h digest.1;
    }

numbers_pass : (h : HeaderModel) → AreNumbers h → number_fault h ≡ None
numbers_pass h are =
    let code : is_code h.k h.m h.segment ≡ true = ap is_none are.code in
    let index : nat_lt h.index (h.k + h.m) ≡ true = lt-ltb _ _ are.index in
    passed (not (is_code h.k h.m h.segment && nat_lt h.index (h.k + h.m))) (BadField Code) _ (rw (code, index) refl)
    (passed (nat_lt greatest_stamp h.stamp) (BadField Stamp) _ (le-ltb _ _ are.stamp)
    (passed (nat_lt greatest_body h.body_length) (BadField BodyLength) None (le-ltb _ _ are.body_length) refl))

pub no_early_fault : (bytes : List ℕ) (h : HeaderModel) → IsFaultless bytes h → early_fault bytes h ≡ None
no_early_fault bytes h is =
    passed (not (pointwise nat_eq h.magic magic)) BadMagic _ (ap not (ap (λ m. pointwise nat_eq m magic) is.magic))
    (passed (not (h.version == 1)) (BadVersion h.version) _ (ap not (eq-eqb h.version 1 is.version))
    (passed (not (told_length h == length bytes)) (BadLength (told_length h) (length bytes)) _ (ap not (eq-eqb _ _ is.length))
    (passed (not (pointwise nat_eq (last_md5 bytes) (md5 (before_md5 bytes)))) (Damaged (last_md5 bytes) (md5 (before_md5 bytes))) _
    (ap not (ap (λ m. pointwise nat_eq m (md5 (before_md5 bytes))) is.digest ∙ (Decides-texts (md5 (before_md5 bytes)) _).1 refl)) (numbers_pass h is.numbers))))

-- ---- the last sixteen bytes

last_sixteen : (bytes front tail : List ℕ) → bytes ≡ front ++ tail → length tail ≡ 16 → (before_md5 bytes ≡ front) × (last_md5 bytes ≡ tail)
last_sixteen bytes front tail e sixteen =
    let count : length bytes - 16 ≡ length front = omega (arith, ap length e, length-append front tail) in (
      ap (take (length bytes - 16)) e ∙ take_at front tail _ (sym count),
      ap (drop (length bytes - 16)) e ∙ drop_at front tail _ (sym count),
    )

-- bytes with their MD5 behind them are sealed
pub sealed : (bytes : List ℕ) → IsSealed (bytes ++ md5 bytes)
sealed bytes = let last = last_sixteen (bytes ++ md5 bytes) bytes (md5 bytes) refl (length-md5 bytes) in last.1 ∙ ap md5 (sym last.0)

-- the header of an archive has no fault
pub archive_faultless : (bytes : List ℕ) (archive : ArchiveModel) → IsArchive bytes archive → IsFaultless bytes (header_of archive)
archive_faultless bytes archive is =
    let last = last_sixteen bytes (checked archive) (md5 (checked archive)) is.spelled (length-md5 (checked archive)) in
    record {
      magic = refl;
      version = refl;
      length = sym (length-archive bytes archive is);
      digest = last.1 ∙ ap md5 (sym last.0);
      numbers = record { code = is.sound.code; index = is.sound.index; stamp = is.sound.stamp; body_length = is.sound.body_length };
    }

-- and an archive is sealed
pub sealed_archive : (bytes : List ℕ) (archive : ArchiveModel) → IsArchive bytes archive → IsSealed bytes
sealed_archive bytes archive is = (archive_faultless bytes archive is).digest

-- ---- whether the last MD5 is as it must be

pub is_equal : (bytes : List ℕ) → IsSealed bytes → pointwise nat_eq (last_md5 bytes) (md5 (before_md5 bytes)) ≡ true
is_equal bytes is = (Decides-texts (last_md5 bytes) (md5 (before_md5 bytes))).1 is

pub differs : (bytes : List ℕ) → (last_md5 bytes ≢ md5 (before_md5 bytes)) → pointwise nat_eq (last_md5 bytes) (md5 (before_md5 bytes)) ≡ false
differs bytes other = by_case (pointwise nat_eq (last_md5 bytes) (md5 (before_md5 bytes))) refl
  where
    by_case : (b : Bool) → pointwise nat_eq (last_md5 bytes) (md5 (before_md5 bytes)) ≡ b → pointwise nat_eq (last_md5 bytes) (md5 (before_md5 bytes)) ≡ false
    by_case true is = absurd (other ((Decides-texts (last_md5 bytes) (md5 (before_md5 bytes))).0 is))
    by_case false is = is

-- ---- what is read behind a header

-- it is bytes, where the whole is
pub bytes_behind : (bytes : List ℕ) (h : HeaderModel) (rest : List ℕ) → Opens bytes h rest → IsBytes bytes → IsBytes rest
bytes_behind bytes h rest opens are =
    let split : bytes ≡ opening h [] ++ rest = opens.spelled ∙ sym (opening-append h [] rest) in
    subst IsBytes (ap (drop (length (opening h []))) split ∙ drop_at (opening h []) rest _ refl) (IsBytes-drop (length (opening h [])) bytes are)

abbrev payload_in : HeaderModel → List ℕ → List ℕ
payload_in h rest = take h.payload_length (drop h.head_length (drop h.path_length rest))

abbrev tail_in : HeaderModel → List ℕ → List ℕ
tail_in h rest = drop h.payload_length (drop h.head_length (drop h.path_length rest))

four_parts : (h : HeaderModel) (rest : List ℕ) → rest ≡ (path_in h rest ++ (head_in h rest ++ payload_in h rest)) ++ tail_in h rest
four_parts h rest =
    let path = take-append-drop h.path_length rest in
    let head = take-append-drop h.head_length (drop h.path_length rest) in
    let payload = take-append-drop h.payload_length (drop h.head_length (drop h.path_length rest)) in
    sym (simp append_assoc (ap (λ t. path_in h rest ++ (head_in h rest ++ t)) payload ∙ ap (λ t. path_in h rest ++ t) head ∙ path))

header_is : (h : HeaderModel) (rest : List ℕ) (archive : ArchiveModel) → IsReadBehind h rest archive → h.magic ≡ magic → h.version ≡ 1 → length rest + 52 ≡ told_length h → header_of archive ≡ h
header_is h rest archive read magic_is version_is told =
    let behind_path = length-drop h.path_length rest in
    let behind_head = length-drop h.head_length (drop h.path_length rest) in
    same_header (header_of archive) h (sym magic_is) (sym version_is) read.k read.m read.index read.segment read.stamp read.body_length read.body_md5
    (ap length (sym read.name.spelled) ∙ omega (arith, length-take h.path_length rest))
    (ap length (sym read.head.spelled) ∙ omega (arith, length-take h.head_length (drop h.path_length rest), behind_path))
    (ap length read.payload ∙ omega (arith, length-take h.payload_length (drop h.head_length (drop h.path_length rest)), behind_path, behind_head))

pub read_is_archive : (bytes : List ℕ) (h : HeaderModel) (rest : List ℕ) (archive : ArchiveModel) → Opens bytes h rest → IsFaultless bytes h → length rest + 52 ≡ length bytes
    → IsBytes rest → IsReadBehind h rest archive → IsArchive bytes archive
read_is_archive bytes h rest archive opens faultless whole rest_bytes read =
    let told : length rest + 52 ≡ told_length h = omega (arith, whole, faultless.length) in
    let header : header_of archive ≡ h = header_is h rest archive read faultless.magic faultless.version told in
    let tail : List ℕ = tail_in h rest in
    let rest_is : rest ≡ middle archive ++ tail = four_parts h rest ∙ rw (read.name.spelled, read.head.spelled, ← read.payload) refl in
    let bytes_are : bytes ≡ opening h (middle archive) ++ tail = opens.spelled ∙ ap (opening h) rest_is ∙ sym (opening-append h (middle archive) tail) in
    let sixteen : length tail ≡ 16 = omega (arith, told, length-drop h.payload_length (drop h.head_length (drop h.path_length rest)), length-drop h.path_length rest, length-drop h.head_length (drop h.path_length rest)) in
    let last = last_sixteen bytes (opening h (middle archive)) tail bytes_are sixteen in
    let digest : tail ≡ md5 (opening h (middle archive)) = sym last.1 ∙ faultless.digest ∙ ap md5 last.0 in
    record {
      sound = record {
        code = rw (read.k, read.m, read.segment) faultless.numbers.code;
        index = omega (arith, read.k, read.m, read.index, faultless.numbers.index);
        stamp = omega (arith, read.stamp, faultless.numbers.stamp);
        body_length = omega (arith, read.body_length, faultless.numbers.body_length);
        body_md5 = ap length read.body_md5 ∙ opens.fits.body_md5;
        name = read.name.rules;
        head = read.head.rules;
        payload = ap (λ (x : HeaderModel). x.payload_length) header ∙ read.payload_length ∙ rw (read.k, read.segment, read.body_length) refl;
        bytes = subst IsBytes (sym read.payload) (IsBytes-take h.payload_length _ (IsBytes-drop h.head_length _ (IsBytes-drop h.path_length rest rest_bytes)));
      };
      spelled = subst (λ (x : HeaderModel). bytes ≡ opening x (middle archive) ++ md5 (opening x (middle archive))) (sym header)
          (bytes_are ∙ ap (λ t. opening h (middle archive) ++ t) digest);
    }
