-- Bytes are an archive or have a fault, one at most, and an archive has none.
use Rattle.std.proofs.Common.{◌≡◌, ◌≤◌, ◌+◌, ◌==◌, ◌&&◌, ◌⊎◌, Bool, true, false, cond, not, nat_eq, nat_lt, inl, inr, List, ℕ, length, take, drop, Option, Some, None, Result, Ok, Err, refl, sym, ap, subst, ◌∙◌, arith}
use Rattle.std.proofs.lemmas.Bool.{cases_eq, cases_lt}
use Rattle.std.specs.Prelude.{MatchResult}
use Rattle.std.specs.Cmp.Lexicographic.{pointwise}
use Rattle.md5.specs.Md5.{md5}
use Rattle.sw_types.specs.Object.{greatest_body}
use Rattle.sw_types.specs.Stamp.{greatest_stamp}
use Rattle.sw_words.specs.Bytes.{IsBytes}
use Rattle.sw_words.proofs.ByteLists.{IsBytes-drop, IsBytes-take}
use Rattle.sw_archive.specs.Archive.{ArchiveModel, IsArchive, IsSound, header_of, magic, payload_length}
use Rattle.sw_archive.specs.Fault.{IsFault, IsFirstFault, IsLateFault, Opens, before_md5, early_fault, head_in, is_code, last_md5, number_fault, path_in}
use Rattle.sw_archive.specs.Header.{HeaderModel, told_length}
use Rattle.sw_archive.specs.Reading.{IsReadBehind}
use Rattle.sw_archive.specs.declared.fault.ArchiveFault.{ArchiveFault}
use Rattle.sw_archive.specs.declared.fault.ArchiveFault.TheVariants.{BadField, BadLength, BadMagic, BadVersion, Damaged, NoMemory, Short}
use Rattle.sw_archive.specs.declared.fault.ArchiveField.TheVariants.{BodyLength, Code, Head, Name, Payload, Stamp}
use Rattle.sw_archive.proofs.Archives.{archive_of, archive_opens, behind, head_in-behind, one_archive, path_in-behind}
use Rattle.sw_archive.proofs.Heads.{head_or_none}
use Rattle.sw_archive.proofs.Openings.{Opened, one_opening, opened}
use Rattle.sw_archive.proofs.Paths.{none_or_some, path_or_none}
use Rattle.sw_archive.proofs.Readings.{archive_faultless, bytes_behind, faultless, no_early_fault, read_is_archive}

-- ---- an archive has no fault

no_late_fault : (archive : ArchiveModel) (fault : ArchiveFault) → IsSound archive → IsLateFault (header_of archive) (behind archive) fault → ⊥
no_late_fault archive fault sound (inl name) = name.1 archive.name (record { rules = sound.name; spelled = path_in-behind archive })
no_late_fault archive fault sound (inr (inl head)) = head.2 archive.head (record { rules = sound.head; spelled = head_in-behind archive })
no_late_fault archive fault sound (inr (inr payload)) = payload.3 sound.payload

none_and_some : {A : Type 0} (o : Option A) (x : A) → o ≡ None → o ≡ Some x → ⊥
none_and_some o x none some = absurd (cc)

no_first_fault : (bytes : List ℕ) (archive : ArchiveModel) (fault : ArchiveFault) → IsArchive bytes archive → IsFirstFault bytes (header_of archive) (behind archive) fault → ⊥
no_first_fault bytes archive fault is (inl early) =
    none_and_some (early_fault bytes (header_of archive)) fault (no_early_fault bytes (header_of archive) (archive_faultless bytes archive is)) early
no_first_fault bytes archive fault is (inr late) = no_late_fault archive fault is.sound late.1

-- the first fault behind one opening is that behind another
moved : (bytes : List ℕ) (fault : ArchiveFault) (g h : HeaderModel) (x y : List ℕ) → Opens bytes g x → Opens bytes h y → IsFirstFault bytes g x fault → IsFirstFault bytes h y fault
moved bytes fault g h x y g_opens h_opens first =
    let same = one_opening g h x y g_opens.fits h_opens.fits (sym g_opens.spelled ∙ h_opens.spelled) in
    subst (λ (rest : List ℕ). IsFirstFault bytes h rest fault) same.1 (subst (λ (header : HeaderModel). IsFirstFault bytes header x fault) same.0 first)

pub no_fault : (bytes : List ℕ) (archive : ArchiveModel) (fault : ArchiveFault) → IsArchive bytes archive → IsFault bytes fault → ⊥
no_fault bytes archive fault is (inl short) = let whole = archive_faultless bytes archive is in absurd (omega (arith, whole.length, short.0))
no_fault bytes archive fault is (inr long) =
    no_first_fault bytes archive fault is (moved bytes fault long.1.header (header_of archive) long.1.rest (behind archive) long.1.opens (archive_opens bytes archive is) long.1.first)

-- ---- there is one fault

one_late_fault : (h : HeaderModel) (rest : List ℕ) (a b : ArchiveFault) → IsLateFault h rest a → IsLateFault h rest b → a ≡ b
one_late_fault h rest a b (inl x) (inl y) = x.0 ∙ sym y.0
one_late_fault h rest a b (inl x) (inr (inl y)) = absurd (x.1 y.1.0 y.1.1)
one_late_fault h rest a b (inl x) (inr (inr y)) = absurd (x.1 y.1.0 y.1.1)
one_late_fault h rest a b (inr (inl x)) (inl y) = absurd (y.1 x.1.0 x.1.1)
one_late_fault h rest a b (inr (inl x)) (inr (inl y)) = x.0 ∙ sym y.0
one_late_fault h rest a b (inr (inl x)) (inr (inr y)) = absurd (x.2 y.2.0 y.2.1)
one_late_fault h rest a b (inr (inr x)) (inl y) = absurd (y.1 x.1.0 x.1.1)
one_late_fault h rest a b (inr (inr x)) (inr (inl y)) = absurd (y.2 x.2.0 x.2.1)
one_late_fault h rest a b (inr (inr x)) (inr (inr y)) = x.0 ∙ sym y.0

one_some : {A : Type 0} (o : Option A) (x y : A) → o ≡ Some x → o ≡ Some y → x ≡ y
one_some o x y first second = cc

one_first_fault : (bytes : List ℕ) (h : HeaderModel) (rest : List ℕ) (a b : ArchiveFault) → IsFirstFault bytes h rest a → IsFirstFault bytes h rest b → a ≡ b
one_first_fault bytes h rest a b (inl x) (inl y) = one_some (early_fault bytes h) a b x y
one_first_fault bytes h rest a b (inl x) (inr y) = absurd (none_and_some (early_fault bytes h) a y.0 x)
one_first_fault bytes h rest a b (inr x) (inl y) = absurd (none_and_some (early_fault bytes h) b x.0 y)
one_first_fault bytes h rest a b (inr x) (inr y) = one_late_fault h rest a b x.1 y.1

pub one_fault : (bytes : List ℕ) (a b : ArchiveFault) → IsFault bytes a → IsFault bytes b → a ≡ b
one_fault bytes a b (inl x) (inl y) = x.1 ∙ sym y.1
one_fault bytes a b (inl x) (inr y) = absurd (omega (arith, x.0, y.0))
one_fault bytes a b (inr x) (inl y) = absurd (omega (arith, x.0, y.0))
one_fault bytes a b (inr x) (inr y) =
    one_first_fault bytes y.1.header y.1.rest a b (moved bytes a x.1.header y.1.header x.1.rest y.1.rest x.1.opens y.1.opens x.1.first) y.1.first

-- ---- what is no archive has one

-- behind a header there is an archive, or the first fault of what stands there
archive_or_late : (h : HeaderModel) (rest : List ℕ) → IsBytes rest → ((archive : ArchiveModel) × IsReadBehind h rest archive) ⊎ ((fault : ArchiveFault) × IsLateFault h rest fault)
archive_or_late h rest are = elim (path_or_none (path_in h rest)) [
  | inr none ↦ inr (BadField Name, inl (refl, none))
  | inl name ↦ elim (head_or_none (head_in h rest) (IsBytes-take h.head_length _ (IsBytes-drop h.path_length rest are))) [
    | inr none ↦ inr (BadField Head, inr (inl (refl, name, none)))
    | inl head ↦ elim (cases_eq h.payload_length (payload_length h.k h.segment h.body_length)) [
      | inr other ↦ inr (BadField Payload, inr (inr (refl, name, head, other)))
      | inl same ↦ inl (
        archive_of h.k h.m h.index h.segment h.stamp h.body_length h.body_md5 name.0 head.0 (take h.payload_length (drop h.head_length (drop h.path_length rest))),
        record {
          k = refl;
          m = refl;
          index = refl;
          segment = refl;
          stamp = refl;
          body_length = refl;
          body_md5 = refl;
          name = name.1;
          head = head.1;
          payload = refl;
          payload_length = same;
        },
      )
    ]
  ]
]

-- of bytes with a header
archive_or_behind : (bytes : List ℕ) → 68 ≤ length bytes → IsBytes bytes → (o : Opened bytes) → ((archive : ArchiveModel) × IsArchive bytes archive) ⊎ ((fault : ArchiveFault) × IsFault bytes fault)
archive_or_behind bytes long are o =
    let rest_bytes : IsBytes o.rest = bytes_behind bytes o.header o.rest o.opens are in
    elim (none_or_some (early_fault bytes o.header)) [
      | inr early ↦ inr (early.0, inr (long, record { header = o.header; rest = o.rest; opens = o.opens; first = inl early.1 }))
      | inl none ↦ elim (archive_or_late o.header o.rest rest_bytes) [
        | inl read ↦ inl (read.0, read_is_archive bytes o.header o.rest read.0 o.opens (faultless bytes o.header none) o.left rest_bytes read.1)
        | inr late ↦ inr (late.0, inr (long, record { header = o.header; rest = o.rest; opens = o.opens; first = inr (none, late.1) }))
      ]
    ]

pub archive_or_fault : (bytes : List ℕ) → IsBytes bytes → ((archive : ArchiveModel) × IsArchive bytes archive) ⊎ ((fault : ArchiveFault) × IsFault bytes fault)
archive_or_fault bytes are = elim (cases_lt (length bytes) 68) [
  | inl short ↦ inr (Short (length bytes), inl (short, refl))
  | inr long ↦ archive_or_behind bytes long are (opened bytes (omega (arith, long)) are)
]

-- ---- no fault is want of memory

not_told : {A : Type 0} (broken : Bool) (fault wanted : A) (later : Option A) → (fault ≡ wanted → ⊥) → (later ≡ Some wanted → ⊥) → cond broken (Some fault) later ≡ Some wanted → ⊥
not_told true fault wanted later other none e = other (cc)
not_told false fault wanted later other none e = none e

number_is_none : (h : HeaderModel) → number_fault h ≡ Some NoMemory → ⊥
number_is_none h =
    not_told (not (is_code h.k h.m h.segment && nat_lt h.index (h.k + h.m))) (BadField Code) NoMemory _ (λ e. absurd (cc))
    (not_told (nat_lt greatest_stamp h.stamp) (BadField Stamp) NoMemory _ (λ e. absurd (cc))
    (not_told (nat_lt greatest_body h.body_length) (BadField BodyLength) NoMemory None (λ e. absurd (cc)) (λ e. absurd (cc))))

early_is_none : (bytes : List ℕ) (h : HeaderModel) → early_fault bytes h ≡ Some NoMemory → ⊥
early_is_none bytes h =
    not_told (not (pointwise nat_eq h.magic magic)) BadMagic NoMemory _ (λ e. absurd (cc))
    (not_told (not (h.version == 1)) (BadVersion h.version) NoMemory _ (λ e. absurd (cc))
    (not_told (not (told_length h == length bytes)) (BadLength (told_length h) (length bytes)) NoMemory _ (λ e. absurd (cc))
    (not_told (not (pointwise nat_eq (last_md5 bytes) (md5 (before_md5 bytes)))) (Damaged (last_md5 bytes) (md5 (before_md5 bytes))) NoMemory _ (λ e. absurd (cc)) (number_is_none h))))

late_is_none : (h : HeaderModel) (rest : List ℕ) → IsLateFault h rest NoMemory → ⊥
late_is_none h rest (inl name) = let e = name.0 in absurd (cc)
late_is_none h rest (inr (inl head)) = let e = head.0 in absurd (cc)
late_is_none h rest (inr (inr payload)) = let e = payload.0 in absurd (cc)

first_is_none : (bytes : List ℕ) (h : HeaderModel) (rest : List ℕ) → IsFirstFault bytes h rest NoMemory → ⊥
first_is_none bytes h rest (inl early) = early_is_none bytes h early
first_is_none bytes h rest (inr late) = late_is_none h rest late.1

pub no_memory : (bytes : List ℕ) → IsFault bytes NoMemory → ⊥
no_memory bytes (inl short) = let e = short.1 in absurd (cc)
no_memory bytes (inr long) = first_is_none bytes long.1.header long.1.rest long.1.first

pub fault_of_bytes : (bytes : List ℕ) (fault : ArchiveFault) → IsFault bytes fault → fault ≡ NoMemory → ⊥
fault_of_bytes bytes fault is same = no_memory bytes (subst (IsFault bytes) same is)

-- ---- what checking answers

-- the answer is the archive that the bytes spell, or their first fault
abbrev pub Answers : List ℕ → Result ArchiveModel ArchiveFault → Type 0
Answers bytes result = MatchResult result (λ archive. IsArchive bytes archive) (λ fault. IsFault bytes fault)

pub reads : (bytes : List ℕ) (result : Result ArchiveModel ArchiveFault) → Answers bytes result → (archive : ArchiveModel) → IsArchive bytes archive → result ≡ Ok archive
reads bytes (Ok found) answers archive is = ap (λ (a : ArchiveModel). Ok a) (one_archive bytes found archive answers is)
reads bytes (Err fault) answers archive is = absurd (no_fault bytes archive fault is answers)

pub refused : (bytes : List ℕ) (result : Result ArchiveModel ArchiveFault) → Answers bytes result → (fault : ArchiveFault) → IsFault bytes fault → result ≡ Err fault
refused bytes (Ok found) answers fault at = absurd (no_fault bytes found fault answers at)
refused bytes (Err found) answers fault at = ap (λ (f : ArchiveFault). Err f) (one_fault bytes found fault answers at)

-- what is read behind a header without a fault is the answer
pub read_behind : (bytes : List ℕ) (h : HeaderModel) (rest : List ℕ) (result : Result ArchiveModel ArchiveFault) → 68 ≤ length bytes → Opens bytes h rest → early_fault bytes h ≡ None
    → length rest + 52 ≡ length bytes → IsBytes rest → MatchResult result (λ archive. IsReadBehind h rest archive) (λ fault. IsLateFault h rest fault) → Answers bytes result
read_behind bytes h rest (Ok archive) long opens none whole rest_bytes read = read_is_archive bytes h rest archive opens (faultless bytes h none) whole rest_bytes read
read_behind bytes h rest (Err fault) long opens none whole rest_bytes late = inr (long, record { header = h; rest = rest; opens = opens; first = inr (none, late) })
