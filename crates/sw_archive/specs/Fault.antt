-- Why bytes are no archive: the first of these faults, in this order.
use Rattle.std.specs.Prelude.{◌≡◌, ◌≢◌, ◌⊎◌, ◌≤◌, ℕ, ◌+◌, ◌-◌, ◌<◌, ◌==◌, Bool, not, ◌&&◌, if◌then◌else◌, is_none, nat_lt, nat_eq, List, length, take, drop, Option, Some, None}
use Rattle.std.specs.Cmp.Lexicographic.{pointwise}
use Rattle.md5.specs.Md5.{md5}
use Rattle.sw_types.specs.Head.{HeadModel}
use Rattle.sw_types.specs.Name.{NameModel}
use Rattle.sw_types.specs.Object.{greatest_body}
use Rattle.sw_types.specs.Policy.{policy_fault}
use Rattle.sw_types.specs.Stamp.{greatest_stamp}
use Rattle.sw_archive.specs.Archive.{magic, payload_length}
use Rattle.sw_archive.specs.Header.{HeaderModel, IsHeader, opening, told_length}
use Rattle.sw_archive.specs.Parts.{IsHead, IsPath}
use Rattle.sw_archive.specs.declared.fault.ArchiveFault.{ArchiveFault}
use Rattle.sw_archive.specs.declared.fault.ArchiveFault.TheVariants.{Short, BadMagic, BadVersion, BadLength, Damaged, BadField, NoMemory}
use Rattle.sw_archive.specs.declared.fault.ArchiveField.{ArchiveField}
use Rattle.sw_archive.specs.declared.fault.ArchiveField.TheVariants.{Code, Stamp, BodyLength, Name, Head, Payload}

-- the faults and the fields, numbered
abbrev pub archive_fault_number : ArchiveFault → ℕ
archive_fault_number NoMemory = 0
archive_fault_number (Short found) = 1
archive_fault_number BadMagic = 2
archive_fault_number (BadVersion version) = 3
archive_fault_number (BadLength told found) = 4
archive_fault_number (Damaged stored computed) = 5
archive_fault_number (BadField field) = 6

abbrev pub archive_field_number : ArchiveField → ℕ
archive_field_number Code = 1
archive_field_number Stamp = 2
archive_field_number BodyLength = 3
archive_field_number Name = 4
archive_field_number Head = 5
archive_field_number Payload = 6

-- the bytes before the last 16, and these
abbrev pub before_md5 : List ℕ → List ℕ
before_md5 bytes = take (length bytes - 16) bytes

abbrev pub last_md5 : List ℕ → List ℕ
last_md5 bytes = drop (length bytes - 16) bytes

-- the bytes end with the MD5 of those before
abbrev pub IsSealed : List ℕ → Type 0
IsSealed bytes = last_md5 bytes ≡ md5 (before_md5 bytes)

-- whether the numbers are those of a policy, with the least quorums
abbrev pub is_code : ℕ → ℕ → ℕ → Bool
is_code k m segment = is_none (policy_fault (record { k = k; m = m; q = k; c = k; segment = segment }))

-- the first number of a header that is out of its bounds
abbrev pub number_fault : HeaderModel → Option ArchiveFault
number_fault h =
    if not (is_code h.k h.m h.segment && nat_lt h.index (h.k + h.m)) then Some (BadField Code)
    else if nat_lt greatest_stamp h.stamp then Some (BadField Stamp)
    else if nat_lt greatest_body h.body_length then Some (BadField BodyLength)
    else None

-- the first fault that the header and the last MD5 tell
abbrev pub early_fault : List ℕ → HeaderModel → Option ArchiveFault
early_fault bytes h =
    if not (pointwise nat_eq h.magic magic) then Some BadMagic
    else if not (h.version == 1) then Some (BadVersion h.version)
    else if not (told_length h == length bytes) then Some (BadLength (told_length h) (length bytes))
    else if not (pointwise nat_eq (last_md5 bytes) (md5 (before_md5 bytes))) then Some (Damaged (last_md5 bytes) (md5 (before_md5 bytes)))
    else number_fault h

-- the path and the head behind a header
abbrev pub path_in : HeaderModel → List ℕ → List ℕ
path_in h rest = take h.path_length rest

abbrev pub head_in : HeaderModel → List ℕ → List ℕ
head_in h rest = take h.head_length (drop h.path_length rest)

-- the first fault behind a header without one: the path is no name's; it is, and the head is no head's; both are, and the
-- payload hasn't the length of such a body's
abbrev pub IsLateFault : HeaderModel → List ℕ → ArchiveFault → Type 0
IsLateFault h rest fault =
    ((fault ≡ BadField Name) × ((name : NameModel) → ¬ (IsPath (path_in h rest) name)))
    ⊎ ((fault ≡ BadField Head) × ((name : NameModel) × IsPath (path_in h rest) name) × ((head : HeadModel) → ¬ (IsHead (head_in h rest) head)))
    ⊎ ((fault ≡ BadField Payload) × ((name : NameModel) × IsPath (path_in h rest) name) × ((head : HeadModel) × IsHead (head_in h rest) head)
    × (h.payload_length ≢ payload_length h.k h.segment h.body_length))

-- the bytes begin with a header, and these follow
pub record Opens (bytes : List ℕ) (h : HeaderModel) (rest : List ℕ) : Type 0 where
  pub fits : IsHeader h
  pub spelled : bytes ≡ opening h rest

-- the first fault of bytes that begin with this header
abbrev pub IsFirstFault : List ℕ → HeaderModel → List ℕ → ArchiveFault → Type 0
IsFirstFault bytes h rest fault = (early_fault bytes h ≡ Some fault) ⊎ ((early_fault bytes h ≡ None) × IsLateFault h rest fault)

-- the first fault of bytes that have a header
pub record IsFaultBehind (bytes : List ℕ) (fault : ArchiveFault) : Type 0 where
  pub header : HeaderModel
  pub rest : List ℕ
  pub opens : Opens bytes header rest
  pub first : IsFirstFault bytes header rest fault

-- the first fault of the bytes
abbrev pub IsFault : List ℕ → ArchiveFault → Type 0
IsFault bytes fault =
    ((length bytes < 68) × (fault ≡ Short (length bytes))) ⊎ ((68 ≤ length bytes) × IsFaultBehind bytes fault)
