-- Archives, version 1.
use Rattle.std.specs.Prelude.{◌≡◌, ℕ, ◌+◌, ◌*◌, ◌/◌, ◌%◌, ◌<◌, ◌≤◌, List, ◌++◌, length, codes, None}
use Rattle.md5.specs.Md5.{md5}
use Rattle.sw_words.specs.Bytes.{IsBytes}
use Rattle.sw_types.specs.Head.{HeadModel, head_fault}
use Rattle.sw_types.specs.Name.{NameModel, name_fault, path_of}
use Rattle.sw_types.specs.Object.{greatest_body}
use Rattle.sw_types.specs.Policy.{policy_fault}
use Rattle.sw_types.specs.Stamp.{greatest_stamp}
use Rattle.sw_cauchy.specs.Stripe.{fragment_width}
use Rattle.sw_archive.specs.Header.{HeaderModel, opening}
use Rattle.sw_archive.specs.Parts.{head_bytes}

-- what contracts see of an archive
pub record ArchiveModel : Type 0 where
  pub k : ℕ
  pub m : ℕ
  pub index : ℕ
  pub segment : ℕ
  pub stamp : ℕ
  pub body_length : ℕ
  pub body_md5 : List ℕ
  pub name : NameModel
  pub head : HeadModel
  pub payload : List ℕ

abbrev pub magic : List ℕ
magic = codes "ECFA"

-- the header of an archive
abbrev pub header_of : ArchiveModel → HeaderModel
header_of archive = record {
  magic = magic;
  version = 1;
  k = archive.k;
  m = archive.m;
  index = archive.index;
  segment = archive.segment;
  stamp = archive.stamp;
  body_length = archive.body_length;
  body_md5 = archive.body_md5;
  path_length = length (path_of archive.name);
  head_length = length (head_bytes archive.head);
  payload_length = length archive.payload;
}

-- the bytes before the payload
abbrev pub label_bytes : ArchiveModel → List ℕ
label_bytes archive = opening (header_of archive) (path_of archive.name ++ head_bytes archive.head)

-- all bytes before the last MD5
abbrev pub checked : ArchiveModel → List ℕ
checked archive = opening (header_of archive) (path_of archive.name ++ (head_bytes archive.head ++ archive.payload))

-- the one spelling of an archive, with the MD5 (RFC 1321) of all bytes before it at the end
abbrev pub archive_bytes : ArchiveModel → List ℕ
archive_bytes archive = checked archive ++ md5 (checked archive)

-- the bytes of a payload: those of its fragments of whole segments, and of the last one
abbrev pub payload_length : ℕ → ℕ → ℕ → ℕ
payload_length k segment body_length = body_length / segment * fragment_width k segment + fragment_width k (body_length % segment)

-- the numbers are those of a policy, with the least quorums
abbrev pub IsCode : ℕ → ℕ → ℕ → Type 0
IsCode k m segment = policy_fault (record { k = k; m = m; q = k; c = k; segment = segment }) ≡ None

-- the fields are within their bounds
pub record IsSound (archive : ArchiveModel) : Type 0 where
  pub code : IsCode archive.k archive.m archive.segment
  pub index : archive.index < archive.k + archive.m
  pub stamp : archive.stamp ≤ greatest_stamp
  pub body_length : archive.body_length ≤ greatest_body
  pub body_md5 : length archive.body_md5 ≡ 16
  pub name : name_fault archive.name ≡ None
  pub head : head_fault archive.head ≡ None
  pub payload : length archive.payload ≡ payload_length archive.k archive.segment archive.body_length
  pub bytes : IsBytes archive.payload

-- the bytes are this archive's
pub record IsArchive (bytes : List ℕ) (archive : ArchiveModel) : Type 0 where
  pub sound : IsSound archive
  pub spelled : bytes ≡ archive_bytes archive
