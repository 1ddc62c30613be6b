-- What is read behind a header.
use Rattle.std.specs.Prelude.{◌≡◌, ◌≤◌, ◌<◌, ℕ, ◌+◌, List, take, drop}
use Rattle.sw_types.specs.Object.{greatest_body}
use Rattle.sw_types.specs.Stamp.{greatest_stamp}
use Rattle.sw_archive.specs.Archive.{ArchiveModel, IsCode, payload_length}
use Rattle.sw_archive.specs.Fault.{head_in, path_in}
use Rattle.sw_archive.specs.Header.{HeaderModel}
use Rattle.sw_archive.specs.Parts.{IsHead, IsPath}

-- the numbers of a header are within their bounds
pub record AreNumbers (h : HeaderModel) : Type 0 where
  pub code : IsCode h.k h.m h.segment
  pub index : h.index < h.k + h.m
  pub stamp : h.stamp ≤ greatest_stamp
  pub body_length : h.body_length ≤ greatest_body

-- the archive that a header and the bytes behind it tell
pub record IsReadBehind (h : HeaderModel) (rest : List ℕ) (archive : ArchiveModel) : Type 0 where
  pub k : archive.k ≡ h.k
  pub m : archive.m ≡ h.m
  pub index : archive.index ≡ h.index
  pub segment : archive.segment ≡ h.segment
  pub stamp : archive.stamp ≡ h.stamp
  pub body_length : archive.body_length ≡ h.body_length
  pub body_md5 : archive.body_md5 ≡ h.body_md5
  pub name : IsPath (path_in h rest) archive.name
  pub head : IsHead (head_in h rest) archive.head
  pub payload : archive.payload ≡ take h.payload_length (drop h.head_length (drop h.path_length rest))
  pub payload_length : h.payload_length ≡ payload_length h.k h.segment h.body_length
