-- Whether bytes are the archive that was asked for, and if not, why.
use Rattle.std.specs.Prelude.{◌≡◌, ◌≢◌, ℕ, List}
use Rattle.sw_types.specs.Name.{NameModel}
use Rattle.sw_types.specs.Policy.{PolicyModel}
use Rattle.sw_archive.specs.Archive.{ArchiveModel, IsArchive}
use Rattle.sw_archive.specs.Fault.{IsFault}
use Rattle.sw_hashpath.specs.Place.{PlaceModel}
use Rattle.sw_ring.specs.Cluster.{ClusterModel, place_of_name}
use Rattle.sw_message.specs.declared.spoil.Foreign.{Foreign}
use Rattle.sw_message.specs.declared.spoil.Foreign.TheVariants as foreign
use Rattle.sw_message.specs.declared.spoil.Spoil.{Spoil}
use Rattle.sw_message.specs.declared.spoil.Spoil.TheVariants as spoil

abbrev pub foreign_number : Foreign → ℕ
foreign_number foreign.Name = 1
foreign_number foreign.Stamp = 2
foreign_number foreign.Index = 3
foreign_number foreign.Code = 4
foreign_number foreign.Object = 5

-- the archive has the policy's code and segment
abbrev pub HasCode : PolicyModel → ArchiveModel → Type 0
HasCode policy archive = (archive.k ≡ policy.k) × (archive.m ≡ policy.m) × (archive.segment ≡ policy.segment)

-- What was asked for: an archive of a name of some kind, a stamp, an index and a policy.
pub record IsAsked (Named : NameModel → Type 0) (policy : PolicyModel) (stamp index : ℕ) (archive : ArchiveModel) : Type 0 where
  pub name : Named archive.name
  pub stamp_is : archive.stamp ≡ stamp
  pub index_is : archive.index ≡ index
  pub code : HasCode policy archive

-- the first thing in which an archive differs from what was asked for; of the object nothing is asked here
abbrev pub Differs : (NameModel → Type 0) → PolicyModel → (stamp index : ℕ) → ArchiveModel → Foreign → Type 0
Differs Named policy stamp index archive foreign.Name = Named archive.name → ⊥
Differs Named policy stamp index archive foreign.Stamp = Named archive.name × (archive.stamp ≢ stamp)
Differs Named policy stamp index archive foreign.Index = Named archive.name × (archive.stamp ≡ stamp) × (archive.index ≢ index)
Differs Named policy stamp index archive foreign.Code = Named archive.name × (archive.stamp ≡ stamp) × (archive.index ≡ index) × (HasCode policy archive → ⊥)
Differs Named policy stamp index archive foreign.Object = ⊥

-- the name's place is this one
abbrev pub IsOfPlace : ClusterModel → PlaceModel → NameModel → Type 0
IsOfPlace cluster place name = place_of_name cluster name ≡ place

-- the archive has the stamp, the index and the code that were asked for
pub record IsAlike (policy : PolicyModel) (stamp index : ℕ) (archive : ArchiveModel) : Type 0 where
  pub stamp_is : archive.stamp ≡ stamp
  pub index_is : archive.index ≡ index
  pub code : HasCode policy archive

-- the first of these in which it differs
abbrev pub DiffersIn : PolicyModel → (stamp index : ℕ) → ArchiveModel → Foreign → Type 0
DiffersIn policy stamp index archive foreign.Name = ⊥
DiffersIn policy stamp index archive foreign.Stamp = archive.stamp ≢ stamp
DiffersIn policy stamp index archive foreign.Index = (archive.stamp ≡ stamp) × (archive.index ≢ index)
DiffersIn policy stamp index archive foreign.Code = (archive.stamp ≡ stamp) × (archive.index ≡ index) × (HasCode policy archive → ⊥)
DiffersIn policy stamp index archive foreign.Object = ⊥

-- the bytes are the archive of a place, stamp and index
pub record IsArchiveOf (cluster : ClusterModel) (place : PlaceModel) (stamp index : ℕ) (bytes : List ℕ) : Type 0 where
  pub archive : ArchiveModel
  pub spelled : IsArchive bytes archive
  pub asked : IsAsked (IsOfPlace cluster place) cluster.policy stamp index archive

-- they are not what was asked for: they are no archive, or another one
abbrev pub IsSpoilOf : (NameModel → Type 0) → PolicyModel → (stamp index : ℕ) → List ℕ → Spoil → Type 0
IsSpoilOf Named policy stamp index bytes (spoil.Fault fault) = IsFault bytes fault
IsSpoilOf Named policy stamp index bytes (spoil.Foreign foreign) = (archive : ArchiveModel) × IsArchive bytes archive × Differs Named policy stamp index archive foreign

-- they are not the archive of a place, stamp and index
abbrev pub IsSpoil : ClusterModel → PlaceModel → (stamp index : ℕ) → List ℕ → Spoil → Type 0
IsSpoil cluster place stamp index bytes spoil = IsSpoilOf (IsOfPlace cluster place) cluster.policy stamp index bytes spoil

-- the name is this one
abbrev pub IsNamed : NameModel → NameModel → Type 0
IsNamed name other = other ≡ name
