-- Archives gathered to read an object.
use Rattle.std.specs.Prelude.{◌≡◌, ◌≢◌, ◌<◌, ◌≤◌, ℕ, List, [], ◌∷◌, length, Result, Ok, Err, ⊤}
use Rattle.std.specs.List.{All, AllPairs}
use Rattle.md5.specs.Md5.{md5}
use Rattle.sw_types.specs.Object.{ObjectModel}
use Rattle.sw_archive.specs.Archive.{ArchiveModel, IsArchive, IsSound}
use Rattle.sw_archive.specs.Pieces.{AreOfPieces, IsDecoded, joined_fragments}
use Rattle.sw_archive.specs.declared.assemble.AssembleFault.{AssembleFault}
use Rattle.sw_archive.specs.declared.assemble.AssembleFault.TheVariants.{BodyMd5, NoMemory}

-- the archives that were added, in order, and for how many there is room
pub record AssembleModel : Type 0 where
  pub archives : List ArchiveModel
  pub room : ℕ

-- two archives are alike but for index and payload
abbrev pub AreAlike : ArchiveModel → ArchiveModel → Type 0
AreAlike a b = a ≡ record b { index = a.index; payload = a.payload }

-- an archive can stand beside these: it is alike to each, its index isn't there, and fewer than its k are
pub record IsNext (archives : List ArchiveModel) (archive : ArchiveModel) : Type 0 where
  pub alike : All (λ other. AreAlike other archive) archives
  pub new : All (λ other. other.index ≢ archive.index) archives
  pub few : length archives < archive.k

-- archives that stand beside one another: each within its bounds, alike, of different indices, at most k
pub record AreTogether (archives : List ArchiveModel) : Type 0 where
  pub sound : All IsSound archives
  pub alike : AllPairs AreAlike archives
  pub distinct : AllPairs (λ a b. a.index ≢ b.index) archives
  pub few : All (λ archive. length archives ≤ archive.k) archives

-- the k of the first of some archives, or of this one where there is none
abbrev pub k_of : List ArchiveModel → ArchiveModel → ℕ
k_of [] archive = archive.k
k_of (first ∷ others) archive = first.k

-- k archives are there
abbrev pub AreEnough : List ArchiveModel → Type 0
AreEnough [] = ⊥
AreEnough (first ∷ others) = length (first ∷ others) ≡ first.k

-- an object has what these archives tell of it, and the body that they hold
pub record IsTold (archives : List ArchiveModel) (object : ObjectModel) : Type 0 where
  pub head : All (λ archive. object.head ≡ archive.head) archives
  pub length : All (λ archive. length object.body ≡ archive.body_length) archives
  pub body_md5 : All (λ archive. object.body_md5 ≡ archive.body_md5) archives
  pub decoded : IsDecoded archives object.body

-- these archives tell another MD5 than that of the body that they hold
pub record IsOther (archives : List ArchiveModel) (told computed : List ℕ) : Type 0 where
  pub tells : All (λ archive. told ≡ archive.body_md5) archives
  pub differs : told ≢ computed
  pub body : List ℕ
  pub length : All (λ archive. length body ≡ archive.body_length) archives
  pub decoded : IsDecoded archives body
  pub computes : computed ≡ md5 body

-- what reading k archives gives, whatever they hold
abbrev pub GivesObject : List ArchiveModel → Result ObjectModel AssembleFault → Type 0
GivesObject archives (Ok object) = IsTold archives object
GivesObject archives (Err (BodyMd5 told computed)) = IsOther archives told computed
GivesObject archives (Err NoMemory) = ⊤

-- the bytes are an archive of this index beside these, and its payload has the fragments of the pieces that these are of
pub record IsFurther (archives : List ArchiveModel) (index : ℕ) (bytes : List ℕ) : Type 0 where
  pub archive : ArchiveModel
  pub spelled : IsArchive bytes archive
  pub indexed : archive.index ≡ index
  pub alike : All (λ other. AreAlike other archive) archives
  pub pieces : List (List ℕ)
  pub of : AreOfPieces archives pieces
  pub rebuilt : archive.payload ≡ joined_fragments archive.k archive.segment archive.body_length pieces index
