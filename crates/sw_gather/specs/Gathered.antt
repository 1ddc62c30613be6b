-- Archives that were brought, and their object.
use Rattle.std.specs.Prelude.{◌≡◌, ◌⊎◌, ℕ, Bool, true, false, List, [], ◌∷◌, ◌++◌, length, Option, Some}
use Rattle.sw_types.specs.Object.{IsObject, ObjectModel}
use Rattle.sw_types.specs.Policy.{PolicyModel}
use Rattle.sw_archive.specs.Archive.{ArchiveModel}
use Rattle.sw_archive.specs.Assemble.{IsNext, IsOther, IsTold}

pub record GatheredModel : Type 0 where
  pub archives : List ArchiveModel
  pub object : Option ObjectModel

-- some archives tell another MD5 than that of the body that they hold
pub record TellOther (archives : List ArchiveModel) : Type 0 where
  pub told : List ℕ
  pub computed : List ℕ
  pub other : IsOther archives told computed

-- an object is there, as the archives tell and hold it
abbrev pub IsThere : List ArchiveModel → Option ObjectModel → Type 0
IsThere archives object = (found : ObjectModel) × (object ≡ Some found) × IsObject found × IsTold archives found

-- where k archives are there, the object is, as they tell and hold it
abbrev pub HasObject : ℕ → GatheredModel → Type 0
HasObject k gathered = length gathered.archives ≡ k → IsThere gathered.archives gathered.object

-- the last archive was taken away, and nothing else
pub record IsWithoutLast (before after : GatheredModel) : Type 0 where
  pub last : ArchiveModel
  pub archives : before.archives ≡ after.archives ++ last ∷ []
  pub object : after.object ≡ before.object

-- the object of k archives is decoded, or the last of them is taken away, since they tell another MD5
abbrev pub Settles : GatheredModel → Bool → GatheredModel → Type 0
Settles before true after = (after.archives ≡ before.archives) × IsThere after.archives after.object
Settles before false after = TellOther before.archives × IsWithoutLast before after

-- where k archives are together, they tell the MD5 of the body that they hold
abbrev pub AreRight : PolicyModel → List ArchiveModel → Type 0
AreRight policy archives = length archives ≡ policy.k → (object : ObjectModel) × IsObject object × IsTold archives object

-- they do not
pub record AreWrong (policy : PolicyModel) (archives : List ArchiveModel) : Type 0 where
  pub enough : length archives ≡ policy.k
  pub told : List ℕ
  pub computed : List ℕ
  pub other : IsOther archives told computed

-- an archive is not of the object of those before it: it cannot stand beside them, or they tell another MD5 with it
abbrev pub Strays : PolicyModel → List ArchiveModel → ArchiveModel → Type 0
Strays policy others archive = (IsNext others archive → ⊥) ⊎ (IsNext others archive × AreWrong policy (others ++ archive ∷ []))

-- an archive is of the object of those before it, and is beside them now
pub record IsBeside (policy : PolicyModel) (before : GatheredModel) (archive : ArchiveModel) (after : GatheredModel) : Type 0 where
  pub next : IsNext before.archives archive
  pub archives : after.archives ≡ before.archives ++ archive ∷ []
  pub object : HasObject policy.k after

-- it is not, and was let go
pub record IsStray (policy : PolicyModel) (before : GatheredModel) (archive : ArchiveModel) (after : GatheredModel) : Type 0 where
  pub kept : after ≡ before
  pub strays : Strays policy before.archives archive

abbrev pub Joins : PolicyModel → GatheredModel → ArchiveModel → Bool → GatheredModel → Type 0
Joins policy before archive true after = IsBeside policy before archive after
Joins policy before archive false after = IsStray policy before archive after
