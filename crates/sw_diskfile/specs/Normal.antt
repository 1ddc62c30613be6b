-- A folder without the names that are obsolete in it.
use Rattle.std.specs.Prelude.{◌≡◌, ◌⊎◌, ◌↔◌, ℕ, ◌≤◌, Bool, List, [], ◌∷◌, Contains, map, Option, Some, IsSome}
use Rattle.std.specs.List.{AllPairs}
use Rattle.std.specs.Cmp.Lexicographic.{slice_cmp}
use Rattle.std.specs.Ordering.{nat_cmp}
use Rattle.std.specs.declared.cmp.Ordering.TheVariants.{Less}
use Rattle.sw_disk.specs.Answers.{names_of}
use Rattle.sw_disk.specs.Folder.{File, Folder, Remove, all_changed, files_of}
use Rattle.sw_disk.specs.Calls.{ListNames, SyncDir}
use Rattle.sw_disk.specs.Runs.{IfTold, LeavesOnly, Past, Runs, Seen}
use Rattle.sw_disk.specs.State.{State}
use Rattle.sw_disk.specs.declared.refusal.DiskRefusal.{DiskRefusal}
use Rattle.sw_disk.specs.declared.refusal.DiskRefusal.TheVariants.{Failed}
use Rattle.sw_hashpath.specs.FileName.{file_name_text}
use Rattle.sw_hashpath.specs.declared.file_name.FileName.{FileName}
use Rattle.sw_hashdir.specs.Directory.{IsDirectory, IsFloor}
use Rattle.sw_hashdir.specs.Obsolete.{IsObsolete}
use Rattle.sw_hashdir.specs.declared.floor.Floor.{Floor}
use Rattle.sw_diskfile.specs.Calls.{tidy_calls}
use Rattle.sw_diskfile.specs.Changes.{IfBothTold, IsSettled}
use Rattle.sw_diskfile.specs.Names.{IsListed}

-- the text is that of an obsolete name
abbrev pub IsObsoleteText : Bool → List FileName → List ℕ → Type 0
IsObsoleteText is_primary names text = (name : FileName) × IsObsolete is_primary names name × (text ≡ file_name_text name)

-- these are the texts of the obsolete names among them, ascending
pub record AreObsolete (is_primary : Bool) (texts obsolete : List (List ℕ)) : Type 0 where
  pub names : List FileName
  pub directory : IsDirectory texts names
  pub all : (text : List ℕ) → Contains obsolete text ↔ IsObsoleteText is_primary names text
  pub ascend : AllPairs (λ a b. slice_cmp nat_cmp a b ≡ Less) obsolete

-- of the files those that do not go, in their order
abbrev pub AreThoseLeft : (List ℕ → Type 0) → (files left : List File) → Type 0
AreThoseLeft Goes [] left = left ≡ []
AreThoseLeft Goes (file ∷ files) left =
    (Goes file.name × AreThoseLeft Goes files left) ⊎ ((Goes file.name → ⊥) × (rest : List File) × (left ≡ file ∷ rest) × AreThoseLeft Goes files rest)

-- the files without those whose names are obsolete: the normal form
pub record IsNormalForm (is_primary : Bool) (files normal : List File) : Type 0 where
  pub names : List FileName
  pub directory : IsDirectory (names_of files) names
  pub left : AreThoseLeft (IsObsoleteText is_primary names) files normal

-- what is the normal form of one folder is that of the other
abbrev pub HaveOneNormalForm : Bool → (files others : List File) → Type 0
HaveOneNormalForm is_primary files others = (normal : List File) → IsNormalForm is_primary files normal ↔ IsNormalForm is_primary others normal

-- a fact of each list of the texts that are obsolete in a folder, where it is told; there is no other such list
abbrev pub WithObsolete : Option State → List ℕ → Bool → (List (List ℕ) → Type 0) → Type 0
WithObsolete told name is_primary P = IfTold told (λ state. (obsolete : List (List ℕ)) → AreObsolete is_primary (names_of (files_of (state.folder name))) obsolete → P obsolete)

-- what was obsolete is removed: nothing is any more, and the floor is the same
pub record IsTidied (is_primary : Bool) (before after : Folder) : Type 0 where
  pub obsolete : List (List ℕ)
  pub are : AreObsolete is_primary (names_of (files_of before)) obsolete
  pub removed : files_of after ≡ all_changed (map Remove obsolete) (files_of before)
  pub normal : IsNormalForm is_primary (files_of before) (files_of after)
  pub none : (names : List FileName) (name : FileName) → IsDirectory (names_of (files_of after)) names → IsObsolete is_primary names name → ⊥
  pub floor : (names later : List FileName) (floor : Option Floor) → IsDirectory (names_of (files_of before)) names → IsDirectory (names_of (files_of after)) later → IsFloor names floor → IsFloor later floor

-- A folder keeps its normal form, also where a crash comes at any moment within: the normal form of what it leaves is that of what one
-- before might have left.
pub record KeepsNormal {D : Type 0} (seen : D → Seen) (left_since : D → Past) (name : List ℕ) (is_primary : Bool) (old new : D) : Type 0 where
  pub stands : IfBothTold (seen old) (seen new) name (λ before after. HaveOneNormalForm is_primary (files_of before) (files_of after))
  pub leaves : IsSome (seen old).told → (t : ℕ) (image : List File) → t ≤ (seen old).moment → left_since new t name image
      → (before : List File) × left_since old t name before × HaveOneNormalForm is_primary before image
  pub within : IfTold (seen old).told (λ before. IsSettled (before.folder name) →
      LeavesOnly left_since new (seen old).moment name (HaveOneNormalForm is_primary (files_of (before.folder name))))

-- Tidying, call by call: it is refused before the first removal, or what is obsolete among the texts that were listed is removed, and
-- then only failures stop it.
abbrev pub Tidies : {D : Type 0} → (D → Seen) → (D → Past) → List ℕ → Bool → Option DiskRefusal → D → D → Type 0
Tidies seen left_since name is_primary refusal old new =
    ((reason : DiskRefusal) × (refusal ≡ Some reason) × Runs seen left_since (ListNames name ∷ SyncDir name ∷ []) refusal old new)
    ⊎ ((texts obsolete : List (List ℕ)) × IsListed (seen old).told name texts × AreObsolete is_primary texts obsolete
    × ((reason : DiskRefusal) → refusal ≡ Some reason → reason ≡ Failed) × Runs seen left_since (tidy_calls name obsolete) refusal old new)
