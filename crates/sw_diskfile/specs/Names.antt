-- How the directory of a folder changes, and how a folder is looked at.
use Rattle.std.specs.Prelude.{◌≡◌, ◌⊎◌, List, Option, Some, None, ℕ}
use Rattle.sw_disk.specs.Answers.{IsListing, names_of}
use Rattle.sw_disk.specs.Calls.{Call}
use Rattle.sw_disk.specs.Folder.{Folder, files_of}
use Rattle.sw_disk.specs.Runs.{IfTold, Past, Runs, Seen}
use Rattle.sw_disk.specs.State.{State}
use Rattle.sw_disk.specs.declared.refusal.DiskRefusal.{DiskRefusal}
use Rattle.sw_disk.specs.declared.refusal.DiskRefusal.TheVariants.{NoMemory}
use Rattle.sw_hashpath.specs.declared.file_name.FileName.{FileName}
use Rattle.sw_hashdir.specs.Directory.{IsDirectory}
use Rattle.sw_hashdir.specs.Obsolete.{IsAfter, IsWithout}

-- these are the names of the folder's files
abbrev pub IsDirectoryOf : Folder → List FileName → Type 0
IsDirectoryOf folder names = IsDirectory (names_of (files_of folder)) names

-- these are the names of the folder's files, ascending, where they are told
abbrev pub IsListed : Option State → List ℕ → List (List ℕ) → Type 0
IsListed told name texts = IfTold told (λ state. IsListing (names_of (files_of (state.folder name))) texts)

-- the directory becomes that once this name was made
abbrev pub MakesName : FileName → (before after : Folder) → Type 0
MakesName made before after = (names later : List FileName) → IsDirectoryOf before names → IsAfter made names later → IsDirectoryOf after later

-- the directory becomes that without this name
abbrev pub DropsName : FileName → (before after : Folder) → Type 0
DropsName dropped before after = (names later : List FileName) → IsDirectoryOf before names → IsWithout dropped names later → IsDirectoryOf after later

-- the calls run, and then memory may be wanted
abbrev pub RunsUnlessMemory : {D : Type 0} → (D → Seen) → (D → Past) → List Call → Option DiskRefusal → D → D → Type 0
RunsUnlessMemory seen left_since calls refusal old new = Runs seen left_since calls refusal old new ⊎ ((refusal ≡ Some NoMemory) × Runs seen left_since calls None old new)
