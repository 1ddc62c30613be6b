-- What the calls of a disk ask and answer.
use Rattle.std.specs.Prelude.{◌≡◌, ◌≢◌, ◌↔◌, ℕ, ◌<◌, List, [], map, Option, Some, None, IsSome, String, string_bytes, ⊤}
use Rattle.std.specs.List.{AllPairs, Contains}
use Rattle.std.specs.List.Sorted.{IsSorted, IsPermutation}
use Rattle.std.specs.Ordering.{nat_cmp}
use Rattle.std.specs.Cmp.Lexicographic.{slice_cmp}
use Rattle.std.specs.declared.alloc.Global.{Global}
use Rattle.sw_disk.specs.Folder.{Content, File, Folder, content_at, files_of}
use Rattle.sw_disk.specs.Runs.{IfTold}
use Rattle.sw_disk.specs.State.{State, free_of}
use Rattle.sw_disk.specs.declared.refusal.DiskRefusal.{DiskRefusal}
use Rattle.sw_disk.specs.declared.refusal.DiskRefusal.TheVariants.{Full}

abbrev pub names_of : List File → List (List ℕ)
names_of files = map (λ file. file.name) files

-- the content of a file
abbrev pub content_in : State → List ℕ → List ℕ → Option Content
content_in state folder name = content_at name (files_of (state.folder folder))

abbrev pub HasFile : State → List ℕ → List ℕ → Type 0
HasFile state folder name = IsSome (content_in state folder name)

abbrev pub LacksFile : State → List ℕ → List ℕ → Type 0
LacksFile state folder name = content_in state folder name ≡ None

-- the bytes of a file that is there
pub record HasBytes (state : State) (folder name bytes : List ℕ) : Type 0 where
  pub content : Content
  pub there : content_in state folder name ≡ Some content
  pub bytes_are : content.bytes ≡ bytes

-- these texts, ascending
pub record IsListing (texts : List (List ℕ)) (listing : List (List ℕ)) : Type 0 where
  pub sorted : IsSorted (slice_cmp nat_cmp) listing
  pub permutation : IsPermutation texts listing

-- a folder has a file, or a change of names that is not stable
abbrev pub IsBusy : Folder → Type 0
IsBusy folder = ((files_of folder ≡ []) × (folder.pending ≡ [])) → ⊥

-- the folders that are busy, ascending, each once
pub record AreFolders (state : State) (listing : List (List ℕ)) : Type 0 where
  pub sorted : IsSorted (slice_cmp nat_cmp) listing
  pub distinct : AllPairs (λ a b. a ≢ b) listing
  pub busy : (folder : List ℕ) → Contains listing folder ↔ IsBusy (state.folder folder)

abbrev pub texts_of : List (String Global) → List (List ℕ)
texts_of texts = map string_bytes texts

abbrev pub IsNotFull : DiskRefusal → Type 0
IsNotFull (Full need free) = ⊥
IsNotFull refusal = ⊤

-- so many bytes are more than are free
pub record IsFull (need free : ℕ) (size : ℕ) (told : Option State) : Type 0 where
  pub needed : need ≡ size
  pub less : free < need
  pub free_is : IfTold told (λ state. free ≡ free_of state)
