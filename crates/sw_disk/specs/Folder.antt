-- A folder of a disk: its files, the changes of names that are not stable yet, and what a crash may leave.
use Rattle.std.specs.Prelude.{◌≡◌, ℕ, ◌≤◌, Bool, true, if◌then◌else◌, not, nat_eq, List, [], ◌∷◌, ◌++◌, filter, find, length, map, take, Option, Some, None, ⊤}
use Rattle.std.specs.Cmp.Lexicographic.{pointwise}

-- whether two names are the same
abbrev pub same_name : List ℕ → List ℕ → Bool
same_name a b = pointwise nat_eq a b

-- bytes, and whether they are on the disk
pub record Content : Type 0 where
  pub bytes : List ℕ
  pub synced : Bool

pub record File : Type 0 where
  pub name : List ℕ
  pub content : Content

-- a change of names
pub data Change : Type 0 where
  Publish : (file : File) → Change
  Rename : (from to : List ℕ) → Change
  Remove : (name : List ℕ) → Change

abbrev pub renamed : List ℕ → List ℕ → File → File
renamed from to file = record file { name = if same_name file.name from then to else file.name }

-- the files after a change: a published file is the last, a renamed one keeps its place
abbrev pub changed : Change → List File → List File
changed (Publish file) files = files ++ file ∷ []
changed (Rename from to) files = map (renamed from to) files
changed (Remove name) files = filter (λ file. not (same_name file.name name)) files

-- the files after these changes, the first of them first
abbrev pub all_changed : List Change → List File → List File
all_changed [] files = files
all_changed (change ∷ changes) files = all_changed changes (changed change files)

-- the stable files, and the changes since, in their order
pub record Folder : Type 0 where
  pub stable : List File
  pub pending : List Change

-- the files that a call sees
abbrev pub files_of : Folder → List File
files_of folder = all_changed folder.pending folder.stable

abbrev pub named : List ℕ → File → Bool
named name file = same_name file.name name

abbrev pub content_of : Option File → Option Content
content_of None = None
content_of (Some file) = Some file.content

-- the content of a file by its name
abbrev pub content_at : List ℕ → List File → Option Content
content_at name files = content_of (find (named name) files)

-- a file after a crash: its bytes where they were synced, and else any bytes of its length
pub record Survives (file image : File) : Type 0 where
  pub name : image.name ≡ file.name
  pub size : length image.content.bytes ≡ length file.content.bytes
  pub bytes : file.content.synced ≡ true → image.content.bytes ≡ file.content.bytes
  pub synced : image.content.synced ≡ true

-- each file survives, in order
abbrev pub Survive : List File → List File → Type 0
Survive [] [] = ⊤
Survive [] (image ∷ images) = ⊥
Survive (file ∷ files) [] = ⊥
Survive (file ∷ files) (image ∷ images) = Survives file image × Survive files images

-- a crash may leave these files: the stable ones after some first part of the pending changes
pub record IsImage (folder : Folder) (image : List File) : Type 0 where
  pub kept : ℕ
  pub within : kept ≤ length folder.pending
  pub survive : Survive (all_changed (take kept folder.pending) folder.stable) image
