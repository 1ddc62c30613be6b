-- What stands in a folder after changes of names, and what a crash at any moment leaves of them.
use Rattle.std.specs.Prelude.{◌≡◌, ◌⊎◌, ℕ, ◌≤◌, true, List, [], take, Option, Some, None, ⊤, IsSome, ◌∷◌}
use Rattle.sw_disk.specs.Folder.{Change, Publish, File, Folder, IsImage, Survive, all_changed, files_of}
use Rattle.sw_disk.specs.Runs.{IfTold, LeavesOnly, Past, Seen}
use Rattle.sw_disk.specs.declared.refusal.DiskRefusal.{DiskRefusal}
use Rattle.sw_disk.specs.declared.refusal.DiskRefusal.TheVariants.{Failed, Full, NoMemory}

-- a new file whose bytes are on the disk
abbrev pub new_file : (name bytes : List ℕ) → Change
new_file name bytes = Publish (record { name = name; content = record { bytes = bytes; synced = true } })

-- the bytes of these files are on the disk
abbrev pub AreSynced : List File → Type 0
AreSynced [] = ⊤
AreSynced (file ∷ files) = (file.content.synced ≡ true) × AreSynced files

-- a crash leaves the folder as it is
abbrev pub IsSettled : Folder → Type 0
IsSettled folder = (image : List File) → IsImage folder image → image ≡ files_of folder

-- the files after some first part of the changes
abbrev pub IsFirstPart : List Change → (files part : List File) → Type 0
IsFirstPart changes files part = (count : ℕ) × (part ≡ all_changed (take count changes) files)

-- what may survive of the files after some first part of the changes
abbrev pub SurvivesPart : List Change → (files image : List File) → Type 0
SurvivesPart changes files image = (count : ℕ) × Survive (all_changed (take count changes) files) image

-- a folder is as before, and no more of it is pending
pub record IsAsBefore (before after : Folder) : Type 0 where
  pub files : files_of after ≡ files_of before
  pub pending : before.pending ≡ [] → after.pending ≡ []
  pub images : (image : List File) → IsImage after image → IsImage before image

-- all the changes were made, or a first part of them where the disk failed; other refusals come before the first
abbrev pub Stands : Option DiskRefusal → List Change → (before after : Folder) → Type 0
Stands None changes before after = files_of after ≡ all_changed changes (files_of before)
Stands (Some Failed) changes before after = IsFirstPart changes (files_of before) (files_of after)
Stands (Some (Full need free)) changes before after = IsAsBefore before after
Stands (Some NoMemory) changes before after = IsAsBefore before after

-- a fact of a folder before and after, where both are told
abbrev pub IfBothTold : Seen → Seen → List ℕ → (Folder → Folder → Type 0) → Type 0
IfBothTold old new name P = IfTold old.told (λ before. IfTold new.told (λ after. P (before.folder name) (after.folder name)))

-- The changes of a folder are made, the first of them first.
pub record Changes {D : Type 0} (seen : D → Seen) (left_since : D → Past) (name : List ℕ) (changes : List Change) (refusal : Option DiskRefusal) (old new : D) : Type 0 where
  -- what stands
  pub stands : IfBothTold (seen old) (seen new) name (Stands refusal changes)
  pub synced : IfBothTold (seen old) (seen new) name (λ before after. AreSynced (files_of before) → AreSynced (files_of after))
  -- a crash at any moment within leaves what it might have left without them, or what survives of some first part of them
  pub leaves : IfTold (seen old).told (λ before. (t : ℕ) (image : List File) → t ≤ (seen old).moment → left_since new t name image
      → left_since old t name image ⊎ SurvivesPart changes (files_of (before.folder name)) image)
  -- just that part where all bytes were on the disk before
  pub exactly : IfTold (seen old).told (λ before. AreSynced (files_of (before.folder name)) → (t : ℕ) (image : List File) → t ≤ (seen old).moment → left_since new t name image
      → left_since old t name image ⊎ IsFirstPart changes (files_of (before.folder name)) image)
  -- so where a crash could only have left the folder as it was, it leaves just the files after some first part of them
  pub within : IfTold (seen old).told (λ before. IsSettled (before.folder name) →
      LeavesOnly left_since new (seen old).moment name (IsFirstPart changes (files_of (before.folder name))))
  -- and once they are made, all of them
  pub settles : IfBothTold (seen old) (seen new) name (λ before after. refusal ≡ None → IsSettled before → IsSettled after)

-- No change of names is pending; and a crash leaves the folder as it is, where the bytes of its files were on the disk before.
abbrev pub IsMadeStable : (before after : Folder) → Type 0
IsMadeStable before after = (after.pending ≡ []) × (AreSynced (files_of before) → IsSettled after)

-- The folders of these names are as before, and a crash leaves there what it might have left without the call.
pub record Keeps {D : Type 0} (seen : D → Seen) (left_since : D → Past) (These : List ℕ → Type 0) (old new : D) : Type 0 where
  pub stands : (name : List ℕ) → These name → IfBothTold (seen old) (seen new) name IsAsBefore
  pub leaves : IsSome (seen old).told → (name : List ℕ) → These name → (t : ℕ) (image : List File) → t ≤ (seen old).moment → left_since new t name image → left_since old t name image
