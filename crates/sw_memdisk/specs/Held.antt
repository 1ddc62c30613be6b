-- Files of a folder in memory, and changes of their names.
use Rattle.std.specs.Prelude.{ℕ, ◌<◌, Bool, if◌then◌else◌, not, List, [], ◌∷◌, ◌++◌, filter, map, zero, suc, false, ⊤}
use Rattle.arrayvec.specs.ArrayString.{ArrayString}
use Rattle.sw_disk.specs.Folder.{Change, Content, File, same_name}
use Rattle.sw_disk.specs.Folder as change
use Rattle.sw_memdisk.specs.declared.held.Held.{Held}
use Rattle.sw_memdisk.specs.declared.held.MemContent.{MemContent}
use Rattle.sw_memdisk.specs.declared.held.Move.{Move}
use Rattle.sw_memdisk.specs.declared.held.Move.TheVariants.{Publish, Rename, Remove}

abbrev pub no_content : Content
no_content = record { bytes = []; synced = false }

abbrev pub content_of : MemContent → Content
content_of content = record { bytes = content.bytes.items; synced = content.synced }

-- a content by its number
abbrev pub content_number : List MemContent → ℕ → Content
content_number [] number = no_content
content_number (content ∷ contents) zero = content_of content
content_number (content ∷ contents) (suc number) = content_number contents number

abbrev pub file_of : List MemContent → Held → File
file_of contents held = record { name = held.name.bytes; content = content_number contents held.content }

abbrev pub files_in : List MemContent → List Held → List File
files_in contents files = map (file_of contents) files

abbrev pub change_of : List MemContent → Move → Change
change_of contents (Publish held) = change.Publish (file_of contents held)
change_of contents (Rename from to) = change.Rename from.bytes to.bytes
change_of contents (Remove name) = change.Remove name.bytes

-- ---- a change, in memory

abbrev pub held_named : ArrayString → Held → Bool
held_named name held = same_name held.name.bytes name.bytes

abbrev pub held_renamed : ArrayString → ArrayString → Held → Held
held_renamed from to held = record held { name = if held_named from held then to else held.name }

abbrev pub moved : Move → List Held → List Held
moved (Publish held) files = files ++ held ∷ []
moved (Rename from to) files = map (held_renamed from to) files
moved (Remove name) files = filter (λ held. not (held_named name held)) files

abbrev pub all_moved : List Move → List Held → List Held
all_moved [] files = files
all_moved (move ∷ moves) files = all_moved moves (moved move files)

-- ---- what always holds

-- each file has one of so many contents
abbrev pub AreInside : ℕ → List Held → Type 0
AreInside count [] = ⊤
AreInside count (held ∷ files) = (held.content < count) × AreInside count files

abbrev pub IsInside : ℕ → Move → Type 0
IsInside count (Publish held) = held.content < count
IsInside count (Rename from to) = ⊤
IsInside count (Remove name) = ⊤

abbrev pub AllInside : ℕ → List Move → Type 0
AllInside count [] = ⊤
AllInside count (move ∷ moves) = IsInside count move × AllInside count moves
