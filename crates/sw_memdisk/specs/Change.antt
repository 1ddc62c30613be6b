-- Changes of names, as they are asked for.
use Rattle.std.specs.Prelude.{◌≤◌, length}
use Rattle.sw_disk.specs.Folder.{Change}
use Rattle.sw_disk.specs.Folder as change
use Rattle.sw_memdisk.specs.Held.{content_of}
use Rattle.sw_memdisk.specs.declared.change.NameChange.{NameChange}
use Rattle.sw_memdisk.specs.declared.change.NameChange.TheVariants.{Publish, Rename, Remove}

abbrev pub change_of : NameChange → Change
change_of (Publish name content) = change.Publish (record { name = name.now; content = content_of content })
change_of (Rename from to) = change.Rename from.now to.now
change_of (Remove name) = change.Remove name.now

-- the names have at most 96 bytes
abbrev pub AreShort : NameChange → Type 0
AreShort (Publish name content) = length name.now ≤ 96
AreShort (Rename from to) = (length from.now ≤ 96) × (length to.now ≤ 96)
AreShort (Remove name) = length name.now ≤ 96
