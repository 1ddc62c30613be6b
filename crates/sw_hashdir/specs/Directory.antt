-- A folder's directory: the names of files that its texts spell, its entries and tombstones, and its floor.
use Rattle.std.specs.Prelude.{◌≡◌, ◌⊎◌, ◌↔◌, ℕ, ◌<◌, Bool, true, false, List, Contains, Option, Some, None}
use Rattle.sw_hashpath.specs.FileName.{IsFileName, file_name_text}
use Rattle.sw_hashpath.specs.declared.file_name.FileName.{FileName}
use Rattle.sw_hashpath.specs.declared.file_name.FileName.TheVariants.{Data, Tombstone}
use Rattle.sw_hashdir.specs.declared.entry.Entry.{Entry}
use Rattle.sw_hashdir.specs.declared.floor.Floor.{Floor}
use Rattle.sw_hashdir.specs.declared.floor.FloorKind.{FloorKind}
use Rattle.sw_hashdir.specs.declared.floor.FloorKind.TheVariants as kind

-- these are exactly the names of files that the texts spell; other texts spell none
abbrev pub IsDirectory : List (List ℕ) → List FileName → Type 0
IsDirectory texts names = (name : FileName) → Contains names name ↔ (IsFileName name × Contains texts (file_name_text name))

-- ---- entries

-- an entry is durable where it has its durable name, also where it has its plain one
abbrev pub HasEntryAt : List FileName → ℕ → ℕ → Bool → Type 0
HasEntryAt names stamp index true = Contains names (Data stamp index true)
HasEntryAt names stamp index false = Contains names (Data stamp index false) × (Contains names (Data stamp index true) → ⊥)

abbrev pub HasEntry : List FileName → Entry → Type 0
HasEntry names entry = HasEntryAt names entry.stamp entry.index entry.durable

-- ---- the floor

-- a durable entry or a tombstone has this stamp
abbrev pub HasFloorAt : List FileName → ℕ → FloorKind → Type 0
HasFloorAt names stamp kind.Durable = (index : ℕ) × Contains names (Data stamp index true)
HasFloorAt names stamp kind.Tombstone = Contains names (Tombstone stamp)

abbrev pub HasFloor : List FileName → Floor → Type 0
HasFloor names floor = HasFloorAt names floor.stamp floor.kind

-- a floor is above another where its stamp is greater, or where the stamps are equal and it alone is a tombstone
abbrev pub IsAbove : Floor → Floor → Type 0
IsAbove floor other = (other.stamp < floor.stamp) ⊎ ((floor.stamp ≡ other.stamp) × (floor.kind ≡ kind.Tombstone) × (other.kind ≡ kind.Durable))

-- it stands above a stamp where its own is greater, or is that one and it is a tombstone
abbrev pub StandsAbove : Floor → ℕ → Type 0
StandsAbove floor stamp = (stamp < floor.stamp) ⊎ ((floor.stamp ≡ stamp) × (floor.kind ≡ kind.Tombstone))

-- the floor of a directory: no other is above it
abbrev pub IsFloor : List FileName → Option Floor → Type 0
IsFloor names None = (other : Floor) → HasFloor names other → ⊥
IsFloor names (Some floor) = HasFloor names floor × ((other : Floor) → HasFloor names other → IsAbove other floor → ⊥)
