-- Names that are obsolete, and the names after a change.
use Rattle.std.specs.Prelude.{◌≡◌, ◌≢◌, ◌⊎◌, ◌↔◌, ◌<◌, Bool, true, false, List, Contains, Some}
use Rattle.sw_hashpath.specs.declared.file_name.FileName.{FileName}
use Rattle.sw_hashpath.specs.declared.file_name.FileName.TheVariants.{Data, Tombstone}
use Rattle.sw_hashdir.specs.Directory.{IsFloor}
use Rattle.sw_hashdir.specs.declared.floor.Floor.{Floor}
use Rattle.sw_hashdir.specs.declared.floor.FloorKind.TheVariants as kind

-- the plain name of an entry that has its durable name
abbrev pub IsTwin : List FileName → FileName → Type 0
IsTwin names (Data stamp index false) = Contains names (Data stamp index true)
IsTwin names (Data stamp index true) = ⊥
IsTwin names (Tombstone stamp) = ⊥

-- a file below a floor: an older one, or an entry of the floor's stamp where the floor is a tombstone
abbrev pub IsBelow : Floor → FileName → Type 0
IsBelow floor (Data stamp index durable) = (stamp < floor.stamp) ⊎ ((stamp ≡ floor.stamp) × (floor.kind ≡ kind.Tombstone))
IsBelow floor (Tombstone stamp) = stamp < floor.stamp

abbrev pub IsBelowFloor : List FileName → FileName → Type 0
IsBelowFloor names name = (floor : Floor) × IsFloor names (Some floor) × IsBelow floor name

-- at every role a twin is obsolete; at a primary what is below the floor is, too
abbrev pub IsObsolete : Bool → List FileName → FileName → Type 0
IsObsolete is_primary names name = Contains names name × (IsTwin names name ⊎ ((is_primary ≡ true) × IsBelowFloor names name))

-- a durable name takes the place of its plain one
abbrev pub Replaces : FileName → FileName → Type 0
Replaces (Data stamp index true) other = other ≡ Data stamp index false
Replaces (Data stamp index false) other = ⊥
Replaces (Tombstone stamp) other = ⊥

-- the names once this one was made
abbrev pub IsAfter : FileName → List FileName → List FileName → Type 0
IsAfter made names after = (name : FileName) → Contains after name ↔ ((name ≡ made) ⊎ (Contains names name × (Replaces made name → ⊥)))

-- these of the names that are not that one
abbrev pub IsWithout : FileName → (names rest : List FileName) → Type 0
IsWithout gone names rest = (name : FileName) → Contains rest name ↔ (Contains names name × (name ≢ gone))
