-- What always holds of a table.
use Rattle.sw_suffix.specs.Entries.{AreKept, AreRight, AreSound, floors_of}
use Rattle.sw_suffix.specs.Table.{SuffixTableModel}
use Rattle.sw_suffix.specs.declared.table.SuffixTable.TheInside.{Inside}

abbrev pub table_model : Inside → SuffixTableModel
table_model inside = record { power = inside.power; floors = floors_of inside.floors.entries }

-- each key is that of a right place, and each hash that is kept is that from scratch
pub record IsSuffixTable (inside : Inside) : Type 0 where
  pub sound : AreSound inside.floors.entries
  pub right : AreRight inside.power inside.floors.entries
  pub kept : AreKept (floors_of inside.floors.entries) inside.kept.entries
