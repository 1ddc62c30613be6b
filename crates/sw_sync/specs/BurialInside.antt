-- A burial by its fields.
use Rattle.sw_sync.specs.Parts.{Burial}
use Rattle.sw_sync.specs.declared.burial.Burial.TheInside.{Inside}

abbrev pub burial_seen : Inside → Burial
burial_seen burial = record { stamp = burial.stamp; tombstones = burial.tombstones; failed = burial.failed.items }
