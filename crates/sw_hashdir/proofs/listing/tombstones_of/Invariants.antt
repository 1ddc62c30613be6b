use Rattle.std.proofs.Common.{take}
use Rattle.std.specs.Bool.{⊤}
use Rattle.sw_hashpath.specs.declared.file_name.FileName.TheVariants.{Tombstone}
use Rattle.sw_hashdir.proofs.Listed.{AreKept}
use Rattle.sw_hashdir.proofs.listing.tombstones_of.Given as goal

abbrev pub invariant-loop-name : goal.invariant-loop-name
invariant-loop-name l = AreKept (λ stamp. Tombstone stamp) (λ stamp. ⊤) (take l.name-index l.names) l.stamps.items
