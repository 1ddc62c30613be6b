use Rattle.std.proofs.Common.{◌≡◌, map, take}
use Rattle.sw_message.specs.Floors.{highest_from, tombstone_floor}
use Rattle.sw_message.proofs.Highest.{entry_floors}
use Rattle.sw_message.proofs.floors.highest_with.Given as goal

abbrev pub invariant-loop-entry : goal.invariant-loop-entry
invariant-loop-entry l = l.best ≡ highest_from l.fn.best (entry_floors (take l.entry-index l.entry-items))

abbrev pub invariant-loop-stamp : goal.invariant-loop-stamp
invariant-loop-stamp l = l.best ≡ highest_from l.initial.best (map tombstone_floor (take l.stamp-index l.stamp-items))
