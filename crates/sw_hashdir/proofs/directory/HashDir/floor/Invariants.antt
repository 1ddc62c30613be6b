use Rattle.std.proofs.Common.{take}
use Rattle.sw_hashdir.specs.Directory.{IsFloor}
use Rattle.sw_hashdir.proofs.directory.HashDir.floor.Given as goal

abbrev pub invariant-loop-name : goal.invariant-loop-name
invariant-loop-name l = IsFloor (take l.name-index l.name-items) l.floor
