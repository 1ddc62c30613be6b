use Rattle.std.proofs.Common.{take}
use Rattle.sw_hashdir.proofs.Directories.{IsKept}
use Rattle.sw_hashdir.proofs.directory.HashDir.after.Given as goal

abbrev pub invariant-loop-name : goal.invariant-loop-name
invariant-loop-name l = IsKept l.made (take l.name-index l.name-items) l.names.items
