use Rattle.std.proofs.Common.{◌≡◌, ◌++◌, map, take, drop}
use Rattle.sw_memdisk.specs.Held.{held_renamed}
use Rattle.sw_memdisk.proofs.held.rename_all.Given as goal

abbrev pub invariant-loop-held : goal.invariant-loop-held
invariant-loop-held l = l.files ≡ map (held_renamed l.from l.to) (take l.held-index l.initial.files) ++ drop l.held-index l.initial.files
