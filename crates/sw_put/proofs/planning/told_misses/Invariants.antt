use Rattle.std.proofs.Common.{◌≡◌, take}
use Rattle.sw_put.specs.Plans.{told_misses}
use Rattle.sw_put.proofs.planning.told_misses.Given as goal

abbrev pub invariant-loop-one : goal.invariant-loop-one
invariant-loop-one l = l.misses.items ≡ told_misses (take l.one-index l.missed)
