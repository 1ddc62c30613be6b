use Rattle.std.proofs.Common.{◌≡◌, take}
use Rattle.sw_load.specs.Load.{with_ends}
use Rattle.sw_load.proofs.running.add_ends.Given as goal

abbrev pub invariant-loop-line : goal.invariant-loop-line
invariant-loop-line l = l.summary ≡ with_ends (take l.line-index l.ends) l.initial.summary
