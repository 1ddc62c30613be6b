use Rattle.std.proofs.Common.{length}
use Rattle.sw_load.proofs.Progress.{Progress}
use Rattle.sw_load.proofs.running.load.Given as goal

abbrev pub invariant-events : goal.invariant-events
invariant-events l = Progress l.fn.cluster l.fn.number l.world l.work l.summary

abbrev pub decreases-events : goal.decreases-events
decreases-events l = length l.work
