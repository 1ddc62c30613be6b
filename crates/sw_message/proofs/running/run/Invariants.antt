-- What holds of an operation over a link since it began.
use Rattle.sw_message.proofs.Going.{HasRun}
use Rattle.sw_message.proofs.running.run.Given as goal

abbrev pub invariant-loop-sent : goal.invariant-loop-sent
invariant-loop-sent g l = HasRun g.P.Operation g.L.Link l.initial.op l.initial.link l.op l.link

abbrev pub decreases-loop-sent : goal.decreases-loop-sent
decreases-loop-sent g l = g.P.Operation.left l.op
