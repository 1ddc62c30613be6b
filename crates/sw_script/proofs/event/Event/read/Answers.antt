use Rattle.std.proofs.Common.{arith, sym, ◌∙◌}
use Rattle.sw_script.proofs.Readings.{passed_on, tells_event}
use Rattle.sw_script.proofs.event.Event.read.Goals as goal

pub returns-in_err-event-clause-memory : goal.returns-in_err-event-clause-memory
returns-in_err-event-clause-memory c = passed_on _ c.from_residual.result _ c.from_residual.ensures.1 (λ none. tells_event c.args.line.now (omega arith) (sym c.is_blank.ensures ∙ c.if-is_blank.false) (c.in_err-event.ensures.memory none))
