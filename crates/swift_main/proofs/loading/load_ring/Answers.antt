use Rattle.std.proofs.Common.{ℕ, List, subst, arith}
use Rattle.swift_main.specs.Seen.{SinkSeen}
use Rattle.swift_main.specs.Writing.{Writes}
use Rattle.swift_main.specs.declared.status.Status.TheVariants.{Done}
use Rattle.swift_main.proofs.Loaded.{input_loaded}
use Rattle.swift_main.proofs.loading.load_ring.Goals as goal

pub returns-in-Ok : goal.returns-in-Ok
returns-in-Ok g c =
    let before : SinkSeen = record { written = g.O.Sink.written c.args.output.now; faults = g.O.Sink.faults c.args.output.now } in
    let after : SinkSeen = record { written = g.O.Sink.written c.write_text.new.output; faults = g.O.Sink.faults c.write_text.new.output } in
    let wrote : Writes Done c.in-Ok.text before after c.write_text.result = subst (λ (text : List ℕ). Writes Done text before after c.write_text.result) c.as_slice.ensures c.write_text.ensures in
    input_loaded c.args.steps before after c.in-Ok.text c.write_text.result wrote c.args.ring.now (omega (arith, c.if-ring-gt-GREATEST_INPUT.false)) c.in-Ok.ensures.text
