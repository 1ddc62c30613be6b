use Rattle.std.proofs.Common.{inr, subst}
use Rattle.swift_main.specs.Answer.{IsAnswer}
use Rattle.swift_main.specs.Seen.{SinkSeen}
use Rattle.swift_main.specs.Writing.{Writes}
use Rattle.swift_main.proofs.Played.{played}
use Rattle.swift_main.proofs.playing.play_from.Goals as goal

pub returns-in-Ok : goal.returns-in-Ok
returns-in-Ok g c =
    let answer = c.answer_input-answer.result in
    let before : SinkSeen = record { written = g.O.Sink.written c.args.output.now; faults = g.O.Sink.faults c.args.output.now } in
    let after : SinkSeen = record { written = g.O.Sink.written c.write_text.new.output; faults = g.O.Sink.faults c.write_text.new.output } in
    let is = subst (λ input. IsAnswer input answer) c.deref.ensures.value c.answer_input-answer.ensures in
    let wrote = subst (λ text. Writes answer.status text before after c.write_text.result) c.as_slice.ensures c.write_text.ensures in
    inr (c.in-Ok.whole.items, c.in-Ok.ensures.read, played c.in-Ok.whole.items answer before after c.write_text.result is wrote)
