use Rattle.std.proofs.Common.{Ok, ap, ◌∙◌}
use Rattle.sw_play.proofs.Lining.{event_line, event_stop}
use Rattle.sw_play.proofs.playing.do_line.Goals as goal

pub returns-in-Ok-Some-clause-ok : goal.returns-in-Ok-Some-clause-ok
returns-in-Ok-Some-clause-ok c before stands =
    event_line before c.args.line.now c.in-Ok-Some.event (c.in-Ok-Some.ensures.read ∙ ap Ok c.in-Ok-Some.field-0-is) c.args.world.now c.do_event.new.world c.args.text.now c.do_event.new.text c.do_event.result
    (c.do_event.ensures.ok before stands)

pub returns-in-Ok-Some-clause-stops : goal.returns-in-Ok-Some-clause-stops
returns-in-Ok-Some-clause-stops c before stands =
    event_stop before c.args.line.now c.in-Ok-Some.event (c.in-Ok-Some.ensures.read ∙ ap Ok c.in-Ok-Some.field-0-is) c.args.world.now c.do_event.new.world c.do_event.result (c.do_event.ensures.stops before stands)
