use Rattle.std.proofs.lemmas.Result.{err_from_is_err_and}
use Rattle.sw_play.proofs.Lining.{stops_event}
use Rattle.sw_play.proofs.playing.do_event.Goals as goal

pub returns-in_err-told-clause-stops : goal.returns-in_err-told-clause-stops
returns-in_err-told-clause-stops c before stands =
    let (stop, is, by) = err_from_is_err_and c.from_residual.result c.from_residual.ensures.1 in
    rw is (stops_event before c.args.event.now c.args.world.now c.step.new.self c.in_err-told.field-0.0 stop by (c.in_err-told.ensures.faults before stands))

pub returns-clause-stops : goal.returns-clause-stops
returns-clause-stops c before stands = let does = c.in_ok-told.ensures.does before stands in (does.fine, does.spare)
