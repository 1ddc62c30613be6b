use Rattle.std.proofs.Common.{arith}
use Rattle.sw_load.proofs.Progress.{may-go, progress-more, progress-next, progress-none}
use Rattle.sw_load.proofs.running.load.Goals as goal

pub events-init : goal.events-init
events-init c = rw (c.in_ok-work.ensures, c.new-summary.ensures) (progress-none c.args.cluster.now c.args.number c.in_ok-world.world c.in_ok-world.ensures.cluster c.in_ok-world.ensures.stands)

pub take_event-requires : goal.take_event-requires
take_event-requires c =
    let one = c.in-Some.event in
    let progress =
    progress-next c.args.cluster.now c.args.number c.in_ok-event.field-0 one c.events.work c.next.new.self c.events.world c.events.summary c.in_ok-event.ensures.next c.in-Some.is
    c.events.invariant in
    record { may = (progress.after, progress.stands, may-go c.args.cluster.now c.args.number c.events.world one c.next.new.self c.events.summary progress (omega (arith, c.ranges.number.fits))) }

pub events-preserved : goal.events-preserved
events-preserved c =
    let one = c.in-Some.event in
    let progress =
    progress-next c.args.cluster.now c.args.number c.in_ok-event.field-0 one c.events.work c.next.new.self c.events.world c.events.summary c.in_ok-event.ensures.next c.in-Some.is
    c.events.invariant in
    rw (c.add_ends.ensures, c.as_slice.ensures)
    (progress-more c.args.cluster.now c.args.number c.events.world one c.next.new.self c.events.summary progress c.in_ok-told.told c.take_event.new.world c.in_ok-told.ensures.cluster
    (c.in_ok-told.ensures.does progress.after progress.stands))
