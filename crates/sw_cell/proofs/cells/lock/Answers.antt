use Rattle.std.proofs.Common.{inl, List, arith, subst, sym}
use Rattle.sw_view.specs.declared.event.Event.{Event}
use Rattle.sw_law_replayed.specs.Standing.{IsReplayed}
use Rattle.sw_cell.specs.Locked.{AreCounted}
use Rattle.sw_cell.proofs.Claiming.{mounted_only}
use Rattle.sw_cell.proofs.cells.lock.Goals as goal

pub new-requires-clause-counted : goal.new-requires-clause-counted
new-requires-clause-counted g c =
    subst (λ (events : List Event). AreCounted events (g.D.Disk.seen c.args.node.disk).faults) (sym (mounted_only c.in-Ok.seat c.args.slot c.note.result.known c.in-Ok.ensures.1 c.in-Ok.ensures.2)) (inl (omega arith))

pub new-requires-clause-replayed : goal.new-requires-clause-replayed
new-requires-clause-replayed g c =
    subst (λ (events : List Event). IsReplayed g.C.OfCluster.cluster g.D.Disk.seen events c.args.node) (sym (mounted_only c.in-Ok.seat c.args.slot c.note.result.known c.in-Ok.ensures.1 c.in-Ok.ensures.2)) c.requires.begun.1.replayed
