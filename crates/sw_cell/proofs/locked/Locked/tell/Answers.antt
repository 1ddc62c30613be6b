use Rattle.std.proofs.Common.{subst}
use Rattle.sw_pass.specs.Known.{Covers}
use Rattle.sw_pass.specs.Steps.{old_of}
use Rattle.sw_cell.specs.Locked.{LockedModel}
use Rattle.sw_cell.proofs.Joined.{covers_noted, learnt_after}
use Rattle.sw_cell.proofs.locked.Locked.tell.Goals as goal

pub returns-clause-learnt : goal.returns-clause-learnt
returns-clause-learnt g c = learnt_after c.args.pass.now.known c.note.result.known c.join.new.self.known c.join.ensures.known g.C.OfCluster.cluster c.join.ensures.learnt

pub returns-clause-told : goal.returns-clause-told
returns-clause-told g c =
    subst (λ (one : LockedModel g.row.D.Denot). Covers c.join.new.self.known (old_of one.known)) c.self.view_is
    (covers_noted c.args.pass.now.known c.note.result.known c.join.new.self.known c.join.ensures.known g.C.OfCluster.cluster c.join.ensures.learnt c.self.inside.seat.known c.note.ensures.known)
