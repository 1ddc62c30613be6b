use Rattle.std.proofs.Common.{◌≡◌, ℕ, List, sym, ap, subst, ◌∙◌}
use Rattle.sw_view.specs.declared.event.Event.{Event}
use Rattle.sw_pass.specs.Known.{Held, HeldNode, history}
use Rattle.sw_pass.specs.Steps.{noted}
use Rattle.sw_pass.specs.declared.known.Known.{Known}
use Rattle.sw_cell.specs.Calling.{HasReplied, IsCalled}
use Rattle.sw_cell.specs.Handling.{MayHandle}
use Rattle.sw_cell.specs.Locked.{LockedModel}
use Rattle.sw_cell.proofs.Entering.{locked_joined, may_handle}
use Rattle.sw_cell.proofs.Joined.{own_stays}
use Rattle.sw_cell.proofs.Leaving.{called}
use Rattle.sw_cell.proofs.Replied.{replied_so}
use Rattle.sw_cell.proofs.locked.Locked.call.Goals as goal

pub invariant_of-self : goal.invariant_of-self
invariant_of-self g c =
    locked_joined g.C.OfCluster.cluster g.J.Site.table g.D.Disk.seen _ c.note-warrant.result.known c.join.new.self.known _ _ c.join.ensures.table.0 c.join.ensures.table.1 c.self.invariant c.join.ensures.node c.join.ensures.known

pub handle-reply-requires-clause-may : goal.handle-reply-requires-clause-may
handle-reply-requires-clause-may g c =
    subst (λ (slot : ℕ). MayHandle g.C.OfCluster.cluster g.D.Disk.tells slot c.args.msg.now c.join.new.self.known) (sym c.join.ensures.table.1)
    (may_handle g.C.OfCluster.cluster g.D.Disk.tells c.self.inside.seat.slot c.args.msg.now c.self.inside.seat.known c.args.pass.now.known c.note-warrant.result.known c.join.new.self.known c.join.ensures.node c.self.invariant.none_owed c.note-warrant.ensures.known c.join.ensures.known
    c.join.ensures.learnt c.requires.warranted)

pub returns-clause-called : goal.returns-clause-called
returns-clause-called g c =
    let same : c.note-warrant.new.self.known ≡ c.args.pass.now.known = ap (λ (pass : Held). pass.known) c.note-warrant.ensures.same in
    let slot : c.join.new.self.slot ≡ c.args.self.now.slot = c.join.ensures.table.1 ∙ ap (λ (one : LockedModel g.row.D.Denot). one.slot) c.self.view_is in
    let left : c.note.result.known ≡ noted c.handle-reply.new.self.known = c.note.ensures.known ∙ ap (λ (one : LockedModel g.row.D.Denot). noted one.known) c.self-2.view_is in
    let is = called g.C.OfCluster.cluster g.D.Disk.tells c.join.new.self.slot c.args.msg.now c.handle-reply.result c.note-warrant.new.self.known c.self.inside.seat.known c.join.new.self.known c.handle-reply.new.self.known c.join-2.new.self.known c.note-warrant.result.known
    c.note.result.known (c.note-warrant.ensures.known ∙ ap noted (sym same)) c.join.ensures.known c.join.ensures.learnt c.handle-reply.ensures.added (replied_so g.D.Disk.tells c.args.msg.now c.handle-reply.result _ _ _ c.handle-reply.ensures.replied) left c.join-2.ensures.known c.join-2.ensures.learnt in
    subst (λ (pass : Known). IsCalled g.C.OfCluster.cluster g.D.Disk.tells c.args.self.now.slot c.args.msg.now c.handle-reply.result pass c.join-2.new.self.known) same
    (subst (λ (place : ℕ). IsCalled g.C.OfCluster.cluster g.D.Disk.tells place c.args.msg.now c.handle-reply.result c.note-warrant.new.self.known c.join-2.new.self.known) slot is)

pub returns-clause-replied : goal.returns-clause-replied
returns-clause-replied g c =
    let tells = g.D.Disk.tells in
    let msg = c.args.msg.now in
    let reply = c.handle-reply.result in
    let seat = c.self.inside.seat in
    let left = c.handle-reply.new.self.known in
    let own : history c.join.new.self.known.histories seat.slot ≡ history seat.known.histories seat.slot = own_stays seat.known c.note-warrant.result.known c.join.new.self.known c.join.ensures.known seat.slot c.join.ensures.node in
    let replied = subst (λ (slot : ℕ). HasReplied tells c.self.inside.is_due msg reply (history c.join.new.self.known.histories slot) (history left.histories slot)) c.join.ensures.table.1 c.handle-reply.ensures.replied in
    let same : left ≡ c.note.new.self.known = sym (ap (λ (node : HeldNode). node.known) c.note.ensures.same ∙ ap (λ (one : LockedModel g.row.D.Denot). one.known) c.self-2.view_is) in
    subst (λ (later : Known). HasReplied tells c.args.self.now.is_due msg reply (history c.args.self.now.known.histories c.args.self.now.slot) (history later.histories c.args.self.now.slot)) same
    (subst (λ (one : LockedModel g.row.D.Denot). HasReplied tells one.is_due msg reply (history one.known.histories one.slot) (history left.histories one.slot)) c.self.view_is
    (subst (λ (past : List Event). HasReplied tells c.self.inside.is_due msg reply past (history left.histories seat.slot)) own replied))
