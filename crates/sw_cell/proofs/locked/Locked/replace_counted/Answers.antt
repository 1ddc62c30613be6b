use Rattle.std.proofs.Common.{◌≡◌, ℕ, false, ◌∷◌, None, refl, ap, subst, sym, ◌∙◌}
use Rattle.sw_ring.specs.Cluster.{ClusterModel}
use Rattle.sw_disk.specs.Runs.{IfTold}
use Rattle.sw_message.specs.Message.{IsMember}
use Rattle.sw_objsrv.specs.Mounting.{Mounts}
use Rattle.sw_objsrv.specs.Node.{IsNode, NodeModel}
use Rattle.sw_law_replayed.specs.Keeping.{IsEmptyFor}
use Rattle.sw_view.specs.declared.event.Event.TheVariants.{Replaced}
use Rattle.sw_pass.specs.Known.{HasSlot, Held, HeldNode, history}
use Rattle.sw_pass.specs.Steps.{MayAdvance, advanced, noted}
use Rattle.sw_pass.specs.declared.known.Known.{Known}
use Rattle.sw_cell.specs.Locked.{IsLocked, LockedModel}
use Rattle.sw_cell.specs.Standing.{IsReplaced}
use Rattle.sw_cell.proofs.Closing.{has_history}
use Rattle.sw_cell.proofs.Replacing.{left_events, locked_replaced, loss_may, replaced}
use Rattle.sw_cell.proofs.Slots.{one_device, slot_member}
use Rattle.sw_cell.proofs.locked.Locked.replace_counted.Given.{Over}
use Rattle.sw_cell.proofs.locked.Locked.replace_counted.Goals as goal

pub mount-requires : goal.mount-requires
mount-requires g c = subst (λ (cluster : ClusterModel). IsMember cluster c.args.device) (sym c.requires.cluster) (slot_member g.C.OfCluster.cluster c.args.device c.args.self.now.slot c.requires.slot)

pub add_loss-requires-clause-may : goal.add_loss-requires-clause-may
add_loss-requires-clause-may g c =
    subst (λ (slot : ℕ). MayAdvance g.C.OfCluster.cluster slot (Replaced c.loss-loss.result) c.loss-loss.new.self.known) (sym (c.loss-loss.ensures.table.1 ∙ c.join.ensures.table.1))
    (loss_may c.self.inside.seat.known c.note.result.known c.join.new.self.known c.self.inside.seat.slot c.loss-loss.result c.join.ensures.known c.join.ensures.node g.C.OfCluster.cluster c.loss-loss.new.self.known c.loss-loss.ensures.known c.join.ensures.learnt)

-- the slot of the device
place : (g : Over) (c : goal.After-unmount g) → HasSlot g.C.OfCluster.cluster c.args.device c.self.inside.seat.slot
place g c = subst (HasSlot g.C.OfCluster.cluster c.args.device) (sym (ap (λ (one : LockedModel g.row.D.Denot). one.slot) c.self.view_is)) c.requires.slot

-- what the seat knows once the loss is added
left_is : (g : Over) (c : goal.After-unmount g) → c.add_loss.new.seat.known ≡ advanced c.self.inside.seat.slot (Replaced c.loss-loss.result) c.loss-loss.new.self.known
left_is g c = c.add_loss.ensures.known ∙ ap (λ slot. advanced slot (Replaced c.loss-loss.result) c.loss-loss.new.self.known) (c.loss-loss.ensures.table.1 ∙ c.join.ensures.table.1)

pub invariant_of-self : goal.invariant_of-self
invariant_of-self g c =
    let seen = g.D.Disk.seen in
    let cluster = g.C.OfCluster.cluster in
    let seat = c.self.inside.seat in
    let node = c.in_ok-node.node in
    let device = c.in_ok-node.ensures.device.0 in
    let mounts = subst (λ (of : ClusterModel). Mounts seen g.D.Disk.left_since of c.args.device None c.args.disk node.disk) c.requires.cluster c.in_ok-node.ensures.mounted in
    let is = locked_replaced seat.known c.note.result.known c.join.new.self.known seat.slot c.loss-loss.result c.join.ensures.known c.join.ensures.node c.loss-loss.new.self.known c.add_loss.new.seat.known c.loss-loss.ensures.known (left_is g c)
    seen g.D.Disk.left_since cluster g.J.Site.table _ refl c.self.invariant c.args.disk node
    (subst (λ (of : ClusterModel). IsNode of seen node) c.requires.cluster c.in_ok-node.ensures.node) c.in_ok-node.ensures.device.1
    (subst (λ (id : ℕ). HasSlot cluster id seat.slot) (sym device) (place g c))
    (subst (λ (id : ℕ). Mounts seen g.D.Disk.left_since cluster id None c.args.disk node.disk) (sym device) mounts)
    (subst (λ (id : ℕ). IfTold (seen c.args.disk).told (IsEmptyFor cluster id)) (sym device) c.requires.empty)
    c.join.ensures.learnt c.add_loss.new.seat.table c.add_loss.new.seat.slot (c.add_loss.ensures.table.0 ∙ (c.loss-loss.ensures.table.0 ∙ c.join.ensures.table.0)) (c.add_loss.ensures.table.1 ∙ (c.loss-loss.ensures.table.1 ∙ c.join.ensures.table.1)) in
    subst (λ (one : NodeModel g.row.D.Denot). IsLocked cluster g.J.Site.table seen (record { node = one; table = c.note-2.new.self.table; slot = c.note-2.new.self.slot; known = c.note-2.new.self.known; is_due = false })) (sym c.replace-lost.ensures.after)
    (subst (λ (held : HeldNode). IsLocked cluster g.J.Site.table seen (record { node = node; table = held.table; slot = held.slot; known = held.known; is_due = false })) (sym c.note-2.ensures.same) is)

pub returns-clause-replaced : goal.returns-clause-replaced
returns-clause-replaced g c =
    let seen = g.D.Disk.seen in
    let cluster = g.C.OfCluster.cluster in
    let seat = c.self.inside.seat in
    let same = ap (λ (pass : Held). pass.known) c.note.ensures.same in
    let device = one_device cluster c.self.inside.node.device c.args.device seat.slot c.self.invariant.slot (place g c) in
    let lost = c.unmount.ensures ∙ ap (λ (one : NodeModel g.row.D.Denot). one.disk) c.replace-lost.ensures.value in
    let is = replaced seat.known c.note.result.known c.join.new.self.known seat.slot c.loss-loss.result c.join.ensures.known c.join.ensures.node c.loss-loss.new.self.known c.add_loss.new.seat.known c.loss-loss.ensures.known (left_is g c)
    seen cluster c.args.device c.unmount.result c.note.new.self.known c.note-2.result.known c.join-2.new.self.known (c.note.ensures.known ∙ ap noted (sym same)) c.join.ensures.learnt c.note-2.ensures.known c.join-2.ensures.known c.join-2.ensures.learnt
    (has_history cluster seen (history seat.known.histories seat.slot) c.self.inside.node c.args.device c.unmount.result lost device c.self.invariant.replayed c.self.invariant.counted) in
    subst (λ (slot : ℕ). IsReplaced cluster seen c.args.device slot c.args.pass.now.known c.join-2.new.self.known c.unmount.result) (ap (λ (one : LockedModel g.row.D.Denot). one.slot) c.self.view_is)
    (subst (λ (pass : Known). IsReplaced cluster seen c.args.device seat.slot pass c.join-2.new.self.known c.unmount.result) same is)

pub returns-clause-added : goal.returns-clause-added
returns-clause-added g c =
    let seat = c.self.inside.seat in
    let loss = c.loss-loss.result in
    let is = left_events seat.known c.note.result.known c.join.new.self.known seat.slot loss c.join.ensures.known c.join.ensures.node c.loss-loss.new.self.known c.add_loss.new.seat.known c.loss-loss.ensures.known (left_is g c) in (
      loss,
      subst (λ (one : LockedModel g.row.D.Denot). history c.note-2.new.self.known.histories one.slot ≡ Replaced loss ∷ history one.known.histories one.slot) c.self.view_is
          (subst (λ (held : HeldNode). history held.known.histories seat.slot ≡ Replaced loss ∷ history seat.known.histories seat.slot) (sym c.note-2.ensures.same) is),
    )

pub returns-clause-quiet : goal.returns-clause-quiet
returns-clause-quiet g c =
    ap (λ (one : NodeModel g.row.D.Denot). (g.D.Disk.seen one.disk).faults) c.replace-lost.ensures.after ∙ c.in_ok-node.ensures.mounted.quiet (λ failed. absurd (cc))
