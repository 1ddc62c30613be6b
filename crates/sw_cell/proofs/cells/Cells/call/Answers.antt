use Rattle.std.proofs.Common.{ℕ, sym, subst, ◌∙◌}
use Rattle.sw_pass.specs.Known.{slot_of}
use Rattle.sw_cell.specs.Calling.{IsCalled}
use Rattle.sw_cell.proofs.Alone.{called_alone}
use Rattle.sw_cell.proofs.Placed.{is_found, is_slot, told_slot}
use Rattle.sw_cell.proofs.cells.Cells.call.Goals as goal

pub unwrap-slot-requires : goal.unwrap-slot-requires
unwrap-slot-requires g c = is_found g.C.OfCluster.cluster _ _ _ _ c.devices.ensures.listed c.self.invariant.1 c.slot_among.ensures c.requires.known.member

pub returns-then-from-slot-clause-called : goal.returns-then-from-slot-clause-called
returns-then-from-slot-clause-called g c =
    let cluster = g.C.OfCluster.cluster in
    let slot = told_slot _ _ _ _ _ _ c.deref_mut.ensures.value c.deref.ensures c.position.ensures.value c.from.ensures c.if-from-slot.true in
    let same = is_slot cluster _ _ _ _ c.devices.ensures.listed c.self.invariant.1 c.slot_among.ensures _ c.unwrap-slot.ensures c.devices.ensures.rules in
    subst (λ (place : ℕ). IsCalled cluster g.D.Disk.tells place c.args.msg.now c.call.result c.args.pass.now.known c.call.new.pass.known) (slot ∙ sym same) c.call.ensures.called

-- where the lock stood at another slot
pub returns-clause-called : goal.returns-clause-called
returns-clause-called g c = called_alone g.C.OfCluster.cluster c.args.pass.now.known c.learn.new.self.known c.learn.ensures.known c.learn.ensures.learnt (slot_of g.C.OfCluster.cluster c.args.device) g.D.Disk.tells c.args.msg.now
