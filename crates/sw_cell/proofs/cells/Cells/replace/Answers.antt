use Rattle.std.proofs.Common.{ℕ, sym, subst, ◌∙◌}
use Rattle.std.specs.Prelude.{IfOk}
use Rattle.sw_pass.specs.Known.{HasSlot}
use Rattle.sw_cell.specs.Standing.{IsReplaced}
use Rattle.sw_cell.proofs.Placed.{is_at, is_found, is_slot, told_slot}
use Rattle.sw_cell.proofs.cells.Cells.replace.Goals as goal

pub unwrap-slot-requires : goal.unwrap-slot-requires
unwrap-slot-requires g c = is_found g.C.OfCluster.cluster _ _ _ _ c.devices.ensures.listed c.self.invariant.1 c.slot_among.ensures c.requires.known

pub replace-requires-clause-slot : goal.replace-requires-clause-slot
replace-requires-clause-slot g c =
    let cluster = g.C.OfCluster.cluster in
    let slot = told_slot _ _ _ _ _ _ c.deref_mut.ensures.value c.deref.ensures c.position.ensures.value c.from.ensures c.if-from-slot.true in
    subst (HasSlot cluster c.args.device) (sym slot) (is_at cluster _ _ _ _ c.devices.ensures.listed c.self.invariant.1 c.slot_among.ensures _ c.unwrap-slot.ensures)

pub returns-then-from-slot-clause-replaced : goal.returns-then-from-slot-clause-replaced
returns-then-from-slot-clause-replaced g c =
    let cluster = g.C.OfCluster.cluster in
    let slot = told_slot _ _ _ _ _ _ c.deref_mut.ensures.value c.deref.ensures c.position.ensures.value c.from.ensures c.if-from-slot.true in
    let same = is_slot cluster _ _ _ _ c.devices.ensures.listed c.self.invariant.1 c.slot_among.ensures _ c.unwrap-slot.ensures c.devices.ensures.rules in
    subst (λ (place : ℕ). IfOk c.replace.result (λ lost. IsReplaced cluster g.D.Disk.seen c.args.device place c.args.pass.now.known c.replace.new.pass.known lost)) (slot ∙ sym same)
    c.replace.ensures.replaced
