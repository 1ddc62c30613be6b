use Rattle.std.proofs.Common.{◌≡◌, sym, ◌∙◌, subst, refl}
use Rattle.sw_objsrv.specs.Mounting.{fault_of}
use Rattle.sw_pass.specs.Known.{history}
use Rattle.sw_cell.specs.Calling.{mount_event, remounted_events}
use Rattle.sw_cell.specs.Handling.{HasAdded, MayHandle}
use Rattle.sw_cell.proofs.Adding.{latest, one_added}
use Rattle.sw_cell.proofs.Events.{mount_added}
use Rattle.sw_cell.proofs.Remounting.{memory_found, memory_wanted, remount_may, remount_more, remount_of, remount_still}
use Rattle.sw_cell.proofs.locked.Locked.remount.Goals as goal

pub add_mount-requires-clause-may : goal.add_mount-requires-clause-may
add_mount-requires-clause-may g c =
    let remount = c.remount-mounted in
    let all = remount_of g.D.Disk.seen g.D.Disk.left_since g.D.Disk.tells _ _ _ _ _ remount.result remount.new.self c.is_err-self-inside.result g.met.D.Disk.telling
    c.requires.cluster c.self.view_is c.requires.due c.self.invariant remount.ensures.node remount.ensures.remounts c.is_err-self-inside.ensures.value in
    let some = memory_found _ _ remount.result c.ne.result c.ne.ensures c.if-ne.true refl in
    let may = subst (λ locked. MayHandle g.C.OfCluster.cluster g.D.Disk.tells locked.slot c.args.msg.now locked.known) (sym c.self.view_is) c.requires.may in
    remount_may all c.args.msg.now some may c.requires.place

pub invariant_of-self : goal.invariant_of-self
invariant_of-self g c =
    let remount = c.remount-mounted in
    let all = remount_of g.D.Disk.seen g.D.Disk.left_since g.D.Disk.tells _ _ _ _ _ remount.result remount.new.self c.is_err-self-inside.result g.met.D.Disk.telling
    c.requires.cluster c.self.view_is c.requires.due c.self.invariant remount.ensures.node remount.ensures.remounts c.is_err-self-inside.ensures.value in
    let some = memory_found _ _ remount.result c.ne.result c.ne.ensures c.if-ne.true refl in
    remount_more all c.args.msg.now some c.add_mount.new.seat.table c.add_mount.new.seat.slot c.add_mount.new.seat.known c.add_mount.ensures.table c.add_mount.ensures.known

pub invariant_of-self-else-ne : goal.invariant_of-self-else-ne
invariant_of-self-else-ne g c =
    let remount = c.remount-mounted in
    let all = remount_of g.D.Disk.seen g.D.Disk.left_since g.D.Disk.tells _ _ _ _ _ remount.result remount.new.self c.is_err-self-inside.result g.met.D.Disk.telling
    c.requires.cluster c.self.view_is c.requires.due c.self.invariant remount.ensures.node remount.ensures.remounts c.is_err-self-inside.ensures.value in
    remount_still all c.args.msg.now (memory_wanted _ _ remount.result c.ne.result c.ne.ensures c.if-ne.false refl)

pub returns-then-ne-clause-added : goal.returns-then-ne-clause-added
returns-then-ne-clause-added g c =
    let seat = c.self.inside.seat in
    subst (λ locked. HasAdded locked.slot locked.known c.add_mount.new.seat.known) c.self.view_is (one_added seat.slot _ seat.known c.add_mount.new.seat.known c.add_mount.ensures.known)

pub returns-then-ne-clause-events : goal.returns-then-ne-clause-events
returns-then-ne-clause-events g c =
    let tells = g.D.Disk.tells in
    let msg = c.args.msg.now in
    let reason = fault_of c.remount-mounted.result in
    let seat = c.self.inside.seat in
    let later = c.add_mount.new.seat.known in
    let some = memory_found _ _ c.remount-mounted.result c.ne.result c.ne.ensures c.if-ne.true refl in
    subst (λ locked. history later.histories locked.slot ≡ remounted_events tells msg reason (history locked.known.histories locked.slot)) c.self.view_is
    (latest seat.slot (mount_event tells msg reason) seat.known later c.add_mount.ensures.known ∙ sym (mount_added tells msg reason (history seat.known.histories seat.slot) some))
