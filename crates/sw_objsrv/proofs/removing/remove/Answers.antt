use Rattle.std.proofs.Common.{ℕ, Bool, List, None, Some, Ok, Err, refl, sym, subst}
use Rattle.std.proofs.lemmas.Result.{err_from_is_err_and}
use Rattle.sw_hashpath.specs.Place.{folder_of}
use Rattle.sw_suffix.specs.Table.{floor_at}
use Rattle.sw_message.specs.Table.{HandlesRemove, RemoveKept, RemoveMissing}
use Rattle.sw_message.specs.declared.reply.Reply.TheVariants.{Kept, Missing, Removed}
use Rattle.sw_objsrv.specs.Changing.{Drops, LeavesOrder}
use Rattle.sw_objsrv.specs.Folder.{StaysInOrder}
use Rattle.sw_objsrv.proofs.AfterLook.{directory_looked, handles_after, handles_at_once, keeps_after, order_looked, remove_row}
use Rattle.sw_objsrv.proofs.InOrder.{order_removed}
use Rattle.sw_objsrv.proofs.removing.remove.Goals as goal

pub returns-then-is_primary-clause-handles : goal.returns-then-is_primary-clause-handles
returns-then-is_primary-clause-handles g c =
    let place = c.args.place.now in
    let dir = c.in_ok-looked.looked.dir in
    let Row = HandlesRemove c.args.is_primary place c.args.stamp c.args.index in
    handles_at_once g.D.Disk.seen g.D.Disk.left_since (folder_of place) Row dir Kept c.args.disk.now c.look_at.new.disk c.in_ok-looked.ensures.runs c.in_ok-looked.ensures.directory
    (tt, λ bytes room. RemoveKept c.if-is_primary.true refl)

pub returns-then-is_primary-clause-order : goal.returns-then-is_primary-clause-order
returns-then-is_primary-clause-order g c =
    let place = c.args.place.now in
    order_looked g.D.Disk.seen g.D.Disk.left_since (folder_of place) g.D.Disk.tells c.args.is_primary (floor_at place c.args.floors.now.floors) c.args.disk.now c.look_at.new.disk
    (g.met.D.Disk.telling c.args.disk.now) (g.met.D.Disk.telling c.look_at.new.disk) c.in_ok-looked.ensures.kept

pub returns-in_default-clause-handles : goal.returns-in_default-clause-handles
returns-in_default-clause-handles g c =
    let place = c.args.place.now in
    let dir = c.in_ok-looked.looked.dir in
    let Row = HandlesRemove c.args.is_primary place c.args.stamp c.args.index in
    handles_at_once g.D.Disk.seen g.D.Disk.left_since (folder_of place) Row dir Missing c.args.disk.now c.look_at.new.disk c.in_ok-looked.ensures.runs c.in_ok-looked.ensures.directory
    (tt, λ bytes room. RemoveMissing c.if-is_primary.false c.in_default.ensures refl)

pub returns-in_default-clause-order : goal.returns-in_default-clause-order
returns-in_default-clause-order g c =
    let place = c.args.place.now in
    order_looked g.D.Disk.seen g.D.Disk.left_since (folder_of place) g.D.Disk.tells c.args.is_primary (floor_at place c.args.floors.now.floors) c.args.disk.now c.look_at.new.disk
    (g.met.D.Disk.telling c.args.disk.now) (g.met.D.Disk.telling c.look_at.new.disk) c.in_ok-looked.ensures.kept

pub drop_found-requires-clause-directory : goal.drop_found-requires-clause-directory
drop_found-requires-clause-directory g c =
    rw c.in_ok-looked.ensures.folder (directory_looked g.D.Disk.seen g.D.Disk.left_since (folder_of c.args.place.now) c.in_ok-looked.looked.dir c.args.disk.now c.look_at.new.disk c.in_ok-looked.ensures.runs c.in_ok-looked.ensures.directory)

pub returns-in_err-drop_found-clause-handles : goal.returns-in_err-drop_found-clause-handles
returns-in_err-drop_found-clause-handles g c =
    let p = err_from_is_err_and c.from_residual-in_err-drop_found.result c.from_residual-in_err-drop_found.ensures.1 in
    let place = c.args.place.now in
    let dir = c.in_ok-looked.looked.dir in
    let dropped = c.in_err-drop_found in
    let reason = dropped.field-0.0 in
    let entry = c.in-Some.entry in
    let new = c.drop_found.new.disk in
    let drops = subst (λ (folder : List ℕ). Drops g.D.Disk.seen g.D.Disk.left_since folder entry (Some reason) c.look_at.new.disk new) c.in_ok-looked.ensures.folder dropped.ensures.drops in
    rw (p.1, p.2) (handles_after g.D.Disk.seen g.D.Disk.left_since (folder_of place) (HandlesRemove c.args.is_primary place c.args.stamp c.args.index) dir (Err reason) c.args.disk.now c.look_at.new.disk new
    c.in_ok-looked.ensures.runs c.in_ok-looked.ensures.directory
    (remove_row g.D.Disk.seen g.D.Disk.left_since place dir (Err reason) c.look_at.new.disk new dropped.ensures.never_full c.args.is_primary c.args.stamp c.args.index entry c.if-is_primary.false c.in-Some.ensures tt drops))

pub returns-in_err-drop_found-clause-unmade : goal.returns-in_err-drop_found-clause-unmade
returns-in_err-drop_found-clause-unmade g c = λ reason is other.
    let p = err_from_is_err_and c.from_residual-in_err-drop_found.result c.from_residual-in_err-drop_found.ensures.1 in
    let same = rw (p.1, p.2) at is in
    keeps_after g.D.Disk.seen g.D.Disk.left_since (folder_of c.args.place.now) g.D.Disk.tells c.args.disk.now c.look_at.new.disk c.drop_found.new.disk (g.met.D.Disk.telling c.args.disk.now) (g.met.D.Disk.telling c.look_at.new.disk)
    c.in_ok-looked.ensures.runs c.in_ok-looked.ensures.kept (c.in_err-drop_found.ensures.unmade reason same other)

pub returns-clause-handles : goal.returns-clause-handles
returns-clause-handles g c =
    let place = c.args.place.now in
    let dir = c.in_ok-looked.looked.dir in
    let entry = c.in-Some.entry in
    let new = c.drop_found.new.disk in
    let drops = subst (λ (folder : List ℕ). Drops g.D.Disk.seen g.D.Disk.left_since folder entry None c.look_at.new.disk new) c.in_ok-looked.ensures.folder c.in_ok-drop_found.ensures.drops in
    handles_after g.D.Disk.seen g.D.Disk.left_since (folder_of place) (HandlesRemove c.args.is_primary place c.args.stamp c.args.index) dir (Ok Removed) c.args.disk.now c.look_at.new.disk new
    c.in_ok-looked.ensures.runs c.in_ok-looked.ensures.directory
    (remove_row g.D.Disk.seen g.D.Disk.left_since place dir (Ok Removed) c.look_at.new.disk new tt c.args.is_primary c.args.stamp c.args.index entry c.if-is_primary.false c.in-Some.ensures refl drops)

pub returns-clause-order : goal.returns-clause-order
returns-clause-order g c =
    let seen = g.D.Disk.seen in
    let folder = folder_of c.args.place.now in
    let dir = c.in_ok-looked.looked.dir in
    let disk = c.args.disk.now in
    let looked = c.look_at.new.disk in
    let new = c.drop_found.new.disk in
    let floor = floor_at c.args.place.now c.args.floors.now.floors in
    let later = floor_at c.args.place.now c.drop_found.new.floors.floors in
    let leaves = subst (λ (f : List ℕ). LeavesOrder f dir later (seen looked).told (seen new).told) c.in_ok-looked.ensures.folder c.in_ok-drop_found.ensures.order in
    subst (λ (p : Bool). StaysInOrder p folder floor later (seen disk).told (seen new).told) (sym c.if-is_primary.false)
    (order_removed seen folder dir g.D.Disk.tells disk looked new (g.met.D.Disk.telling disk) (g.met.D.Disk.telling looked) floor later c.in_ok-looked.ensures.directory leaves)
