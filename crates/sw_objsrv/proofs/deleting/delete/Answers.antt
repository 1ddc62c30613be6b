use Rattle.std.proofs.Common.{ℕ, List, None, Some, Ok, Err, refl, sym, subst, true≢false, ◌∙◌}
use Rattle.std.proofs.lemmas.Result.{err_from_is_err_and}
use Rattle.sw_hashpath.specs.Place.{folder_of}
use Rattle.sw_hashpath.specs.declared.file_name.FileName.TheVariants.{Tombstone}
use Rattle.sw_suffix.specs.Table.{floor_at}
use Rattle.sw_message.specs.Table.{DeleteSuperseded, DeleteThere, HandlesDelete}
use Rattle.sw_message.specs.declared.reply.Reply.TheVariants.{Deleted, Superseded}
use Rattle.sw_objsrv.specs.Changing.{MakesAndPurges}
use Rattle.sw_objsrv.proofs.AfterLook.{delete_row, directory_looked, handles_after, handles_at_once, keeps_after, order_looked}
use Rattle.sw_objsrv.proofs.deleting.delete.Goals as goal

pub returns-in-Some-clause-handles : goal.returns-in-Some-clause-handles
returns-in-Some-clause-handles g c =
    let place = c.args.place.now in
    let dir = c.in_ok-looked.looked.dir in
    let Row = HandlesDelete c.args.is_primary place c.args.stamp in
    handles_at_once g.D.Disk.seen g.D.Disk.left_since (folder_of place) Row dir (Superseded c.in-Some.floor) c.args.disk.now c.look_at.new.disk c.in_ok-looked.ensures.runs c.in_ok-looked.ensures.directory
    (tt, λ bytes room. DeleteSuperseded c.in-Some.floor c.in-Some.ensures refl)

pub returns-in-Some-clause-order : goal.returns-in-Some-clause-order
returns-in-Some-clause-order g c =
    let place = c.args.place.now in
    order_looked g.D.Disk.seen g.D.Disk.left_since (folder_of place) g.D.Disk.tells c.args.is_primary (floor_at place c.args.floors.now.floors) c.args.disk.now c.look_at.new.disk
    (g.met.D.Disk.telling c.args.disk.now) (g.met.D.Disk.telling c.look_at.new.disk) c.in_ok-looked.ensures.kept

pub returns-then-has_tombstone-clause-handles : goal.returns-then-has_tombstone-clause-handles
returns-then-has_tombstone-clause-handles g c =
    let place = c.args.place.now in
    let dir = c.in_ok-looked.looked.dir in
    let existed = c.has_durable_floor-existed in
    let Row = HandlesDelete c.args.is_primary place c.args.stamp in
    handles_at_once g.D.Disk.seen g.D.Disk.left_since (folder_of place) Row dir (Deleted existed.result) c.args.disk.now c.look_at.new.disk c.in_ok-looked.ensures.runs c.in_ok-looked.ensures.directory
    (tt, λ bytes room. DeleteThere c.in_default.ensures existed.result existed.ensures (c.has_tombstone.ensures.0 c.if-has_tombstone.true) refl)

pub returns-then-has_tombstone-clause-order : goal.returns-then-has_tombstone-clause-order
returns-then-has_tombstone-clause-order g c =
    let place = c.args.place.now in
    order_looked g.D.Disk.seen g.D.Disk.left_since (folder_of place) g.D.Disk.tells c.args.is_primary (floor_at place c.args.floors.now.floors) c.args.disk.now c.look_at.new.disk
    (g.met.D.Disk.telling c.args.disk.now) (g.met.D.Disk.telling c.look_at.new.disk) c.in_ok-looked.ensures.kept

pub make_and_purge-requires-clause-directory : goal.make_and_purge-requires-clause-directory
make_and_purge-requires-clause-directory g c =
    rw c.in_ok-looked.ensures.folder (directory_looked g.D.Disk.seen g.D.Disk.left_since (folder_of c.args.place.now) c.in_ok-looked.looked.dir c.args.disk.now c.look_at.new.disk c.in_ok-looked.ensures.runs c.in_ok-looked.ensures.directory)

pub make_and_purge-requires-clause-new : goal.make_and_purge-requires-clause-new
make_and_purge-requires-clause-new g c = λ has. true≢false (sym (c.has_tombstone.ensures.1 has) ∙ c.if-has_tombstone.false)

pub returns-in_err-make_and_purge-clause-handles : goal.returns-in_err-make_and_purge-clause-handles
returns-in_err-make_and_purge-clause-handles g c =
    let p = err_from_is_err_and c.from_residual-in_err-make_and_purge.result c.from_residual-in_err-make_and_purge.ensures.1 in
    let place = c.args.place.now in
    let dir = c.in_ok-looked.looked.dir in
    let made = c.in_err-make_and_purge in
    let reason = made.field-0.0 in
    let new = c.make_and_purge.new.disk in
    let existed = c.has_durable_floor-existed in
    let makes = subst (λ (folder : List ℕ). MakesAndPurges g.D.Disk.seen g.D.Disk.left_since folder c.args.is_primary (Tombstone c.args.stamp) dir (Some reason) c.look_at.new.disk new) c.in_ok-looked.ensures.folder made.ensures.makes in
    rw (p.1, p.2) (handles_after g.D.Disk.seen g.D.Disk.left_since (folder_of place) (HandlesDelete c.args.is_primary place c.args.stamp) dir (Err reason) c.args.disk.now c.look_at.new.disk new
    c.in_ok-looked.ensures.runs c.in_ok-looked.ensures.directory
    (delete_row g.D.Disk.seen g.D.Disk.left_since place dir (Err reason) c.look_at.new.disk new made.ensures.never_full c.args.is_primary c.args.stamp existed.result c.in_default.ensures existed.ensures
    (λ has. true≢false (sym (c.has_tombstone.ensures.1 has) ∙ c.if-has_tombstone.false)) tt makes))

pub returns-in_err-make_and_purge-clause-unmade : goal.returns-in_err-make_and_purge-clause-unmade
returns-in_err-make_and_purge-clause-unmade g c = λ reason is other.
    let p = err_from_is_err_and c.from_residual-in_err-make_and_purge.result c.from_residual-in_err-make_and_purge.ensures.1 in
    let same = rw (p.1, p.2) at is in
    keeps_after g.D.Disk.seen g.D.Disk.left_since (folder_of c.args.place.now) g.D.Disk.tells c.args.disk.now c.look_at.new.disk c.make_and_purge.new.disk (g.met.D.Disk.telling c.args.disk.now) (g.met.D.Disk.telling c.look_at.new.disk)
    c.in_ok-looked.ensures.runs c.in_ok-looked.ensures.kept (c.in_err-make_and_purge.ensures.unmade reason same other)

pub returns-clause-handles : goal.returns-clause-handles
returns-clause-handles g c =
    let place = c.args.place.now in
    let dir = c.in_ok-looked.looked.dir in
    let new = c.make_and_purge.new.disk in
    let existed = c.has_durable_floor-existed in
    let makes = subst (λ (folder : List ℕ). MakesAndPurges g.D.Disk.seen g.D.Disk.left_since folder c.args.is_primary (Tombstone c.args.stamp) dir None c.look_at.new.disk new) c.in_ok-looked.ensures.folder c.in_ok-make_and_purge.ensures.makes in
    handles_after g.D.Disk.seen g.D.Disk.left_since (folder_of place) (HandlesDelete c.args.is_primary place c.args.stamp) dir (Ok (Deleted existed.result)) c.args.disk.now c.look_at.new.disk new
    c.in_ok-looked.ensures.runs c.in_ok-looked.ensures.directory
    (delete_row g.D.Disk.seen g.D.Disk.left_since place dir (Ok (Deleted existed.result)) c.look_at.new.disk new tt c.args.is_primary c.args.stamp existed.result c.in_default.ensures existed.ensures
    (λ has. true≢false (sym (c.has_tombstone.ensures.1 has) ∙ c.if-has_tombstone.false)) refl makes)
