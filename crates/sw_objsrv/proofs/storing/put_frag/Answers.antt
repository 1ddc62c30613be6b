use Rattle.std.proofs.Common.{◌≤◌, false, ℕ, List, None, Some, Result, Err, refl, sym, ap, subst, inl, inr, ◌∙◌}
use Rattle.std.proofs.lemmas.Result.{err_from_is_err_and}
use Rattle.sw_disk.specs.Runs.{Runs}
use Rattle.sw_disk.specs.State.{size_of}
use Rattle.sw_disk.specs.declared.refusal.DiskRefusal.{DiskRefusal}
use Rattle.sw_hashpath.specs.Place.{PlaceModel, folder_of}
use Rattle.sw_hashpath.specs.declared.file_name.FileName.{FileName}
use Rattle.sw_hashpath.specs.declared.file_name.FileName.TheVariants.{Data}
use Rattle.sw_diskfile.specs.Calls.{store_calls}
use Rattle.sw_diskfile.specs.Changes.{IfBothTold, IsMadeStable}
use Rattle.sw_diskfile.specs.Names.{MakesName}
use Rattle.sw_ring.specs.Cluster.{ClusterModel}
use Rattle.sw_message.specs.Table.{HandlesPutFrag, PutFragSpoiled, PutFragSuperseded, PutFragThere, plain_text}
use Rattle.sw_message.specs.declared.reply.Reply.{Reply}
use Rattle.sw_objsrv.specs.Changing.{IsAtOnce}
use Rattle.sw_objsrv.specs.Storing.{IsKnown}
use Rattle.sw_objsrv.proofs.AfterLook.{directory_looked, handles_at_once, keeps_after, lacks_file, order_looked}
use Rattle.sw_objsrv.proofs.RowForms.{archive_name}
use Rattle.sw_objsrv.proofs.Stored.{stays_stored, stored, stored_refused}
use Rattle.sw_objsrv.proofs.Told.{told_each}
use Rattle.sw_objsrv.proofs.storing.put_frag.Goals as goal

-- ---- what is answered without a device call

-- such an answer is a row of the table, whatever the bytes and the room are
known_at_once : (cluster : ClusterModel) (place : PlaceModel) (names : List FileName) (stamp index : ℕ) (bytes : List ℕ) (reply : Reply) → IsKnown cluster place names stamp index bytes reply
    → IsAtOnce (folder_of place) (HandlesPutFrag cluster place stamp index bytes) names reply
known_at_once cluster place names stamp index bytes reply (inl spoil) =
    subst (IsAtOnce (folder_of place) (HandlesPutFrag cluster place stamp index bytes) names) (sym spoil.2) (tt, λ content room. PutFragSpoiled spoil.0 spoil.1 refl)
known_at_once cluster place names stamp index bytes reply (inr (asked, inl above)) =
    subst (IsAtOnce (folder_of place) (HandlesPutFrag cluster place stamp index bytes) names) (sym above.2) (tt, λ content room. PutFragSuperseded asked above.0 above.1 refl)
known_at_once cluster place names stamp index bytes reply (inr (asked, inr there)) =
    subst (IsAtOnce (folder_of place) (HandlesPutFrag cluster place stamp index bytes) names) (sym there.3) (tt, λ content room. PutFragThere asked there.0 there.1 there.2 refl)

pub returns-in-Some-clause-handles : goal.returns-in-Some-clause-handles
returns-in-Some-clause-handles g c =
    let place = c.args.place.now in
    let dir = c.in_ok-looked.looked.dir in
    let reply = c.in-Some.reply in
    handles_at_once g.D.Disk.seen g.D.Disk.left_since (folder_of place) (HandlesPutFrag c.args.cluster.now place c.args.stamp c.args.index c.args.bytes.now) dir reply c.args.disk.now c.look_at.new.disk c.in_ok-looked.ensures.runs c.in_ok-looked.ensures.directory
    (known_at_once c.args.cluster.now place dir c.args.stamp c.args.index c.args.bytes.now reply c.in-Some.ensures)

pub returns-in-Some-clause-order : goal.returns-in-Some-clause-order
returns-in-Some-clause-order g c = λ primary floor.
    order_looked g.D.Disk.seen g.D.Disk.left_since (folder_of c.args.place.now) g.D.Disk.tells primary floor c.args.disk.now c.look_at.new.disk (g.met.D.Disk.telling c.args.disk.now) (g.met.D.Disk.telling c.look_at.new.disk) c.in_ok-looked.ensures.kept

-- ---- what is stored

abbrev err : DiskRefusal → Result (Unit {0}) DiskRefusal
err reason = Err reason

pub store-requires-clause-new : goal.store-requires-clause-new
store-requires-clause-new g c =
    let dir = c.in_ok-looked.looked.dir in
    let name = Data c.args.stamp c.args.index false in
    let due = c.in_default.ensures in
    let directory = directory_looked g.D.Disk.seen g.D.Disk.left_since (folder_of c.args.place.now) dir c.args.disk.now c.look_at.new.disk c.in_ok-looked.ensures.runs c.in_ok-looked.ensures.directory in
    rw (c.deref.ensures, c.in_ok-looked.ensures.folder)
    (lacks_file (g.D.Disk.seen c.look_at.new.disk).told (folder_of c.args.place.now) dir directory name (archive_name c.args.cluster.now c.args.place.now c.args.stamp c.args.index c.args.bytes.now due.0) (due.2 false))

pub returns-in_err-store-clause-handles : goal.returns-in_err-store-clause-handles
returns-in_err-store-clause-handles g c =
    let p = err_from_is_err_and c.from_residual-in_err-store.result c.from_residual-in_err-store.ensures.1 in
    let place = c.args.place.now in
    let a = c.args.disk.now in
    let b = c.look_at.new.disk in
    let due = c.in_default.ensures in
    let within = told_each (g.D.Disk.seen a).told (λ (folder : List ℕ) s. size_of (s.folder folder) ≤ s.used) (g.met.D.Disk.within a) in
    let reason = c.in_err-store.field-0.0 in
    rw (p.1, p.2) (stored_refused c.args.stamp c.args.index c.in_ok-looked.looked.dir due.1 due.2 c.args.cluster.now place c.args.bytes.now due.0 g.D.Disk.seen g.D.Disk.left_since a b c.store.new.disk
    c.in_ok-looked.ensures.directory within c.in_ok-looked.ensures.runs reason (λ need free is. (rw c.as_slice.ensures at c.in_err-store.ensures.full) need free (ap (λ (r : DiskRefusal). err r) is)) ((rw c.as_slice.ensures at c.in_err-store.ensures.overfull) reason refl)
    (subst (λ (folder : List ℕ). Runs g.D.Disk.seen g.D.Disk.left_since (store_calls folder (plain_text c.args.stamp c.args.index) c.args.bytes.now) (Some reason) b c.store.new.disk) (c.deref.ensures ∙ c.in_ok-looked.ensures.folder) (rw c.as_slice.ensures at c.in_err-store.ensures.runs))
    ((rw c.as_slice.ensures at c.in_err-store.ensures.early) reason refl) (λ is. (rw c.as_slice.ensures at c.in_err-store.ensures.memory) (ap (λ (r : DiskRefusal). err r) is)))

pub returns-in_err-store-clause-unmade : goal.returns-in_err-store-clause-unmade
returns-in_err-store-clause-unmade g c = λ reason is other.
    let p = err_from_is_err_and c.from_residual-in_err-store.result c.from_residual-in_err-store.ensures.1 in
    let same = rw (p.1, p.2) at is in
    keeps_after g.D.Disk.seen g.D.Disk.left_since (folder_of c.args.place.now) g.D.Disk.tells c.args.disk.now c.look_at.new.disk c.store.new.disk (g.met.D.Disk.telling c.args.disk.now) (g.met.D.Disk.telling c.look_at.new.disk)
    c.in_ok-looked.ensures.runs c.in_ok-looked.ensures.kept (c.in_err-store.ensures.unmade reason same other)

pub returns-clause-handles : goal.returns-clause-handles
returns-clause-handles g c =
    let place = c.args.place.now in
    let a = c.args.disk.now in
    let b = c.look_at.new.disk in
    let due = c.in_default.ensures in
    let within = told_each (g.D.Disk.seen a).told (λ (folder : List ℕ) s. size_of (s.folder folder) ≤ s.used) (g.met.D.Disk.within a) in
    inr (stored c.args.stamp c.args.index c.in_ok-looked.looked.dir due.1 due.2 c.args.cluster.now place c.args.bytes.now due.0 g.D.Disk.seen g.D.Disk.left_since a b c.store.new.disk
    c.in_ok-looked.ensures.directory within c.in_ok-looked.ensures.runs (rw c.as_slice.ensures at c.in_ok-store.ensures.fits)
    (subst (λ (folder : List ℕ). Runs g.D.Disk.seen g.D.Disk.left_since (store_calls folder (plain_text c.args.stamp c.args.index) c.args.bytes.now) None b c.store.new.disk) (c.deref.ensures ∙ c.in_ok-looked.ensures.folder) (rw c.as_slice.ensures at c.in_ok-store.ensures.runs)))

pub returns-clause-order : goal.returns-clause-order
returns-clause-order g c = λ primary floor order.
    let folder = folder_of c.args.place.now in
    let dir = c.in_ok-looked.looked.dir in
    let a = c.args.disk.now in
    let b = c.look_at.new.disk in
    let new = c.store.new.disk in
    let made = Data c.args.stamp c.args.index false in
    let due = c.in_default.ensures in
    let spelled = c.deref.ensures ∙ c.in_ok-looked.ensures.folder in
    let looked = order_looked g.D.Disk.seen g.D.Disk.left_since folder g.D.Disk.tells primary floor a b (g.met.D.Disk.telling a) (g.met.D.Disk.telling b) c.in_ok-looked.ensures.kept order in
    stays_stored c.args.stamp c.args.index dir due.1 due.2 g.D.Disk.seen g.D.Disk.tells folder b new (g.met.D.Disk.telling b) (g.met.D.Disk.telling new)
    (directory_looked g.D.Disk.seen g.D.Disk.left_since folder dir a b c.in_ok-looked.ensures.runs c.in_ok-looked.ensures.directory)
    (subst (λ (f : List ℕ). IfBothTold (g.D.Disk.seen b) (g.D.Disk.seen new) f (MakesName made)) spelled c.in_ok-store.ensures.directory)
    (subst (λ (f : List ℕ). IfBothTold (g.D.Disk.seen b) (g.D.Disk.seen new) f IsMadeStable) spelled c.in_ok-store.ensures.stable)
    primary floor looked
