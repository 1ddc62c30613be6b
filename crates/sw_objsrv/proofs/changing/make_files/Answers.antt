use Rattle.std.proofs.Common.{◌≡◌, ◌≢◌, ℕ, List, [], Option, string_bytes, subst}
use Rattle.std.proofs.lemmas.Result.{err_from_is_err_and}
use Rattle.sw_disk.specs.Answers.{names_of, texts_of}
use Rattle.sw_disk.specs.Folder.{files_of}
use Rattle.sw_disk.specs.Runs.{IfTold, Runs, refusal_of}
use Rattle.sw_disk.proofs.Chains.{runs_more, runs_stop, told_map}
use Rattle.sw_hashpath.specs.declared.file_name.FileName.{FileName}
use Rattle.sw_hashdir.specs.Directory.{IsFloor}
use Rattle.sw_hashdir.specs.Obsolete.{IsAfter}
use Rattle.sw_hashdir.specs.declared.floor.Floor.{Floor}
use Rattle.sw_diskfile.specs.Calls.{purge_calls}
use Rattle.sw_diskfile.specs.Changes.{IfBothTold, IsMadeStable}
use Rattle.sw_diskfile.specs.Names.{IsDirectoryOf}
use Rattle.sw_diskfile.specs.Normal.{AreObsolete, IsTidied}
use Rattle.sw_objsrv.specs.Changing.{make_calls}
use Rattle.sw_objsrv.specs.Folder.{IsInOrder}
use Rattle.sw_objsrv.proofs.AfterLook.{directory_made}
use Rattle.sw_objsrv.proofs.Ended.{ok_from}
use Rattle.sw_objsrv.proofs.InOrder.{order_purged}
use Rattle.sw_objsrv.proofs.Told.{told_after}
use Rattle.sw_objsrv.proofs.changing.make_files.Goals as goal

pub returns-in_err-make_file-clause-runs : goal.returns-in_err-make_file-clause-runs
returns-in_err-make_file-clause-runs g c =
    let p = err_from_is_err_and c.from_residual.result c.from_residual.ensures.1 in
    let folder = string_bytes c.args.looked.now.folder in
    rw (p.1, p.2) (runs_stop g.D.Disk.seen g.D.Disk.left_since (make_calls folder c.args.made.now) (purge_calls folder (texts_of c.args.obsolete.now)) _ _ _ c.in_err-make_file.ensures.runs)

pub purge-requires-clause-obsolete : goal.purge-requires-clause-obsolete
purge-requires-clause-obsolete g c =
    let folder = string_bytes c.args.looked.now.folder in
    let purged = c.requires.purged in
    let told = (g.D.Disk.seen c.make_file.new.disk).told in
    let texts = texts_of c.args.obsolete.now in
    let directory = directory_made g.D.Disk.tells (g.D.Disk.seen c.args.disk.now).told told (g.met.D.Disk.telling c.args.disk.now) (g.met.D.Disk.telling c.make_file.new.disk) folder c.args.made.now c.args.looked.now.dir purged.later
    c.requires.directory c.in_ok-make_file.ensures.directory purged.after in
    rw c.deref.ensures (told_map told (λ s. IsDirectoryOf (s.folder folder) purged.later) (λ s. AreObsolete c.args.is_primary (names_of (files_of (s.folder folder))) texts) directory
    (λ s is. record { names = purged.later; directory = is; all = purged.all; ascend = purged.ascend }))

pub returns-clause-runs : goal.returns-clause-runs
returns-clause-runs g c =
    let folder = string_bytes c.args.looked.now.folder in
    let purged = subst (λ (f : List ℕ). Runs g.D.Disk.seen g.D.Disk.left_since (purge_calls f (texts_of c.args.obsolete.now)) (refusal_of c.purge.result) c.make_file.new.disk c.purge.new.disk) c.deref.ensures c.purge.ensures.runs in
    runs_more g.D.Disk.seen g.D.Disk.left_since (make_calls folder c.args.made.now) (purge_calls folder (texts_of c.args.obsolete.now)) (refusal_of c.purge.result) c.args.disk.now c.make_file.new.disk c.purge.new.disk c.in_ok-make_file.ensures.runs purged

pub returns-clause-order : goal.returns-clause-order
returns-clause-order g c =
    let folder = string_bytes c.args.looked.now.folder in
    let disk = c.args.disk.now in
    let made = c.make_file.new.disk in
    let purged = c.purge.new.disk in
    let seen = g.D.Disk.seen in
    let primary = c.args.is_primary in
    let names = c.args.looked.now.dir in
    let obsolete = c.args.obsolete.now in
    ok_from c.purge.result (IfBothTold (seen made) (seen purged) c.deref.result.now (IsTidied primary)) (obsolete ≢ [] → IfBothTold (seen made) (seen purged) c.deref.result.now IsMadeStable)
    ((later : List FileName) (floor : Option Floor) → IsAfter c.args.made.now names later → IsFloor later floor → IfTold (seen purged).told (λ s. IsInOrder primary floor (s.folder folder)))
    c.purge.ensures.tidied c.purge.ensures.stable (λ tidied stable later floor after is_floor.
    order_purged seen folder made purged g.D.Disk.tells (g.met.D.Disk.telling made) (g.met.D.Disk.telling purged) primary obsolete later floor
    (directory_made g.D.Disk.tells (seen disk).told (seen made).told (g.met.D.Disk.telling disk) (g.met.D.Disk.telling made) folder c.args.made.now names later c.requires.directory c.in_ok-make_file.ensures.directory after)
    (told_after g.D.Disk.tells (seen disk).told (seen made).told (g.met.D.Disk.telling disk) (g.met.D.Disk.telling made) (λ s t. IsMadeStable (s.folder folder) (t.folder folder)) (λ t. (t.folder folder).pending ≡ []) c.in_ok-make_file.ensures.stable
    (λ s t is. is.0))
    (subst (λ (f : List ℕ). IfBothTold (seen made) (seen purged) f (IsTidied primary)) c.deref.ensures tidied)
    (λ some. subst (λ (f : List ℕ). IfBothTold (seen made) (seen purged) f IsMadeStable) c.deref.ensures (stable some))
    c.purge.ensures.nothing is_floor)
