use Rattle.std.proofs.Common.{[], ◌∷◌}
use Rattle.std.proofs.lemmas.Result.{err_from_is_err_and}
use Rattle.sw_disk.specs.Calls.{RemoveFile, SyncDir}
use Rattle.sw_disk.specs.declared.refusal.DiskRefusal.TheVariants.{NoMemory}
use Rattle.sw_hashpath.specs.FileName.{file_name_text}
use Rattle.sw_hashpath.specs.declared.file_name.FileName.TheVariants.{Data}
use Rattle.sw_diskfile.proofs.Begun.{refused_early, unbegun}
use Rattle.sw_diskfile.proofs.FileTexts.{short_entry}
use Rattle.sw_diskfile.proofs.dropping.drop_by_calls.Goals as goal

pub returns-in_err-text-clause-runs : goal.returns-in_err-text-clause-runs
returns-in_err-text-clause-runs g c =
    let p = err_from_is_err_and c.from_residual.result c.from_residual.ensures.1 in
    let entry = c.args.entry in
    rw (p.1, p.2) (unbegun g.D.Disk.seen g.D.Disk.left_since (RemoveFile c.args.folder.now (file_name_text (Data entry.stamp entry.index entry.durable))) (SyncDir c.args.folder.now ∷ []) NoMemory c.args.disk.now (λ is. cc))

pub returns-in_err-text-clause-early : goal.returns-in_err-text-clause-early
returns-in_err-text-clause-early g c = λ reason is other.
    let entry = c.args.entry in
    unbegun g.D.Disk.seen g.D.Disk.left_since (RemoveFile c.args.folder.now (file_name_text (Data entry.stamp entry.index entry.durable))) [] reason c.args.disk.now other

pub returns-in_err-ready-clause-runs : goal.returns-in_err-ready-clause-runs
returns-in_err-ready-clause-runs g c =
    let p = err_from_is_err_and c.from_residual-in_err-ready.result c.from_residual-in_err-ready.ensures.1 in
    let entry = c.args.entry in
    rw (p.1, p.2, c.in_err-ready.ensures.cause)
    (refused_early g.D.Disk.seen g.D.Disk.left_since (RemoveFile c.args.folder.now (file_name_text (Data entry.stamp entry.index entry.durable))) (SyncDir c.args.folder.now ∷ []) NoMemory c.ready.new.self (λ is. cc) c.args.disk.now
    c.in_err-ready.ensures.untouched)

pub returns-in_err-ready-clause-early : goal.returns-in_err-ready-clause-early
returns-in_err-ready-clause-early g c = λ reason is other.
    let entry = c.args.entry in
    refused_early g.D.Disk.seen g.D.Disk.left_since (RemoveFile c.args.folder.now (file_name_text (Data entry.stamp entry.index entry.durable))) [] reason c.ready.new.self other c.args.disk.now c.in_err-ready.ensures.untouched

pub remove_synced-requires-clause-name : goal.remove_synced-requires-clause-name
remove_synced-requires-clause-name g c =
    let entry = c.args.entry in
    rw (c.as_str.ensures.value, c.in_ok-text.ensures) (short_entry entry.stamp entry.index entry.durable c.requires.index)
