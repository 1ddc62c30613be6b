use Rattle.std.proofs.Common.{Bool, false, true, [], ◌∷◌}
use Rattle.std.proofs.lemmas.Result.{err_from_is_err_and}
use Rattle.sw_disk.specs.Calls.{RenameFile, SyncDir}
use Rattle.sw_disk.specs.declared.refusal.DiskRefusal.TheVariants.{NoMemory}
use Rattle.sw_hashpath.specs.FileName.{file_name_text}
use Rattle.sw_hashpath.specs.declared.file_name.FileName.TheVariants.{Data}
use Rattle.sw_diskfile.proofs.Begun.{refused_early, unbegun}
use Rattle.sw_diskfile.proofs.FileTexts.{short_entry}
use Rattle.sw_diskfile.proofs.committing.commit_by_calls.Goals as goal

pub returns-in_err-plain-clause-runs : goal.returns-in_err-plain-clause-runs
returns-in_err-plain-clause-runs g c =
    let p = err_from_is_err_and c.from_residual.result c.from_residual.ensures.1 in
    let text = λ (durable : Bool). file_name_text (Data c.args.stamp c.args.index durable) in
    rw (p.1, p.2) (unbegun g.D.Disk.seen g.D.Disk.left_since (RenameFile c.args.folder.now (text false) (text true)) (SyncDir c.args.folder.now ∷ []) NoMemory c.args.disk.now (λ is. cc))

pub returns-in_err-plain-clause-early : goal.returns-in_err-plain-clause-early
returns-in_err-plain-clause-early g c = λ reason is other.
    let text = λ (durable : Bool). file_name_text (Data c.args.stamp c.args.index durable) in
    unbegun g.D.Disk.seen g.D.Disk.left_since (RenameFile c.args.folder.now (text false) (text true)) [] reason c.args.disk.now other

pub returns-in_err-durable-clause-runs : goal.returns-in_err-durable-clause-runs
returns-in_err-durable-clause-runs g c =
    let p = err_from_is_err_and c.from_residual-in_err-durable.result c.from_residual-in_err-durable.ensures.1 in
    let text = λ (durable : Bool). file_name_text (Data c.args.stamp c.args.index durable) in
    rw (p.1, p.2) (unbegun g.D.Disk.seen g.D.Disk.left_since (RenameFile c.args.folder.now (text false) (text true)) (SyncDir c.args.folder.now ∷ []) NoMemory c.args.disk.now (λ is. cc))

pub returns-in_err-durable-clause-early : goal.returns-in_err-durable-clause-early
returns-in_err-durable-clause-early g c = λ reason is other.
    let text = λ (durable : Bool). file_name_text (Data c.args.stamp c.args.index durable) in
    unbegun g.D.Disk.seen g.D.Disk.left_since (RenameFile c.args.folder.now (text false) (text true)) [] reason c.args.disk.now other

pub returns-in_err-ready-clause-runs : goal.returns-in_err-ready-clause-runs
returns-in_err-ready-clause-runs g c =
    let p = err_from_is_err_and c.from_residual-in_err-ready.result c.from_residual-in_err-ready.ensures.1 in
    let text = λ (durable : Bool). file_name_text (Data c.args.stamp c.args.index durable) in
    rw (p.1, p.2, c.in_err-ready.ensures.cause)
    (refused_early g.D.Disk.seen g.D.Disk.left_since (RenameFile c.args.folder.now (text false) (text true)) (SyncDir c.args.folder.now ∷ []) NoMemory c.ready.new.self (λ is. cc) c.args.disk.now c.in_err-ready.ensures.untouched)

pub returns-in_err-ready-clause-early : goal.returns-in_err-ready-clause-early
returns-in_err-ready-clause-early g c = λ reason is other.
    let text = λ (durable : Bool). file_name_text (Data c.args.stamp c.args.index durable) in
    refused_early g.D.Disk.seen g.D.Disk.left_since (RenameFile c.args.folder.now (text false) (text true)) [] reason c.ready.new.self other c.args.disk.now c.in_err-ready.ensures.untouched

pub rename_synced-requires-clause-from : goal.rename_synced-requires-clause-from
rename_synced-requires-clause-from g c = rw (c.as_str.ensures.value, c.in_ok-plain.ensures) (short_entry c.args.stamp c.args.index false c.requires.index)

pub rename_synced-requires-clause-to : goal.rename_synced-requires-clause-to
rename_synced-requires-clause-to g c = rw (c.as_str-2.ensures.value, c.in_ok-durable.ensures) (short_entry c.args.stamp c.args.index true c.requires.index)
