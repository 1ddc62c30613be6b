use Rattle.std.proofs.Common.{[], ◌∷◌}
use Rattle.std.proofs.lemmas.Result.{err_from_is_err_and}
use Rattle.sw_disk.specs.Calls.{RemoveFile, SyncDir}
use Rattle.sw_disk.specs.Runs.{refusal_of}
use Rattle.sw_disk.proofs.Chains.{runs_more, runs_stop}
use Rattle.sw_diskfile.proofs.dropping.remove_synced.Goals as goal

pub returns-in_err-remove-clause-runs : goal.returns-in_err-remove-clause-runs
returns-in_err-remove-clause-runs g c =
    let p = err_from_is_err_and c.from_residual.result c.from_residual.ensures.1 in
    let folder = c.args.folder.now in
    rw (p.1, p.2) (runs_stop g.D.Disk.seen g.D.Disk.left_since (RemoveFile folder c.args.name.now ∷ []) (SyncDir folder ∷ []) _ _ _ c.in_err-remove.ensures.runs)

pub returns-clause-runs : goal.returns-clause-runs
returns-clause-runs g c =
    let folder = c.args.folder.now in
    runs_more g.D.Disk.seen g.D.Disk.left_since (RemoveFile folder c.args.name.now ∷ []) (SyncDir folder ∷ []) (refusal_of c.sync_dir.result) _ _ _ c.in_ok-remove.ensures.runs c.sync_dir.ensures.runs
