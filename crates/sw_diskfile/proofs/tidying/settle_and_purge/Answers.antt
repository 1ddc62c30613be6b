use Rattle.std.proofs.Common.{List, [], ◌∷◌}
use Rattle.std.proofs.lemmas.Result.{err_from_is_err_and}
use Rattle.sw_disk.specs.Answers.{names_of, texts_of}
use Rattle.sw_disk.specs.Calls.{SyncDir}
use Rattle.sw_disk.specs.Folder.{File}
use Rattle.sw_disk.specs.Runs.{refusal_of}
use Rattle.sw_disk.proofs.Chains.{runs_more, runs_stop}
use Rattle.sw_diskfile.specs.Calls.{purge_calls}
use Rattle.sw_diskfile.specs.Normal.{AreObsolete}
use Rattle.sw_diskfile.proofs.Kept.{quiet_keeps}
use Rattle.sw_diskfile.proofs.tidying.settle_and_purge.Goals as goal

pub returns-in_err-sync_dir-clause-runs : goal.returns-in_err-sync_dir-clause-runs
returns-in_err-sync_dir-clause-runs g c =
    let p = err_from_is_err_and c.from_residual.result c.from_residual.ensures.1 in
    rw (p.1, p.2) (runs_stop g.D.Disk.seen g.D.Disk.left_since (SyncDir c.args.folder.now ∷ []) (purge_calls c.args.folder.now (texts_of c.args.obsolete.now)) _ _ _ c.in_err-sync_dir.ensures.runs)

pub purge_by_calls-requires-clause-obsolete : goal.purge_by_calls-requires-clause-obsolete
purge_by_calls-requires-clause-obsolete g c =
    quiet_keeps g.D.Disk.seen g.D.Disk.left_since _ _ (SyncDir c.args.folder.now ∷ []) c.args.folder.now (λ (files : List File). AreObsolete c.args.is_primary (names_of files) (texts_of c.args.obsolete.now)) tt
    c.in_ok-sync_dir.ensures.runs c.requires.obsolete

pub returns-clause-runs : goal.returns-clause-runs
returns-clause-runs g c =
    runs_more g.D.Disk.seen g.D.Disk.left_since (SyncDir c.args.folder.now ∷ []) (purge_calls c.args.folder.now (texts_of c.args.obsolete.now)) (refusal_of c.purge_by_calls.result) _ _ _ c.in_ok-sync_dir.ensures.runs c.purge_by_calls.ensures.runs
