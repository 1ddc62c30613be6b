use Rattle.std.proofs.Common.{[], ◌∷◌, List, None, ◌≡◌}
use Rattle.std.proofs.lemmas.Result.{err_from_is_err_and}
use Rattle.sw_disk.specs.Calls.{PublishTmp, SyncDir, SyncTmp}
use Rattle.sw_disk.specs.Folder.{File, content_at}
use Rattle.sw_disk.specs.Runs.{refusal_of}
use Rattle.sw_disk.proofs.Chains.{runs_more, runs_stop}
use Rattle.sw_diskfile.proofs.Kept.{quiet_keeps, sync_keeps}
use Rattle.sw_diskfile.proofs.storing.publish_synced.Goals as goal

pub returns-in_err-sync_tmp-clause-runs : goal.returns-in_err-sync_tmp-clause-runs
returns-in_err-sync_tmp-clause-runs g c =
    let p = err_from_is_err_and c.from_residual.result c.from_residual.ensures.1 in
    let rest = PublishTmp c.args.folder.now c.args.name.now ∷ SyncDir c.args.folder.now ∷ [] in
    rw (p.1, p.2) (runs_stop g.D.Disk.seen g.D.Disk.left_since (SyncTmp ∷ []) rest _ _ _ c.in_err-sync_tmp.ensures.runs)

pub publish-requires-clause-temporary : goal.publish-requires-clause-temporary
publish-requires-clause-temporary g c = sync_keeps g.D.Disk.seen g.D.Disk.left_since _ _ c.in_ok-sync_tmp.ensures.runs c.requires.temporary

pub publish-requires-clause-new : goal.publish-requires-clause-new
publish-requires-clause-new g c =
    quiet_keeps g.D.Disk.seen g.D.Disk.left_since _ _ (SyncTmp ∷ []) c.args.folder.now (λ (files : List File). content_at c.args.name.now files ≡ None) tt c.in_ok-sync_tmp.ensures.runs c.requires.new

pub returns-in_err-publish-clause-runs : goal.returns-in_err-publish-clause-runs
returns-in_err-publish-clause-runs g c =
    let p = err_from_is_err_and c.from_residual-in_err-publish.result c.from_residual-in_err-publish.ensures.1 in
    let publish = PublishTmp c.args.folder.now c.args.name.now in
    rw (p.1, p.2)
    (runs_stop g.D.Disk.seen g.D.Disk.left_since (SyncTmp ∷ publish ∷ []) (SyncDir c.args.folder.now ∷ []) _ _ _
    (runs_more g.D.Disk.seen g.D.Disk.left_since (SyncTmp ∷ []) (publish ∷ []) _ _ _ _ c.in_ok-sync_tmp.ensures.runs c.in_err-publish.ensures.runs))

pub returns-clause-runs : goal.returns-clause-runs
returns-clause-runs g c =
    let publish = PublishTmp c.args.folder.now c.args.name.now in
    let published = runs_more g.D.Disk.seen g.D.Disk.left_since (SyncTmp ∷ []) (publish ∷ []) None _ _ _ c.in_ok-sync_tmp.ensures.runs c.in_ok-publish.ensures.runs in
    runs_more g.D.Disk.seen g.D.Disk.left_since (SyncTmp ∷ publish ∷ []) (SyncDir c.args.folder.now ∷ []) (refusal_of c.sync_dir.result) _ _ _ published c.sync_dir.ensures.runs
