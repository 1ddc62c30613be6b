use Rattle.std.proofs.Common.{List, [], ◌∷◌, None, Some, sym, subst, arith}
use Rattle.std.proofs.lemmas.Result.{err_from_is_err_and}
use Rattle.sw_disk.specs.Calls.{Call, SyncDir}
use Rattle.sw_disk.specs.Runs.{Runs, refusal_of}
use Rattle.sw_disk.proofs.Chains.{runs_more, runs_none, runs_stop}
use Rattle.sw_diskfile.proofs.Removing.{no_purge, removals, some_purge}
use Rattle.sw_diskfile.proofs.purging.purge_by_calls.Goals as goal

pub returns-then-is_empty-clause-runs : goal.returns-then-is_empty-clause-runs
returns-then-is_empty-clause-runs g c =
    subst (λ (l : List Call). Runs g.D.Disk.seen g.D.Disk.left_since l None c.args.disk.now c.args.disk.now) (sym (no_purge c.args.folder.now c.args.obsolete.now (grind (arith, c.if-is_empty.ensures))))
    (runs_none g.D.Disk.seen g.D.Disk.left_since c.args.disk.now)

pub returns-in_err-remove_all-clause-runs : goal.returns-in_err-remove_all-clause-runs
returns-in_err-remove_all-clause-runs g c =
    let p = err_from_is_err_and c.from_residual.result c.from_residual.ensures.1 in
    let folder = c.args.folder.now in
    let calls = some_purge folder c.args.obsolete.now (λ none. absurd (grind (arith, none, c.if-is_empty.ensures))) in
    rw (p.1, p.2) (subst (λ (l : List Call). Runs g.D.Disk.seen g.D.Disk.left_since l (Some c.in_err-remove_all.field-0.0) c.args.disk.now c.remove_all.new.disk) (sym calls)
    (runs_stop g.D.Disk.seen g.D.Disk.left_since (removals folder c.args.obsolete.now) (SyncDir folder ∷ []) c.in_err-remove_all.field-0.0 c.args.disk.now c.remove_all.new.disk c.in_err-remove_all.ensures.runs))

pub returns-clause-runs : goal.returns-clause-runs
returns-clause-runs g c =
    let folder = c.args.folder.now in
    let calls = some_purge folder c.args.obsolete.now (λ none. absurd (grind (arith, none, c.if-is_empty.ensures))) in
    subst (λ (l : List Call). Runs g.D.Disk.seen g.D.Disk.left_since l (refusal_of c.sync_dir.result) c.args.disk.now c.sync_dir.new.self) (sym calls)
    (runs_more g.D.Disk.seen g.D.Disk.left_since (removals folder c.args.obsolete.now) (SyncDir folder ∷ []) (refusal_of c.sync_dir.result) c.args.disk.now c.remove_all.new.disk c.sync_dir.new.self c.in_ok-remove_all.ensures.runs c.sync_dir.ensures.runs)
