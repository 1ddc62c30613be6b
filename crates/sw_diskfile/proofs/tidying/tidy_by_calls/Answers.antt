use Rattle.std.proofs.Common.{List, [], ◌∷◌, inl, Some, Global, String, refl, sym, subst, ◌∙◌, Option, None, ◌≡◌}
use Rattle.std.proofs.lemmas.Result.{err_from_is_err_and}
use Rattle.sw_disk.specs.Answers.{names_of, texts_of}
use Rattle.sw_disk.specs.Calls.{ListNames, SyncDir}
use Rattle.sw_disk.specs.Folder.{File, files_of}
use Rattle.sw_disk.specs.Runs.{IfTold, Runs}
use Rattle.sw_disk.specs.declared.refusal.DiskRefusal.{DiskRefusal}
use Rattle.sw_disk.specs.declared.refusal.DiskRefusal.TheVariants.{Failed, NoMemory}
use Rattle.sw_disk.proofs.Chains.{runs_more, told_map}
use Rattle.sw_diskfile.specs.Calls.{purge_calls}
use Rattle.sw_diskfile.specs.Names.{IsDirectoryOf}
use Rattle.sw_diskfile.specs.Normal.{AreObsolete}
use Rattle.sw_diskfile.proofs.Begun.{refused_early, unbegun}
use Rattle.sw_diskfile.proofs.Tidied.{look_done, look_refused, looked_keeps, tidies_all}
use Rattle.sw_diskfile.proofs.tidying.tidy_by_calls.Goals as goal

pub returns-in_err-dir-clause-runs : goal.returns-in_err-dir-clause-runs
returns-in_err-dir-clause-runs g c =
    let p = err_from_is_err_and c.from_residual.result c.from_residual.ensures.1 in
    let reason = c.in_err-dir.field-0.0 in
    rw (p.1, p.2) (inl (reason, refl, look_refused g.D.Disk.seen g.D.Disk.left_since c.args.folder.now c.args.disk.now c.look.new.disk reason c.in_err-dir.ensures.runs))

pub returns-in_err-obsolete-clause-runs : goal.returns-in_err-obsolete-clause-runs
returns-in_err-obsolete-clause-runs g c =
    let p = err_from_is_err_and c.from_residual-in_err-obsolete.result c.from_residual-in_err-obsolete.ensures.1 in
    let folder = c.args.folder.now in
    let looked = look_done g.D.Disk.seen g.D.Disk.left_since folder c.args.disk.now c.look.new.disk c.in_ok-dir.ensures.runs in
    rw (p.1, p.2) (inl (
      NoMemory,
      refl,
      runs_more g.D.Disk.seen g.D.Disk.left_since (ListNames folder ∷ []) (SyncDir folder ∷ []) (Some NoMemory) c.args.disk.now c.look.new.disk c.look.new.disk looked
          (unbegun g.D.Disk.seen g.D.Disk.left_since (SyncDir folder) [] NoMemory c.look.new.disk (λ failed. cc)),
    ))

pub returns-in_err-ready-clause-runs : goal.returns-in_err-ready-clause-runs
returns-in_err-ready-clause-runs g c =
    let p = err_from_is_err_and c.from_residual-in_err-ready.result c.from_residual-in_err-ready.ensures.1 in
    let folder = c.args.folder.now in
    let looked = look_done g.D.Disk.seen g.D.Disk.left_since folder c.args.disk.now c.look.new.disk c.in_ok-dir.ensures.runs in
    rw (p.1, p.2, c.in_err-ready.ensures.cause) (inl (
      NoMemory,
      refl,
      runs_more g.D.Disk.seen g.D.Disk.left_since (ListNames folder ∷ []) (SyncDir folder ∷ []) (Some NoMemory) c.args.disk.now c.look.new.disk c.ready.new.self looked
          (refused_early g.D.Disk.seen g.D.Disk.left_since (SyncDir folder) [] NoMemory c.ready.new.self (λ failed. cc) c.look.new.disk c.in_err-ready.ensures.untouched),
    ))

pub settle_and_purge-requires-clause-obsolete : goal.settle_and_purge-requires-clause-obsolete
settle_and_purge-requires-clause-obsolete g c =
    let folder = c.args.folder.now in
    let texts = texts_of c.in_ok-obsolete.obsolete.items in
    let P = λ (files : List File). AreObsolete c.args.is_primary (names_of files) texts in
    let first = told_map (g.D.Disk.seen c.args.disk.now).told (λ s. IsDirectoryOf (s.folder folder) c.in_ok-dir.dir) (λ s. P (files_of (s.folder folder))) c.in_ok-dir.ensures.directory
    (λ s directory. record { names = c.in_ok-dir.dir; directory = directory; all = c.in_ok-obsolete.ensures.all; ascend = c.in_ok-obsolete.ensures.ascend }) in
    let ready = looked_keeps g.D.Disk.seen g.D.Disk.left_since folder c.args.disk.now c.look.new.disk c.ready.new.self P c.in_ok-dir.ensures.runs c.in_ok-ready.ensures.untouched first in
    subst (λ (names : List (String Global)). IfTold (g.D.Disk.seen c.ready.new.self).told (λ s. AreObsolete c.args.is_primary (names_of (files_of (s.folder folder))) (texts_of names))) (sym c.deref.ensures.value) ready

abbrev no_refusal : Option DiskRefusal
no_refusal = None

none_other : (reason : DiskRefusal) → no_refusal ≡ Some reason → ⊥
none_other reason is = cc

only_reason : (reason other : DiskRefusal) → Some reason ≡ Some other → other ≡ reason
only_reason reason other is = cc

-- all of it, or all but what a failure stopped
pub returns-in_err-settle_and_purge-clause-runs : goal.returns-in_err-settle_and_purge-clause-runs
returns-in_err-settle_and_purge-clause-runs g c =
    let p = err_from_is_err_and c.from_residual-in_err-settle_and_purge.result c.from_residual-in_err-settle_and_purge.ensures.1 in
    let folder = c.args.folder.now in
    let reason = c.in_err-settle_and_purge.field-0.0 in
    let listed = c.in_ok-dir.ensures.listed in
    let are : AreObsolete c.args.is_primary listed.0 (texts_of c.in_ok-obsolete.obsolete.items) = record { names = c.in_ok-dir.dir; directory = listed.2; all = c.in_ok-obsolete.ensures.all; ascend = c.in_ok-obsolete.ensures.ascend } in
    let cause : reason ≡ Failed = c.in_err-settle_and_purge.ensures.cause in
    rw (p.1, p.2) (tidies_all g.D.Disk.seen g.D.Disk.left_since folder c.args.is_primary c.args.disk.now c.look.new.disk c.ready.new.self c.settle_and_purge.new.disk listed.0 (texts_of c.in_ok-obsolete.obsolete.items) listed.1 are
    c.in_ok-dir.ensures.runs c.in_ok-ready.ensures.untouched (Some reason) (λ other is. only_reason reason other is ∙ cause)
    (subst (λ (l : List (String Global)). Runs g.D.Disk.seen g.D.Disk.left_since (SyncDir folder ∷ purge_calls folder (texts_of l)) (Some reason) c.ready.new.self c.settle_and_purge.new.disk) c.deref.ensures.value c.in_err-settle_and_purge.ensures.runs))

pub returns-clause-runs : goal.returns-clause-runs
returns-clause-runs g c =
    let folder = c.args.folder.now in
    let listed = c.in_ok-dir.ensures.listed in
    let are : AreObsolete c.args.is_primary listed.0 (texts_of c.in_ok-obsolete.obsolete.items) = record { names = c.in_ok-dir.dir; directory = listed.2; all = c.in_ok-obsolete.ensures.all; ascend = c.in_ok-obsolete.ensures.ascend } in
    tidies_all g.D.Disk.seen g.D.Disk.left_since folder c.args.is_primary c.args.disk.now c.look.new.disk c.ready.new.self c.settle_and_purge.new.disk listed.0 (texts_of c.in_ok-obsolete.obsolete.items) listed.1 are
    c.in_ok-dir.ensures.runs c.in_ok-ready.ensures.untouched None (λ reason is. absurd (none_other reason is))
    (subst (λ (l : List (String Global)). Runs g.D.Disk.seen g.D.Disk.left_since (SyncDir folder ∷ purge_calls folder (texts_of l)) None c.ready.new.self c.settle_and_purge.new.disk) c.deref.ensures.value c.in_ok-settle_and_purge.ensures.runs)
