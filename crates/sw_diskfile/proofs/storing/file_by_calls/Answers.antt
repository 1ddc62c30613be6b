use Rattle.std.proofs.Common.{◌≡◌, ◌≤◌, ◌↔◌, ℕ, [], ◌∷◌, List, Option, None, Some, Result, Err, IsErrOf, length, refl, subst, sym, ap, inl, inr, ◌∙◌, arith}
use Rattle.std.proofs.lemmas.Result.{err_from_is_err_and}
use Rattle.sw_disk.specs.Answers.{IsFull}
use Rattle.sw_disk.specs.Calls.{PublishTmp, SyncDir, SyncTmp, WriteTmp}
use Rattle.sw_disk.specs.Folder.{File, content_at, files_of}
use Rattle.sw_disk.specs.Runs.{IfTold, IsUntouched, Past, Runs, Seen, refusal_of}
use Rattle.sw_disk.specs.State.{State, free_of}
use Rattle.sw_disk.specs.declared.refusal.DiskRefusal.{DiskRefusal}
use Rattle.sw_disk.specs.declared.refusal.DiskRefusal.TheVariants.{Full, NoMemory}
use Rattle.sw_hashpath.specs.FileName.{file_name_text}
use Rattle.sw_disk.proofs.Chains.{runs_after, runs_more, runs_stop, told_map}
use Rattle.sw_diskfile.specs.Calls.{store_calls}
use Rattle.sw_diskfile.proofs.Begun.{refused_early, unbegun}
use Rattle.sw_diskfile.proofs.FileTexts.{short_text}
use Rattle.sw_diskfile.proofs.Kept.{quiet_keeps, write_gives}
use Rattle.sw_diskfile.proofs.storing.file_by_calls.Goals as goal

pub returns-in_err-text-clause-runs : goal.returns-in_err-text-clause-runs
returns-in_err-text-clause-runs g c =
    let p = err_from_is_err_and c.from_residual.result c.from_residual.ensures.1 in
    let folder = c.args.folder.now in
    rw (p.1, p.2) (unbegun g.D.Disk.seen g.D.Disk.left_since (WriteTmp c.args.bytes.now) (SyncTmp ∷ PublishTmp folder (file_name_text c.args.name.now) ∷ SyncDir folder ∷ []) NoMemory c.args.disk.now (λ is. cc))

pub returns-in_err-text-clause-early : goal.returns-in_err-text-clause-early
returns-in_err-text-clause-early g c = λ reason is other. unbegun g.D.Disk.seen g.D.Disk.left_since (WriteTmp c.args.bytes.now) [] reason c.args.disk.now other

pub returns-in_err-ready-clause-runs : goal.returns-in_err-ready-clause-runs
returns-in_err-ready-clause-runs g c =
    let p = err_from_is_err_and c.from_residual-in_err-ready.result c.from_residual-in_err-ready.ensures.1 in
    let folder = c.args.folder.now in
    rw (p.1, p.2, c.in_err-ready.ensures.cause)
    (refused_early g.D.Disk.seen g.D.Disk.left_since (WriteTmp c.args.bytes.now) (SyncTmp ∷ PublishTmp folder (file_name_text c.args.name.now) ∷ SyncDir folder ∷ []) NoMemory c.ready.new.self (λ is. cc) c.args.disk.now
    c.in_err-ready.ensures.untouched)

pub returns-in_err-ready-clause-early : goal.returns-in_err-ready-clause-early
returns-in_err-ready-clause-early g c = λ reason is other.
    refused_early g.D.Disk.seen g.D.Disk.left_since (WriteTmp c.args.bytes.now) [] reason c.ready.new.self other c.args.disk.now c.in_err-ready.ensures.untouched

pub returns-in_err-write_tmp-clause-runs : goal.returns-in_err-write_tmp-clause-runs
returns-in_err-write_tmp-clause-runs g c =
    let p = err_from_is_err_and c.from_residual-in_err-write_tmp.result c.from_residual-in_err-write_tmp.ensures.1 in
    let folder = c.args.folder.now in
    let rest = SyncTmp ∷ PublishTmp folder (file_name_text c.args.name.now) ∷ SyncDir folder ∷ [] in
    rw (p.1, p.2)
    (runs_after g.D.Disk.seen g.D.Disk.left_since (WriteTmp c.args.bytes.now ∷ rest) _ _ _ _ c.in_ok-ready.ensures.untouched
    (runs_stop g.D.Disk.seen g.D.Disk.left_since (WriteTmp c.args.bytes.now ∷ []) rest _ _ _ c.in_err-write_tmp.ensures.runs))

pub returns-in_err-write_tmp-clause-full : goal.returns-in_err-write_tmp-clause-full
returns-in_err-write_tmp-clause-full g c = λ need free is.
    let p = err_from_is_err_and c.from_residual-in_err-write_tmp.result c.from_residual-in_err-write_tmp.ensures.1 in
    let told = c.in_ok-ready.ensures.untouched.told in
    subst (λ (o : Option State). IsFull need free (length c.args.bytes.now) o) told
    (c.in_err-write_tmp.ensures.full need free (subst (λ r. IsErrOf r (Full need free)) (p.1 ∙ ap Err p.2) is))

pub publish_synced-requires-clause-name : goal.publish_synced-requires-clause-name
publish_synced-requires-clause-name g c = rw (c.as_str.ensures.value, c.in_ok-text.ensures) (short_text c.args.name.now c.requires.named)

pub publish_synced-requires-clause-temporary : goal.publish_synced-requires-clause-temporary
publish_synced-requires-clause-temporary g c = write_gives g.D.Disk.seen g.D.Disk.left_since _ _ c.args.bytes.now c.in_ok-write_tmp.ensures.runs

pub publish_synced-requires-clause-new : goal.publish_synced-requires-clause-new
publish_synced-requires-clause-new g c =
    let name = c.as_str.ensures.value ∙ c.in_ok-text.ensures in
    let P = λ (files : List File). content_at (file_name_text c.args.name.now) files ≡ None in
    let ready = subst (λ (o : Option State). IfTold o (λ s. P (files_of (s.folder c.args.folder.now)))) (sym c.in_ok-ready.ensures.untouched.told) c.requires.new in
    rw name (quiet_keeps g.D.Disk.seen g.D.Disk.left_since _ _ (WriteTmp c.args.bytes.now ∷ []) c.args.folder.now P tt c.in_ok-write_tmp.ensures.runs ready)

pub returns-clause-runs : goal.returns-clause-runs
returns-clause-runs g c =
    let folder = c.args.folder.now in
    let name : c.as_str.result.now ≡ file_name_text c.args.name.now = c.as_str.ensures.value ∙ c.in_ok-text.ensures in
    let rest = λ (text : List ℕ). SyncTmp ∷ PublishTmp folder text ∷ SyncDir folder ∷ [] in
    let published = subst (λ (text : List ℕ). Runs g.D.Disk.seen g.D.Disk.left_since (rest text) (refusal_of c.publish_synced.result) c.write_tmp.new.self c.publish_synced.new.disk) name c.publish_synced.ensures.runs in
    runs_after g.D.Disk.seen g.D.Disk.left_since (store_calls folder (file_name_text c.args.name.now) c.args.bytes.now) (refusal_of c.publish_synced.result) c.args.disk.now c.ready.new.self c.publish_synced.new.disk c.in_ok-ready.ensures.untouched
    (runs_more g.D.Disk.seen g.D.Disk.left_since (WriteTmp c.args.bytes.now ∷ []) (rest (file_name_text c.args.name.now)) (refusal_of c.publish_synced.result) _ _ _ c.in_ok-write_tmp.ensures.runs published)

-- what holds in any state, where the disk tells its own
in_any : (told : Option State) (P : State → Type 0) → ((state : State) → P state) → IfTold told P
in_any None P holds = tt
in_any (Some state) P holds = holds state

-- the reason of a refusal that was passed on
one_reason : (result : Result (Unit {0}) DiskRefusal) (refusal cause reason : DiskRefusal) → result ≡ Err refusal → refusal ≡ cause → refusal_of result ≡ Some reason → reason ≡ cause
one_reason result refusal cause reason is_err is_cause is =
    let same : Some refusal ≡ Some reason = sym (ap refusal_of is_err) ∙ is in
    let one : refusal ≡ reason = cc in
    sym one ∙ is_cause

pub returns-in_err-text-clause-overfull : goal.returns-in_err-text-clause-overfull
returns-in_err-text-clause-overfull g c = λ reason is.
    let p = err_from_is_err_and c.from_residual.result c.from_residual.ensures.1 in
    let memory : reason ≡ NoMemory = one_reason _ _ _ reason p.1 p.2 is in
    in_any (g.D.Disk.seen c.args.disk.now).told _ (λ state less. unbegun g.D.Disk.seen g.D.Disk.left_since (WriteTmp c.args.bytes.now) [] reason c.args.disk.now (λ failed. cc))

pub returns-in_err-ready-clause-overfull : goal.returns-in_err-ready-clause-overfull
returns-in_err-ready-clause-overfull g c = λ reason is.
    let p = err_from_is_err_and c.from_residual-in_err-ready.result c.from_residual-in_err-ready.ensures.1 in
    let memory : reason ≡ NoMemory = one_reason _ _ _ reason p.1 p.2 is ∙ c.in_err-ready.ensures.cause in
    in_any (g.D.Disk.seen c.args.disk.now).told _ (λ state less. refused_early g.D.Disk.seen g.D.Disk.left_since (WriteTmp c.args.bytes.now) [] reason c.ready.new.self (λ failed. cc) c.args.disk.now c.in_err-ready.ensures.untouched)

pub returns-in_err-write_tmp-clause-overfull : goal.returns-in_err-write_tmp-clause-overfull
returns-in_err-write_tmp-clause-overfull g c = λ reason is.
    let p = err_from_is_err_and c.from_residual-in_err-write_tmp.result c.from_residual-in_err-write_tmp.ensures.1 in
    let same = one_reason _ _ _ reason p.1 p.2 is in
    in_any (g.D.Disk.seen c.args.disk.now).told _ (λ state less. rw same
    (runs_after g.D.Disk.seen g.D.Disk.left_since (WriteTmp c.args.bytes.now ∷ []) _ _ _ _ c.in_ok-ready.ensures.untouched c.in_err-write_tmp.ensures.runs))

pub returns-clause-overfull : goal.returns-clause-overfull
returns-clause-overfull g c = λ reason is.
    let fits = subst (λ (o : Option State). IfTold o (λ s. length c.args.bytes.now ≤ free_of s)) c.in_ok-ready.ensures.untouched.told c.in_ok-write_tmp.ensures.fits in
    told_map (g.D.Disk.seen c.args.disk.now).told (λ s. length c.args.bytes.now ≤ free_of s) _ fits (λ s enough less. absurd (omega (arith, enough, less)))

untouched : {D : Type 0} (seen : D → Seen) (left_since : D → Past) (disk : D) → IsUntouched seen left_since disk disk
untouched seen left_since disk = record { told = refl; faults = refl; moment = refl; left = λ t folder image. (λ left. left, λ left. left) }

pub returns-in_err-text-clause-memory : goal.returns-in_err-text-clause-memory
returns-in_err-text-clause-memory g c = λ is. inl (untouched g.D.Disk.seen g.D.Disk.left_since c.args.disk.now)

pub returns-in_err-ready-clause-memory : goal.returns-in_err-ready-clause-memory
returns-in_err-ready-clause-memory g c = λ is. inl c.in_err-ready.ensures.untouched

pub returns-in_err-write_tmp-clause-memory : goal.returns-in_err-write_tmp-clause-memory
returns-in_err-write_tmp-clause-memory g c = λ is.
    let p = err_from_is_err_and c.from_residual-in_err-write_tmp.result c.from_residual-in_err-write_tmp.ensures.1 in
    let wants = subst (λ r. IsErrOf r NoMemory) (p.1 ∙ ap Err p.2) is in
    inr (subst (λ (o : Option State). IfTold o (λ s. length c.args.bytes.now ≤ free_of s)) c.in_ok-ready.ensures.untouched.told (c.in_err-write_tmp.ensures.memory wants))

pub returns-clause-memory : goal.returns-clause-memory
returns-clause-memory g c = λ is. inr (subst (λ (o : Option State). IfTold o (λ s. length c.args.bytes.now ≤ free_of s)) c.in_ok-ready.ensures.untouched.told c.in_ok-write_tmp.ensures.fits)
