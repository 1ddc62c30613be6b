use Rattle.std.proofs.Common.{◌≢◌, Bool, ◌≤◌, false, true, [], ◌∷◌, IsSome, sym, subst, rules}
use Rattle.sw_types.specs.Stamp.{greatest_stamp}
use Rattle.sw_disk.specs.Answers.{names_of}
use Rattle.sw_disk.specs.Calls.{RenameFile}
use Rattle.sw_disk.specs.Folder.{Rename, content_at, files_of}
use Rattle.sw_disk.specs.Runs.{Runs, refusal_of}
use Rattle.sw_hashpath.specs.FileName.{file_name_text}
use Rattle.sw_hashpath.specs.declared.file_name.FileName.TheVariants.{Data}
use Rattle.sw_hashdir.specs.Directory.{IsDirectory}
use Rattle.sw_diskfile.specs.Calls.{commit_calls}
use Rattle.sw_diskfile.specs.Changes.{IsMadeStable, IfBothTold}
use Rattle.sw_diskfile.specs.Names.{MakesName}
use Rattle.sw_diskfile.proofs.CallLists.{commit_alone, makes_commit}
use Rattle.sw_diskfile.proofs.Directories.{durable_directory}
use Rattle.sw_diskfile.proofs.Outcomes.{keeps_refused, keeps_run, all_stand, changes_run, on_ok, refused_before, stable_run}
use Rattle.sw_diskfile.proofs.committing.commit.Goals as goal

pub returns-clause-changes : goal.returns-clause-changes
returns-clause-changes g c =
    let folder = c.args.folder.now in
    let text = λ (durable : Bool). file_name_text (Data c.args.stamp c.args.index durable) in
    let disk = c.args.disk.now in
    changes_run g.D.Disk.seen g.D.Disk.left_since folder (commit_calls folder (text false) (text true)) (Rename (text false) (text true) ∷ []) (makes_commit folder (text false) (text true)) disk c.commit_by_calls.new.disk (refusal_of c.commit_by_calls.result)
    (g.met.D.Disk.now disk folder) (g.met.D.Disk.only_now disk folder) (λ since later image. g.met.D.Disk.earlier disk since later folder image)
    c.commit_by_calls.ensures.runs (λ reason is other. refused_before folder g.D.Disk.seen g.D.Disk.left_since (RenameFile folder (text false) (text true)) reason disk c.commit_by_calls.new.disk (c.commit_by_calls.ensures.early reason is other))

pub returns-clause-directory : goal.returns-clause-directory
returns-clause-directory g c =
    let folder = c.args.folder.now in
    let text = λ (durable : Bool). file_name_text (Data c.args.stamp c.args.index durable) in
    let made = Data c.args.stamp c.args.index true in
    let bound : c.args.stamp ≤ greatest_stamp = search rules in
    on_ok c.commit_by_calls.result (IfBothTold (g.D.Disk.seen c.args.disk.now) (g.D.Disk.seen c.commit_by_calls.new.disk) folder (MakesName made)) (λ none.
    all_stand g.D.Disk.seen g.D.Disk.left_since folder c.args.disk.now c.commit_by_calls.new.disk (Rename (text false) (text true) ∷ []) (refusal_of c.commit_by_calls.result)
    (λ before. IsSome (content_at (text false) (files_of before))) (MakesName made) none (returns-clause-changes g c) c.requires.there
    (λ before after there is names later directory is_after.
    subst (λ files. IsDirectory (names_of files) later) (sym is)
    (durable_directory (files_of before) c.args.stamp c.args.index names later directory (bound, c.requires.index) there is_after)))

pub returns-clause-stable : goal.returns-clause-stable
returns-clause-stable g c =
    let folder = c.args.folder.now in
    let text = λ (durable : Bool). file_name_text (Data c.args.stamp c.args.index durable) in
    on_ok c.commit_by_calls.result (IfBothTold (g.D.Disk.seen c.args.disk.now) (g.D.Disk.seen c.commit_by_calls.new.disk) folder IsMadeStable) (λ none.
    stable_run g.D.Disk.seen g.D.Disk.left_since folder c.args.disk.now c.commit_by_calls.new.disk (RenameFile folder (text false) (text true) ∷ []) (Rename (text false) (text true) ∷ []) (refusal_of c.commit_by_calls.result)
    (subst (λ r. Runs g.D.Disk.seen g.D.Disk.left_since (commit_calls folder (text false) (text true)) r c.args.disk.now c.commit_by_calls.new.disk) none c.commit_by_calls.ensures.runs) (returns-clause-changes g c))

pub returns-clause-others : goal.returns-clause-others
returns-clause-others g c =
    let folder = c.args.folder.now in
    let disk = c.args.disk.now in
    let text = λ (durable : Bool). file_name_text (Data c.args.stamp c.args.index durable) in
    keeps_run g.D.Disk.seen g.D.Disk.left_since (λ name. name ≢ folder) (commit_calls folder (text false) (text true)) (λ name differs. commit_alone folder name differs (text false) (text true)) disk c.commit_by_calls.new.disk
    (g.met.D.Disk.now disk) (λ since later name image. g.met.D.Disk.earlier disk since later name image) (refusal_of c.commit_by_calls.result) c.commit_by_calls.ensures.runs

pub returns-clause-unmade : goal.returns-clause-unmade
returns-clause-unmade g c = λ reason is other.
    let disk = c.args.disk.now in
    let folder = c.args.folder.now in
    let text = λ (durable : Bool). file_name_text (Data c.args.stamp c.args.index durable) in
    keeps_refused g.D.Disk.seen g.D.Disk.left_since disk c.commit_by_calls.new.disk (g.met.D.Disk.now disk) (λ since later name image. g.met.D.Disk.earlier disk since later name image)
    (RenameFile folder (text false) (text true)) reason (c.commit_by_calls.ensures.early reason is other)
