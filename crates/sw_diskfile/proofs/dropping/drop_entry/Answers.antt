use Rattle.std.proofs.Common.{◌≢◌, ◌≤◌, [], ◌∷◌, sym, subst, rules}
use Rattle.std.specs.Prelude.{⊤}
use Rattle.sw_types.specs.Stamp.{greatest_stamp}
use Rattle.sw_disk.specs.Answers.{names_of}
use Rattle.sw_disk.specs.Calls.{RemoveFile}
use Rattle.sw_disk.specs.Folder.{Remove, files_of}
use Rattle.sw_disk.specs.Runs.{Runs, refusal_of}
use Rattle.sw_hashpath.specs.FileName.{file_name_text}
use Rattle.sw_hashpath.specs.declared.file_name.FileName.TheVariants.{Data}
use Rattle.sw_hashdir.specs.Directory.{IsDirectory}
use Rattle.sw_diskfile.specs.Calls.{drop_calls}
use Rattle.sw_diskfile.specs.Changes.{IsMadeStable, IfBothTold}
use Rattle.sw_diskfile.specs.Names.{DropsName}
use Rattle.sw_diskfile.proofs.CallLists.{drop_alone, makes_drop}
use Rattle.sw_diskfile.proofs.Directories.{dropped_directory}
use Rattle.sw_diskfile.proofs.Kept.{always}
use Rattle.sw_diskfile.proofs.Outcomes.{keeps_refused, keeps_run, all_stand, changes_run, on_ok, refused_before, stable_run}
use Rattle.sw_diskfile.proofs.dropping.drop_entry.Goals as goal

pub returns-clause-changes : goal.returns-clause-changes
returns-clause-changes g c =
    let folder = c.args.folder.now in
    let text = file_name_text (Data c.args.entry.stamp c.args.entry.index c.args.entry.durable) in
    let disk = c.args.disk.now in
    changes_run g.D.Disk.seen g.D.Disk.left_since folder (drop_calls folder text) (Remove text ∷ []) (makes_drop folder text) disk c.drop_by_calls.new.disk (refusal_of c.drop_by_calls.result)
    (g.met.D.Disk.now disk folder) (g.met.D.Disk.only_now disk folder) (λ since later image. g.met.D.Disk.earlier disk since later folder image)
    c.drop_by_calls.ensures.runs (λ reason is other. refused_before folder g.D.Disk.seen g.D.Disk.left_since (RemoveFile folder text) reason disk c.drop_by_calls.new.disk (c.drop_by_calls.ensures.early reason is other))

pub returns-clause-directory : goal.returns-clause-directory
returns-clause-directory g c =
    let folder = c.args.folder.now in
    let gone = Data c.args.entry.stamp c.args.entry.index c.args.entry.durable in
    let bound : c.args.entry.stamp ≤ greatest_stamp = search rules in
    on_ok c.drop_by_calls.result (IfBothTold (g.D.Disk.seen c.args.disk.now) (g.D.Disk.seen c.drop_by_calls.new.disk) folder (DropsName gone)) (λ none.
    all_stand g.D.Disk.seen g.D.Disk.left_since folder c.args.disk.now c.drop_by_calls.new.disk (Remove (file_name_text gone) ∷ []) (refusal_of c.drop_by_calls.result)
    (λ before. ⊤) (DropsName gone) none (returns-clause-changes g c) (always (g.D.Disk.seen c.args.disk.now).told)
    (λ before after _ is names later directory without.
    subst (λ files. IsDirectory (names_of files) later) (sym is)
    (dropped_directory (files_of before) gone names later directory (bound, c.requires.index) without)))

pub returns-clause-stable : goal.returns-clause-stable
returns-clause-stable g c =
    let folder = c.args.folder.now in
    let text = file_name_text (Data c.args.entry.stamp c.args.entry.index c.args.entry.durable) in
    on_ok c.drop_by_calls.result (IfBothTold (g.D.Disk.seen c.args.disk.now) (g.D.Disk.seen c.drop_by_calls.new.disk) folder IsMadeStable) (λ none.
    stable_run g.D.Disk.seen g.D.Disk.left_since folder c.args.disk.now c.drop_by_calls.new.disk (RemoveFile folder text ∷ []) (Remove text ∷ []) (refusal_of c.drop_by_calls.result)
    (subst (λ r. Runs g.D.Disk.seen g.D.Disk.left_since (drop_calls folder text) r c.args.disk.now c.drop_by_calls.new.disk) none c.drop_by_calls.ensures.runs) (returns-clause-changes g c))

pub returns-clause-others : goal.returns-clause-others
returns-clause-others g c =
    let folder = c.args.folder.now in
    let disk = c.args.disk.now in
    let text = file_name_text (Data c.args.entry.stamp c.args.entry.index c.args.entry.durable) in
    keeps_run g.D.Disk.seen g.D.Disk.left_since (λ name. name ≢ folder) (drop_calls folder text) (λ name differs. drop_alone folder name differs text) disk c.drop_by_calls.new.disk
    (g.met.D.Disk.now disk) (λ since later name image. g.met.D.Disk.earlier disk since later name image) (refusal_of c.drop_by_calls.result) c.drop_by_calls.ensures.runs

pub returns-clause-unmade : goal.returns-clause-unmade
returns-clause-unmade g c = λ reason is other.
    let disk = c.args.disk.now in
    let folder = c.args.folder.now in
    let text = file_name_text (Data c.args.entry.stamp c.args.entry.index c.args.entry.durable) in
    keeps_refused g.D.Disk.seen g.D.Disk.left_since disk c.drop_by_calls.new.disk (g.met.D.Disk.now disk) (λ since later name image. g.met.D.Disk.earlier disk since later name image)
    (RemoveFile folder text) reason (c.drop_by_calls.ensures.early reason is other)
