use Rattle.std.proofs.Common.{◌≢◌, true, [], ◌∷◌, refl, sym, subst}
use Rattle.std.specs.Prelude.{⊤}
use Rattle.sw_disk.specs.Answers.{names_of}
use Rattle.sw_disk.specs.Calls.{PublishTmp, SyncTmp, WriteTmp}
use Rattle.sw_disk.specs.Folder.{files_of}
use Rattle.sw_disk.specs.Runs.{Runs, refusal_of}
use Rattle.sw_hashpath.specs.FileName.{file_name_text}
use Rattle.sw_hashdir.specs.Directory.{IsDirectory}
use Rattle.sw_diskfile.specs.Calls.{store_calls}
use Rattle.sw_diskfile.specs.Changes.{IsMadeStable, IfBothTold, new_file}
use Rattle.sw_diskfile.specs.Names.{MakesName}
use Rattle.sw_diskfile.proofs.CallLists.{store_alone, makes_store}
use Rattle.sw_diskfile.proofs.Directories.{made_directory}
use Rattle.sw_diskfile.proofs.Kept.{always}
use Rattle.sw_diskfile.proofs.Outcomes.{keeps_refused, keeps_run, all_stand, changes_run, on_ok, refused_before, stable_run}
use Rattle.sw_diskfile.proofs.storing.make_file.Goals as goal

pub returns-clause-changes : goal.returns-clause-changes
returns-clause-changes g c =
    let folder = c.args.folder.now in
    let text = file_name_text c.args.name.now in
    let bytes = c.args.bytes.now in
    let disk = c.args.disk.now in
    changes_run g.D.Disk.seen g.D.Disk.left_since folder (store_calls folder text bytes) (new_file text bytes ∷ []) (makes_store folder text bytes) disk c.file_by_calls.new.disk (refusal_of c.file_by_calls.result)
    (g.met.D.Disk.now disk folder) (g.met.D.Disk.only_now disk folder) (λ since later image. g.met.D.Disk.earlier disk since later folder image)
    c.file_by_calls.ensures.runs (λ reason is other. refused_before folder g.D.Disk.seen g.D.Disk.left_since (WriteTmp bytes) reason disk c.file_by_calls.new.disk (c.file_by_calls.ensures.early reason is other))

pub returns-clause-directory : goal.returns-clause-directory
returns-clause-directory g c =
    let folder = c.args.folder.now in
    let made = c.args.name.now in
    let change = new_file (file_name_text made) c.args.bytes.now in
    on_ok c.file_by_calls.result (IfBothTold (g.D.Disk.seen c.args.disk.now) (g.D.Disk.seen c.file_by_calls.new.disk) folder (MakesName made)) (λ none.
    all_stand g.D.Disk.seen g.D.Disk.left_since folder c.args.disk.now c.file_by_calls.new.disk (change ∷ []) (refusal_of c.file_by_calls.result) (λ before. ⊤) (MakesName made) none (returns-clause-changes g c) (always (g.D.Disk.seen c.args.disk.now).told)
    (λ before after _ is names later directory is_after.
    subst (λ files. IsDirectory (names_of files) later) (sym is)
    (made_directory (files_of before) (record { name = file_name_text made; content = record { bytes = c.args.bytes.now; synced = true } }) made names later directory c.requires.named refl c.requires.plain is_after)))

pub returns-clause-stable : goal.returns-clause-stable
returns-clause-stable g c =
    let folder = c.args.folder.now in
    on_ok c.file_by_calls.result (IfBothTold (g.D.Disk.seen c.args.disk.now) (g.D.Disk.seen c.file_by_calls.new.disk) folder IsMadeStable) (λ none.
    stable_run g.D.Disk.seen g.D.Disk.left_since folder c.args.disk.now c.file_by_calls.new.disk (WriteTmp c.args.bytes.now ∷ SyncTmp ∷ PublishTmp folder (file_name_text c.args.name.now) ∷ []) (new_file (file_name_text c.args.name.now) c.args.bytes.now ∷ []) (refusal_of c.file_by_calls.result)
    (subst (λ r. Runs g.D.Disk.seen g.D.Disk.left_since (store_calls folder (file_name_text c.args.name.now) c.args.bytes.now) r c.args.disk.now c.file_by_calls.new.disk) none c.file_by_calls.ensures.runs) (returns-clause-changes g c))

pub returns-clause-others : goal.returns-clause-others
returns-clause-others g c =
    let folder = c.args.folder.now in
    let disk = c.args.disk.now in
    keeps_run g.D.Disk.seen g.D.Disk.left_since (λ name. name ≢ folder) (store_calls folder (file_name_text c.args.name.now) c.args.bytes.now) (λ name differs. store_alone folder name differs (file_name_text c.args.name.now) c.args.bytes.now) disk c.file_by_calls.new.disk
    (g.met.D.Disk.now disk) (λ since later name image. g.met.D.Disk.earlier disk since later name image) (refusal_of c.file_by_calls.result) c.file_by_calls.ensures.runs

pub returns-clause-unmade : goal.returns-clause-unmade
returns-clause-unmade g c = λ reason is other.
    let disk = c.args.disk.now in
    keeps_refused g.D.Disk.seen g.D.Disk.left_since disk c.file_by_calls.new.disk (g.met.D.Disk.now disk) (λ since later name image. g.met.D.Disk.earlier disk since later name image)
    (WriteTmp c.args.bytes.now) reason (c.file_by_calls.ensures.early reason is other)
