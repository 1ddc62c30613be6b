use Rattle.std.proofs.Common.{[], ◌∷◌, None, Some, refl}
use Rattle.std.specs.Prelude.{⊤}
use Rattle.sw_disk.specs.Calls.{ListFolders}
use Rattle.sw_diskfile.proofs.Outcomes.{keeps_run}
use Rattle.sw_objsrv.proofs.surveying.places.Goals as goal

pub returns-in_err-folders-clause-kept : goal.returns-in_err-folders-clause-kept
returns-in_err-folders-clause-kept g c =
    let disk = c.args.disk.now in
    keeps_run g.D.Disk.seen g.D.Disk.left_since (λ _. ⊤) (ListFolders ∷ []) (λ name _ temporary. refl) disk c.folders.new.self
    (g.met.D.Disk.now disk) (λ since later name image. g.met.D.Disk.earlier disk since later name image) (Some c.in_err-folders.field-0.0) c.in_err-folders.ensures.runs

pub returns-in_err-places-clause-kept : goal.returns-in_err-places-clause-kept
returns-in_err-places-clause-kept g c =
    let disk = c.args.disk.now in
    keeps_run g.D.Disk.seen g.D.Disk.left_since (λ _. ⊤) (ListFolders ∷ []) (λ name _ temporary. refl) disk c.folders.new.self
    (g.met.D.Disk.now disk) (λ since later name image. g.met.D.Disk.earlier disk since later name image) None c.in_ok-folders.ensures.runs

pub returns-clause-kept : goal.returns-clause-kept
returns-clause-kept g c =
    let disk = c.args.disk.now in
    keeps_run g.D.Disk.seen g.D.Disk.left_since (λ _. ⊤) (ListFolders ∷ []) (λ name _ temporary. refl) disk c.folders.new.self
    (g.met.D.Disk.now disk) (λ since later name image. g.met.D.Disk.earlier disk since later name image) None c.in_ok-folders.ensures.runs
