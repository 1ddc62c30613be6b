use Rattle.sw_disk.specs.Runs.{refusal_of}
use Rattle.sw_diskfile.specs.Changes.{IsMadeStable, IfBothTold}
use Rattle.sw_diskfile.specs.Normal.{IsTidied}
use Rattle.sw_diskfile.proofs.Outcomes.{on_ok}
use Rattle.sw_diskfile.proofs.Tidied.{tidy_changes, tidy_done, tidy_exact, tidy_keeps, tidy_others, tidy_stable, tidy_unmade}
use Rattle.sw_diskfile.proofs.tidying.tidy.Goals as goal

pub returns-clause-exact : goal.returns-clause-exact
returns-clause-exact g c =
    let folder = c.args.folder.now in
    let disk = c.args.disk.now in
    tidy_exact g.D.Disk.seen g.D.Disk.left_since folder c.args.is_primary disk c.tidy_by_calls.new.disk
    (g.met.D.Disk.now disk folder) (g.met.D.Disk.only_now disk folder) (λ since later image. g.met.D.Disk.earlier disk since later folder image)
    (refusal_of c.tidy_by_calls.result) c.tidy_by_calls.ensures.runs

pub returns-clause-changes : goal.returns-clause-changes
returns-clause-changes g c =
    let folder = c.args.folder.now in
    let disk = c.args.disk.now in
    tidy_changes g.D.Disk.seen g.D.Disk.left_since folder c.args.is_primary disk c.tidy_by_calls.new.disk
    (g.met.D.Disk.now disk folder) (g.met.D.Disk.only_now disk folder) (λ since later image. g.met.D.Disk.earlier disk since later folder image)
    (refusal_of c.tidy_by_calls.result) c.tidy_by_calls.ensures.runs

pub returns-clause-tidied : goal.returns-clause-tidied
returns-clause-tidied g c =
    let folder = c.args.folder.now in
    let disk = c.args.disk.now in
    on_ok c.tidy_by_calls.result (IfBothTold (g.D.Disk.seen disk) (g.D.Disk.seen c.tidy_by_calls.new.disk) folder (IsTidied c.args.is_primary))
    (tidy_done g.D.Disk.seen g.D.Disk.left_since folder c.args.is_primary disk c.tidy_by_calls.new.disk
    (g.met.D.Disk.now disk folder) (g.met.D.Disk.only_now disk folder) (λ since later image. g.met.D.Disk.earlier disk since later folder image)
    (refusal_of c.tidy_by_calls.result) c.tidy_by_calls.ensures.runs)

pub returns-clause-keeps : goal.returns-clause-keeps
returns-clause-keeps g c =
    let folder = c.args.folder.now in
    let disk = c.args.disk.now in
    tidy_keeps g.D.Disk.seen g.D.Disk.left_since folder c.args.is_primary disk c.tidy_by_calls.new.disk
    (g.met.D.Disk.now disk folder) (g.met.D.Disk.only_now disk folder) (λ since later image. g.met.D.Disk.earlier disk since later folder image)
    (refusal_of c.tidy_by_calls.result) c.tidy_by_calls.ensures.runs

pub returns-clause-unmade : goal.returns-clause-unmade
returns-clause-unmade g c =
    let disk = c.args.disk.now in
    tidy_unmade g.D.Disk.seen g.D.Disk.left_since c.args.folder.now c.args.is_primary disk c.tidy_by_calls.new.disk
    (g.met.D.Disk.now disk) (λ since later name image. g.met.D.Disk.earlier disk since later name image) (refusal_of c.tidy_by_calls.result) c.tidy_by_calls.ensures.runs

pub returns-clause-stable : goal.returns-clause-stable
returns-clause-stable g c =
    let folder = c.args.folder.now in
    let disk = c.args.disk.now in
    on_ok c.tidy_by_calls.result (IfBothTold (g.D.Disk.seen disk) (g.D.Disk.seen c.tidy_by_calls.new.disk) folder IsMadeStable)
    (tidy_stable g.D.Disk.seen g.D.Disk.left_since folder c.args.is_primary disk c.tidy_by_calls.new.disk
    (g.met.D.Disk.now disk folder) (g.met.D.Disk.only_now disk folder) (λ since later image. g.met.D.Disk.earlier disk since later folder image)
    (refusal_of c.tidy_by_calls.result) c.tidy_by_calls.ensures.runs)

pub returns-clause-others : goal.returns-clause-others
returns-clause-others g c =
    let disk = c.args.disk.now in
    tidy_others g.D.Disk.seen g.D.Disk.left_since c.args.folder.now c.args.is_primary disk c.tidy_by_calls.new.disk
    (g.met.D.Disk.now disk) (λ since later name image. g.met.D.Disk.earlier disk since later name image) (refusal_of c.tidy_by_calls.result) c.tidy_by_calls.ensures.runs
