use Rattle.std.proofs.Common.{◌≢◌, List, [], None, map, subst}
use Rattle.sw_disk.specs.Answers.{names_of, texts_of}
use Rattle.sw_disk.specs.Calls.{Call}
use Rattle.sw_disk.specs.Folder.{Remove, files_of}
use Rattle.sw_disk.specs.Runs.{Runs, refusal_of}
use Rattle.sw_diskfile.specs.Calls.{purge_calls}
use Rattle.sw_diskfile.specs.Changes.{IsMadeStable, IfBothTold}
use Rattle.sw_diskfile.specs.Normal.{AreObsolete, IsTidied}
use Rattle.sw_diskfile.proofs.CallLists.{purge_alone, makes_purge}
use Rattle.sw_diskfile.proofs.Keeping.{keeps, keeps_removed, tidied}
use Rattle.sw_diskfile.proofs.Outcomes.{keeps_run, all_stand, changes_run, on_ok, only_fails, stable_run}
use Rattle.sw_diskfile.proofs.Removing.{no_names, removals, some_purge}
use Rattle.sw_diskfile.proofs.purging.purge.Goals as goal

pub returns-clause-changes : goal.returns-clause-changes
returns-clause-changes g c =
    let folder = c.args.folder.now in
    let texts = texts_of c.args.obsolete.now in
    let disk = c.args.disk.now in
    changes_run g.D.Disk.seen g.D.Disk.left_since folder (purge_calls folder texts) (map Remove texts) (makes_purge folder texts) disk c.purge_by_calls.new.disk (refusal_of c.purge_by_calls.result)
    (g.met.D.Disk.now disk folder) (g.met.D.Disk.only_now disk folder) (λ since later image. g.met.D.Disk.earlier disk since later folder image)
    c.purge_by_calls.ensures.runs (λ reason is other. absurd (other (only_fails c.purge_by_calls.result reason c.purge_by_calls.ensures.cause is)))

pub returns-clause-tidied : goal.returns-clause-tidied
returns-clause-tidied g c =
    let folder = c.args.folder.now in
    let texts = texts_of c.args.obsolete.now in
    on_ok c.purge_by_calls.result (IfBothTold (g.D.Disk.seen c.args.disk.now) (g.D.Disk.seen c.purge_by_calls.new.disk) folder (IsTidied c.args.is_primary)) (λ none.
    all_stand g.D.Disk.seen g.D.Disk.left_since folder c.args.disk.now c.purge_by_calls.new.disk (map Remove texts) (refusal_of c.purge_by_calls.result)
    (λ before. AreObsolete c.args.is_primary (names_of (files_of before)) texts) (IsTidied c.args.is_primary) none (returns-clause-changes g c) c.requires.obsolete
    (tidied c.args.is_primary texts))

pub returns-clause-keeps : goal.returns-clause-keeps
returns-clause-keeps g c =
    let folder = c.args.folder.now in
    let disk = c.args.disk.now in
    let texts = texts_of c.args.obsolete.now in
    keeps c.args.is_primary (λ files. AreObsolete c.args.is_primary (names_of files) texts) (map Remove texts) (keeps_removed c.args.is_primary texts) g.D.Disk.seen g.D.Disk.left_since folder disk c.purge_by_calls.new.disk (refusal_of c.purge_by_calls.result) c.requires.obsolete
    (g.met.D.Disk.now disk folder) (λ since later image. g.met.D.Disk.earlier disk since later folder image) (returns-clause-changes g c)

pub returns-clause-stable : goal.returns-clause-stable
returns-clause-stable g c =
    let folder = c.args.folder.now in
    let names = c.args.obsolete.now in
    on_ok c.purge_by_calls.result (names ≢ [] → IfBothTold (g.D.Disk.seen c.args.disk.now) (g.D.Disk.seen c.purge_by_calls.new.disk) folder IsMadeStable) (λ none some.
    stable_run g.D.Disk.seen g.D.Disk.left_since folder c.args.disk.now c.purge_by_calls.new.disk (removals folder names) (map Remove (texts_of names)) (refusal_of c.purge_by_calls.result)
    (subst (λ (l : List Call). Runs g.D.Disk.seen g.D.Disk.left_since l None c.args.disk.now c.purge_by_calls.new.disk) (some_purge folder names (λ none. some (no_names names none)))
    (subst (λ r. Runs g.D.Disk.seen g.D.Disk.left_since (purge_calls folder (texts_of names)) r c.args.disk.now c.purge_by_calls.new.disk) none c.purge_by_calls.ensures.runs)) (returns-clause-changes g c))

pub returns-clause-others : goal.returns-clause-others
returns-clause-others g c =
    let folder = c.args.folder.now in
    let disk = c.args.disk.now in
    keeps_run g.D.Disk.seen g.D.Disk.left_since (λ name. name ≢ folder) (purge_calls folder (texts_of c.args.obsolete.now)) (λ name differs. purge_alone folder name differs (texts_of c.args.obsolete.now)) disk c.purge_by_calls.new.disk
    (g.met.D.Disk.now disk) (λ since later name image. g.met.D.Disk.earlier disk since later name image) (refusal_of c.purge_by_calls.result) c.purge_by_calls.ensures.runs
