use Rattle.std.proofs.Common.{[], List, None, Some, Global, String, refl, subst, ◌∷◌}
use Rattle.std.specs.Prelude.{⊤}
use Rattle.sw_disk.specs.Answers.{IsListing, names_of, texts_of}
use Rattle.sw_disk.specs.Calls.{ListNames}
use Rattle.sw_disk.specs.Folder.{files_of}
use Rattle.sw_disk.proofs.Chains.{told_map}
use Rattle.sw_hashdir.specs.Directory.{IsDirectory}
use Rattle.sw_diskfile.specs.Names.{IsDirectoryOf}
use Rattle.sw_diskfile.proofs.Listings.{listed_directory}
use Rattle.sw_diskfile.proofs.Outcomes.{keeps_run}
use Rattle.sw_diskfile.proofs.looking.look.Goals as goal

pub returns-in_err-texts-clause-kept : goal.returns-in_err-texts-clause-kept
returns-in_err-texts-clause-kept g c =
    let disk = c.args.disk.now in
    keeps_run g.D.Disk.seen g.D.Disk.left_since (λ _. ⊤) (ListNames c.args.folder.now ∷ []) (λ name _ temporary. refl) disk c.list.new.self
    (g.met.D.Disk.now disk) (λ since later name image. g.met.D.Disk.earlier disk since later name image) (Some c.in_err-texts.field-0.0) c.in_err-texts.ensures.runs

pub returns-in_err-of-clause-kept : goal.returns-in_err-of-clause-kept
returns-in_err-of-clause-kept g c =
    let disk = c.args.disk.now in
    keeps_run g.D.Disk.seen g.D.Disk.left_since (λ _. ⊤) (ListNames c.args.folder.now ∷ []) (λ name _ temporary. refl) disk c.list.new.self
    (g.met.D.Disk.now disk) (λ since later name image. g.met.D.Disk.earlier disk since later name image) None c.in_ok-texts.ensures.runs

pub returns-clause-kept : goal.returns-clause-kept
returns-clause-kept g c =
    let disk = c.args.disk.now in
    keeps_run g.D.Disk.seen g.D.Disk.left_since (λ _. ⊤) (ListNames c.args.folder.now ∷ []) (λ name _ temporary. refl) disk c.list.new.self
    (g.met.D.Disk.now disk) (λ since later name image. g.met.D.Disk.earlier disk since later name image) None c.in_ok-texts.ensures.runs

pub returns-clause-listed : goal.returns-clause-listed
returns-clause-listed g c = (
  texts_of c.in_ok-texts.texts.items,
  c.in_ok-texts.ensures.names,
  subst (λ (texts : List (String Global)). IsDirectory (texts_of texts) c.in_ok-of.field-0) c.deref.ensures.value c.in_ok-of.ensures,
)

pub returns-clause-directory : goal.returns-clause-directory
returns-clause-directory g c =
    told_map (g.D.Disk.seen c.args.disk.now).told (λ s. IsListing (names_of (files_of (s.folder c.args.folder.now))) (texts_of c.in_ok-texts.texts.items)) (λ s. IsDirectoryOf (s.folder c.args.folder.now) c.in_ok-of.field-0) c.in_ok-texts.ensures.names
    (λ s is. listed_directory (names_of (files_of (s.folder c.args.folder.now))) (texts_of c.in_ok-texts.texts.items) c.in_ok-of.field-0 is
    (subst (λ (texts : List (String Global)). IsDirectory (texts_of texts) c.in_ok-of.field-0) c.deref.ensures.value c.in_ok-of.ensures))
