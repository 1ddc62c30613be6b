use Rattle.std.proofs.Common.{[], refl, ◌∷◌}
use Rattle.std.proofs.lemmas.Result.{err_from_is_err_and}
use Rattle.std.specs.Prelude.{⊤}
use Rattle.sw_disk.specs.Calls.{ReadFile}
use Rattle.sw_disk.specs.Runs.{refusal_of}
use Rattle.sw_disk.specs.declared.refusal.DiskRefusal.TheVariants.{NoMemory}
use Rattle.sw_hashpath.specs.FileName.{file_name_text}
use Rattle.sw_hashpath.specs.declared.file_name.FileName.TheVariants.{Data}
use Rattle.sw_diskfile.proofs.Begun.{unbegun}
use Rattle.sw_diskfile.proofs.FileTexts.{short_entry}
use Rattle.sw_diskfile.proofs.Outcomes.{keeps_run}
use Rattle.sw_diskfile.proofs.looking.fetch.Goals as goal

pub returns-in_err-text-clause-runs : goal.returns-in_err-text-clause-runs
returns-in_err-text-clause-runs g c =
    let p = err_from_is_err_and c.from_residual.result c.from_residual.ensures.1 in
    let entry = c.args.entry in
    rw (p.1, p.2) (unbegun g.D.Disk.seen g.D.Disk.left_since (ReadFile c.args.folder.now (file_name_text (Data entry.stamp entry.index entry.durable))) [] NoMemory c.args.disk.now (λ is. cc))

pub read-requires-clause-name : goal.read-requires-clause-name
read-requires-clause-name g c =
    let entry = c.args.entry in
    rw (c.as_str.ensures.value, c.in_ok-text.ensures) (short_entry entry.stamp entry.index entry.durable c.requires.index)

pub returns-clause-kept : goal.returns-clause-kept
returns-clause-kept g c =
    let disk = c.args.disk.now in
    keeps_run g.D.Disk.seen g.D.Disk.left_since (λ _. ⊤) (ReadFile c.args.folder.now c.as_str.result.now ∷ []) (λ name _ temporary. refl) disk c.read.new.self
    (g.met.D.Disk.now disk) (λ since later name image. g.met.D.Disk.earlier disk since later name image) (refusal_of c.read.result) c.read.ensures.runs
