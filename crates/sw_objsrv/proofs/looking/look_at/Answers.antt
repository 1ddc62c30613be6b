use Rattle.std.proofs.Common.{ℕ, List, [], inl, subst, ◌∙◌}
use Rattle.std.proofs.lemmas.Result.{err_from_is_err_and}
use Rattle.sw_disk.specs.Calls.{ListNames}
use Rattle.sw_disk.specs.Runs.{IfTold}
use Rattle.sw_disk.specs.declared.refusal.DiskRefusal.TheVariants.{NoMemory}
use Rattle.sw_hashpath.specs.Place.{folder_of}
use Rattle.sw_hashpath.specs.declared.file_name.FileName.TheVariants.{Data}
use Rattle.sw_diskfile.specs.Names.{IsDirectoryOf}
use Rattle.sw_diskfile.proofs.Begun.{unbegun}
use Rattle.sw_objsrv.proofs.looking.look_at.Goals as goal

pub returns-in_err-folder-clause-runs : goal.returns-in_err-folder-clause-runs
returns-in_err-folder-clause-runs g c =
    let p = err_from_is_err_and c.from_residual.result c.from_residual.ensures.1 in
    rw (p.1, p.2) (inl (unbegun g.D.Disk.seen g.D.Disk.left_since (ListNames (folder_of c.args.place.now)) [] NoMemory c.args.disk.now (λ is. cc)))

pub invariant_of-result : goal.invariant_of-result
invariant_of-result g c = record { indexes = λ stamp index durable has. ((c.in_ok-dir.ensures.listed.2 (Data stamp index durable)).0 has).0.1 }

pub returns-clause-directory : goal.returns-clause-directory
returns-clause-directory g c =
    subst (λ (folder : List ℕ). IfTold (g.D.Disk.seen c.args.disk.now).told (λ state. IsDirectoryOf (state.folder folder) c.in_ok-dir.dir)) (c.deref.ensures ∙ c.in_ok-folder.ensures) c.in_ok-dir.ensures.directory
