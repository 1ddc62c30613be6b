use Rattle.std.proofs.Common.{List, ℕ, Bor, subst, sym, ◌∙◌}
use Rattle.sw_disk.specs.Answers.{HasFile, LacksFile}
use Rattle.sw_memdisk.specs.Memory.{state_of}
use Rattle.sw_memdisk.proofs.FoundFiles.{is_found, is_missing}
use Rattle.disk_bench.proofs.folder.has_file.Goals as goal

pub returns-clause-there : goal.returns-clause-there
returns-clause-there c = λ there.
    subst (HasFile (state_of c.args.disk.now) c.args.folder.now) (c.as_str.ensures.value ∙ c.in_ok-text.ensures)
    (is_found c.args.disk.now c.args.folder.now c.as_str.result.now (λ (bytes : Bor (List ℕ)). bytes.now) c.file.result c.file.ensures (sym c.is_some.ensures ∙ there))

pub returns-clause-lacks : goal.returns-clause-lacks
returns-clause-lacks c = λ lacks.
    subst (LacksFile (state_of c.args.disk.now) c.args.folder.now) (c.as_str.ensures.value ∙ c.in_ok-text.ensures)
    (is_missing c.args.disk.now c.args.folder.now c.as_str.result.now (λ (bytes : Bor (List ℕ)). bytes.now) c.file.result c.file.ensures (sym c.is_some.ensures ∙ lacks))
