use Rattle.std.proofs.Common.{List, ℕ, Bor, ◌∷◌, [], sym, ◌∙◌}
use Rattle.sw_memdisk.proofs.FoundFiles.{is_found}
use Rattle.sw_memdisk.proofs.tests.read.Goals as goal

pub read-requires-clause-there : goal.read-requires-clause-there
read-requires-clause-there c =
    is_found c.args.disk.now (102 ∷ []) c.args.name.now (λ (bytes : Bor (List ℕ)). bytes.now) c.file.result c.file.ensures (sym c.is_some.ensures ∙ c.if-not-is_some.false)
