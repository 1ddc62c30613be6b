use Rattle.std.proofs.Common.{List, ℕ, Bor, ◌∷◌, [], sym, ◌∙◌}
use Rattle.sw_memdisk.proofs.FoundFiles.{is_found}
use Rattle.sw_memdisk.proofs.tests.remove.Goals as goal

pub remove-requires-clause-there : goal.remove-requires-clause-there
remove-requires-clause-there c =
    is_found c.ready.new.self (102 ∷ []) c.args.name.now (λ (bytes : Bor (List ℕ)). bytes.now) c.file.result c.file.ensures (sym c.is_some.ensures ∙ c.if-not-is_some.false)
