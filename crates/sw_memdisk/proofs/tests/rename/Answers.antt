use Rattle.std.proofs.Common.{List, ℕ, Bor, ◌∷◌, [], sym, ◌∙◌}
use Rattle.sw_memdisk.proofs.FoundFiles.{is_found, is_missing}
use Rattle.sw_memdisk.proofs.tests.rename.Goals as goal

pub rename-requires-clause-there : goal.rename-requires-clause-there
rename-requires-clause-there c =
    is_found c.ready.new.self (102 ∷ []) c.args.from.now (λ (bytes : Bor (List ℕ)). bytes.now) c.file-2.result c.file-2.ensures (sym c.is_some-2.ensures ∙ c.if-not-is_some.false)

pub rename-requires-clause-new : goal.rename-requires-clause-new
rename-requires-clause-new c =
    is_missing c.ready.new.self (102 ∷ []) c.args.to.now (λ (bytes : Bor (List ℕ)). bytes.now) c.file.result c.file.ensures (sym c.is_some.ensures ∙ c.if-is_some.false)
