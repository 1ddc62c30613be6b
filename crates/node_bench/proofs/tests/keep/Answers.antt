use Rattle.std.proofs.Common.{List, ℕ, Bor, sym, ◌∙◌}
use Rattle.sw_memdisk.proofs.FoundFiles.{is_missing}
use Rattle.node_bench.proofs.tests.keep.Goals as goal

pub publish-requires-clause-new : goal.publish-requires-clause-new
publish-requires-clause-new c =
    is_missing c.sync_tmp.new.self c.args.folder.now c.args.name.now (λ (bytes : Bor (List ℕ)). bytes.now) c.file.result c.file.ensures (sym c.is_some.ensures ∙ c.if-is_some.false)
