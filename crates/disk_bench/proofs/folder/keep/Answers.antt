use Rattle.std.proofs.Common.{List, ℕ, Bor, codes, sym, ◌∙◌}
use Rattle.sw_memdisk.proofs.FoundFiles.{is_missing}
use Rattle.disk_bench.proofs.folder.keep.Goals as goal

pub publish-requires-clause-new : goal.publish-requires-clause-new
publish-requires-clause-new c =
    is_missing c.sync_tmp.new.self (codes "objects/0/f72/900150983cd24fb0d6963f7d28e17f72") c.args.name.now (λ (bytes : Bor (List ℕ)). bytes.now) c.file.result c.file.ensures (sym c.is_some.ensures ∙ c.if-is_some.false)
