use Rattle.std.proofs.lemmas.List.Edits.{map_over_more}
use Rattle.sw_memdisk.specs.Held.{held_renamed}
use Rattle.sw_memdisk.proofs.held.rename_all.Goals as goal

pub loop-held-preserved : goal.loop-held-preserved
loop-held-preserved c = rw (c.renamed.ensures, ← c.held-item.is) (map_over_more (held_renamed c.args.from.now c.args.to.now) c.args.files.now c.loop-held.files c.loop-held.held-index c.held-item.result c.loop-held-test.true c.loop-held.invariant c.held-item.is)
