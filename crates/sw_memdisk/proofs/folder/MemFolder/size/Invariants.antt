use Rattle.std.proofs.Common.{◌≡◌, min, sum_by, take}
use Rattle.sw_words.specs.Counts.{last_count}
use Rattle.sw_memdisk.proofs.Readings.{held_size}
use Rattle.sw_memdisk.proofs.folder.MemFolder.size.Given as goal

abbrev pub invariant-loop-held : goal.invariant-loop-held
invariant-loop-held l = l.size ≡ min (sum_by (held_size l.self-inside.contents.items) (take l.held-index l.held-items)) last_count
