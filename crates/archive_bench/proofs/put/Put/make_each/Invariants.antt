use Rattle.std.proofs.Common.{◌≡◌}
use Rattle.archive_bench.specs.Archives.{lengths_of}
use Rattle.archive_bench.proofs.put.Put.make_each.Given as goal

abbrev pub invariant-loop-index : goal.invariant-loop-index
invariant-loop-index l = l.lengths.items ≡ lengths_of l.self l.index
