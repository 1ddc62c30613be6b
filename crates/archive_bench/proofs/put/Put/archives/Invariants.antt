use Rattle.std.proofs.Common.{◌≡◌}
use Rattle.archive_bench.specs.Archives.{archives_of}
use Rattle.archive_bench.proofs.put.Put.archives.Given as goal

abbrev pub invariant-loop-index : goal.invariant-loop-index
invariant-loop-index l = l.archives.items ≡ archives_of l.self l.index
