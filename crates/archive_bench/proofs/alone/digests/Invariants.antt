use Rattle.std.proofs.Common.{◌≡◌, map, take}
use Rattle.md5.specs.Md5.{md5}
use Rattle.archive_bench.proofs.alone.digests.Given as goal

abbrev pub invariant-loop-piece : goal.invariant-loop-piece
invariant-loop-piece l = l.digests.items ≡ map md5 (take l.piece-index l.pieces)
