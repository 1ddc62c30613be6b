use Rattle.std.proofs.Common.{List}
use Rattle.sw_types.specs.Head.{Pair}
use Rattle.sw_archive.specs.Pairs.{AreFaultless}
use Rattle.sw_archive.proofs.head_text.are_pairs.Given as goal

abbrev pub invariant-loop-position : goal.invariant-loop-position
invariant-loop-position l = (pairs : List Pair) × AreFaultless l.bytes l.position l.room pairs l.rest
