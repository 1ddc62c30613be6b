use Rattle.std.proofs.Common.{arith}
use Rattle.sw_archive.proofs.Heads.{pairs_fit, small}
use Rattle.sw_archive.proofs.parts.head_bytes.Goals as goal

pub overflow_cast-pairs : goal.overflow_cast-pairs
overflow_cast-pairs c = let bounds = small c.args.head.now c.pairs-pairs.ensures.sound in rw c.pairs-pairs.ensures.pairs (omega (arith, bounds.count))

pub push_pairs-requires : goal.push_pairs-requires
push_pairs-requires c = rw c.pairs-pairs.ensures.pairs (pairs_fit c.args.head.now c.pairs-pairs.ensures.sound)
