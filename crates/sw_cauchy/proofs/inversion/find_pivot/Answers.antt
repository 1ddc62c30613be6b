use Rattle.std.proofs.Common.{arith, rules}
use Rattle.sw_words.specs.Bytes.{IsBytes}
use Rattle.sw_cauchy.proofs.Pivot.{pivot_exists}
use Rattle.sw_cauchy.proofs.inversion.find_pivot.Goals as goal

pub unreachable-requires : goal.unreachable-requires
unreachable-requires c =
    let bytes : IsBytes c.args.current.now = search rules in
    pivot_exists c.args.k c.args.column c.args.current.now c.requires.within bytes c.requires.before
    (λ i from within. c.loop-row.invariant i from (omega arith)) c.requires.independent
