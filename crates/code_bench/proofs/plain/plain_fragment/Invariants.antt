use Rattle.std.proofs.Common.{◌≡◌, take}
use Rattle.sw_cauchy.specs.Stripe.{segment_fragment}
use Rattle.code_bench.proofs.plain.plain_fragment.Given as goal

abbrev pub invariant-loop-position : goal.invariant-loop-position
invariant-loop-position l = l.bytes.items ≡ take l.position (segment_fragment l.code.k l.segment l.i)
