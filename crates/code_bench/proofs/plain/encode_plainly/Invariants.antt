use Rattle.std.proofs.Common.{◌≡◌}
use Rattle.sw_cauchy.specs.Stripe.{segment_fragments}
use Rattle.code_bench.proofs.plain.encode_plainly.Given as goal

abbrev pub invariant-loop-i : goal.invariant-loop-i
invariant-loop-i l = l.fragments.items ≡ segment_fragments l.code.k l.i l.segment
