use Rattle.std.proofs.Common.{◌≡◌}
use Rattle.sw_cauchy.specs.Stripe.{segment_fragments}
use Rattle.sw_cauchy.proofs.code.Code.encode_stripe.Given as goal

abbrev pub invariant-loop-index : goal.invariant-loop-index
invariant-loop-index l = l.fragments.items ≡ segment_fragments l.self.k l.index l.segment
