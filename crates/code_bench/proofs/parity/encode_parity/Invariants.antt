use Rattle.std.proofs.Common.{◌≡◌, ◌-◌, ◌≤◌, map}
use Rattle.std.specs.List.{range_with_len}
use Rattle.sw_cauchy.specs.Stripe.{segment_fragment}
use Rattle.code_bench.proofs.parity.encode_parity.Given as goal

abbrev pub invariant-loop-index : goal.invariant-loop-index
invariant-loop-index l = record {
  from : l.code.k ≤ l.index;
  made : l.fragments.items ≡ map (segment_fragment l.code.k l.segment) (range_with_len l.code.k (l.index - l.code.k));
}
