use Rattle.std.proofs.Common.{◌≡◌, ◌-◌, ◌<◌, length}
use Rattle.sw_cauchy.specs.Stripe.{fragment_width, segment_fragment}
use Rattle.archive_bench.proofs.alone.last_fragment.Given as goal

abbrev pub invariant-loop-index : goal.invariant-loop-index
invariant-loop-index l = record {
  width : length l.fragment.items ≡ fragment_width l.code.k (length l.segment);
  last : 0 < l.index → l.fragment.items ≡ segment_fragment l.code.k l.segment (l.index - 1);
}
