use Rattle.std.proofs.Common.{◌∷◌, [], ◌++◌, ◌∙◌, ap₂, sym, zero-add}
use Rattle.std.proofs.lemmas.List.FromFn.{map-range_with_len_more}
use Rattle.sw_cauchy.specs.Stripe.{segment_fragment}
use Rattle.code_bench.proofs.plain.encode_plainly.Goals as goal

pub loop-i-preserved : goal.loop-i-preserved
loop-i-preserved c =
    c.in_ok-push.ensures.items
    ∙ ap₂ (λ before new. before ++ new ∷ []) c.loop-i.invariant c.in_ok-plain_fragment.ensures
    ∙ sym (map-range_with_len_more (segment_fragment c.args.code.k c.args.segment.now) 0 c.loop-i.i c.loop-i.i (zero-add c.loop-i.i))
