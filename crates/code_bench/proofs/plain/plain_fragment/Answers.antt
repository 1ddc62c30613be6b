use Rattle.std.proofs.Common.{◌∷◌, [], ◌++◌, ◌∙◌, ap₂, sym, arith}
use Rattle.std.proofs.lemmas.List.{take_all, take_more}
use Rattle.sw_cauchy.specs.Stripe.{segment_fragment}
use Rattle.sw_cauchy.proofs.Fragments.{length-segment_fragment}
use Rattle.code_bench.proofs.plain.plain_fragment.Goals as goal

pub loop-position-preserved : goal.loop-position-preserved
loop-position-preserved c =
    let k = c.args.code.k in
    let segment = c.args.segment.now in
    c.in_ok-push.ensures.items
    ∙ ap₂ (λ before new. before ++ new ∷ []) c.loop-position.invariant c.fragment_byte.ensures
    ∙ sym (take_more (segment_fragment k segment c.args.i) c.loop-position.position 0 (omega (arith, length-segment_fragment k segment c.args.i)))

pub returns : goal.returns
returns c =
    let k = c.args.code.k in
    let segment = c.args.segment.now in
    c.from.ensures ∙ c.loop-position.invariant
    ∙ take_all c.loop-position.position (segment_fragment k segment c.args.i) (omega (arith, length-segment_fragment k segment c.args.i))
