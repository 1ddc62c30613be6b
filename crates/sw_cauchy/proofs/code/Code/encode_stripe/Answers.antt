use Rattle.std.proofs.Common.{◌≡◌, ◌∷◌, [], ◌++◌, ◌∙◌, ap, ap₂, sym, length, zero-add}
use Rattle.std.proofs.lemmas.List.{take_at}
use Rattle.std.proofs.lemmas.List.FromFn.{map-range_with_len_more}
use Rattle.sw_cauchy.specs.Stripe.{segment_fragment}
use Rattle.sw_cauchy.proofs.Fragments.{length-segment_fragment}
use Rattle.sw_cauchy.proofs.code.Code.encode_stripe.Goals as goal

pub loop-index-preserved : goal.loop-index-preserved
loop-index-preserved c =
    let k = c.args.self.now.k in
    let index = c.loop-index.index in
    let segment = c.args.segment.now in
    let made : c.from.result ≡ segment_fragment k segment index =
    c.from.ensures ∙ take_at c.write_fragment.new.fragment _ _ (ap length c.write_fragment.ensures ∙ length-segment_fragment k segment index ∙ sym c.fragment_width-width.ensures ∙ sym c.in_ok-fragment.ensures.len)
    ∙ c.write_fragment.ensures in
    c.in_ok-push.ensures.items
    ∙ ap₂ (λ before new. before ++ new ∷ []) c.loop-index.invariant made
    ∙ sym (map-range_with_len_more (segment_fragment k segment) 0 index index (zero-add index))
