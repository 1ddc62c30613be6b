use Rattle.std.proofs.Common.{◌≡◌, ◌∷◌, [], ◌++◌, ◌-◌, ◌∙◌, ap, ap₂, sym, map, length, arith}
use Rattle.std.specs.List.{range_with_len}
use Rattle.std.proofs.lemmas.List.{take_at}
use Rattle.std.proofs.lemmas.List.FromFn.{map-range_with_len_more}
use Rattle.sw_cauchy.specs.Stripe.{segment_fragment}
use Rattle.sw_cauchy.proofs.Fragments.{length-segment_fragment}
use Rattle.code_bench.proofs.parity.encode_parity.Goals as goal

pub loop-index-preserved : goal.loop-index-preserved
loop-index-preserved c =
    let k = c.args.code.k in
    let index = c.loop-index.index in
    let segment = c.args.segment.now in
    let kept = c.loop-index.invariant in
    let made : c.from.result ≡ segment_fragment k segment index =
    c.from.ensures ∙ take_at c.write_fragment.new.fragment _ _ (ap length c.write_fragment.ensures ∙ length-segment_fragment k segment index ∙ sym c.fragment_width-width.ensures ∙ sym c.in_ok-fragment.ensures.len)
    ∙ c.write_fragment.ensures in
    record {
      from = omega (arith, kept.from);
      made = c.in_ok-push.ensures.items
          ∙ ap₂ (λ before new. before ++ new ∷ []) kept.made made
          ∙ sym (map-range_with_len_more (segment_fragment k segment) k (index - k) index (omega (arith, kept.from)))
          ∙ ap (λ n. map (segment_fragment k segment) (range_with_len k n)) (omega (arith, kept.from));
    }

pub returns : goal.returns
returns c =
    let k = c.args.code.k in
    let all : c.loop-index.index - k ≡ c.args.code.m = omega arith in
    c.loop-index.invariant.made ∙ ap (λ n. map (segment_fragment k c.args.segment.now) (range_with_len k n)) all
