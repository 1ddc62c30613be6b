use Rattle.std.proofs.Common.{◌++◌, ◌∙◌, List, ℕ, [], refl, sym, ap, arith, rules, append_assoc, length-append}
use Rattle.std.proofs.lemmas.List.{append-nil}
use Rattle.sw_cauchy.specs.Stripe.{fragment, fragment_width}
use Rattle.sw_archive.proofs.Decodings.{all_left, fragments_at, index_below, next_left, next_reached, next_stop, none_reached, rebuilt}
use Rattle.sw_archive.proofs.Objects.{some_together}
use Rattle.sw_archive.proofs.decoding.rebuild_payload.Goals as goal

pub segments-init : goal.segments-init
segments-init c = record {
  code = search rules;
  part = record {
    reached = none_reached c.layout_of-layout.result;
    fragments = [];
    appended = sym (append-nil c.args.out.now.items);
    count = refl;
    left = all_left c.layout_of-layout.result c.args.archives.now (fragments_at c.layout_of-layout.result c.args.index) c.layout_of-layout.ensures;
  };
}

pub rebuild_fragment-requires-clause-reach : goal.rebuild_fragment-requires-clause-reach
rebuild_fragment-requires-clause-reach c =
    next_stop c.layout_of-layout.result c.args.archives.now c.segments.done c.segments.offset c.min-count.result _ c.segments-test.true c.min-count.ensures refl c.layout_of-layout.ensures.size c.segments.invariant.part.reached

pub rebuild_fragment-requires-clause-index : goal.rebuild_fragment-requires-clause-index
rebuild_fragment-requires-clause-index c = index_below c.layout_of-layout.result c.args.archives.now c.args.index c.layout_of-layout.ensures c.requires.index

pub segments-preserved : goal.segments-preserved
segments-preserved c =
    let layout = c.layout_of-layout.result in
    let archives = c.args.archives.now in
    let part = c.segments.invariant.part in
    let next = c.in_ok-fragment.fragment in
    let width = c.len-offset.ensures ∙ c.in_ok-fragment.ensures.length in
    record {
      code = c.in_ok-fragment.ensures.code;
      part = record {
        reached = next_reached layout archives c.segments.done c.segments.offset c.min-count.result c.len-offset.result c.segments-test.true c.min-count.ensures width c.layout_of-layout.ensures.size part.reached;
        fragments = part.fragments ++ next;
        appended = c.in_ok-extend_from_slice.ensures.items ∙ ap (λ (bytes : List ℕ). c.segments.out.items ++ bytes) c.as_slice.ensures ∙ ap (λ (bytes : List ℕ). bytes ++ next) part.appended
            ∙ append_assoc c.args.out.now.items part.fragments next;
        count = length-append part.fragments next ∙ omega (arith, part.count, c.len-offset.ensures);
        left = λ pieces of.
            next_left layout archives c.segments.done c.segments.offset c.min-count.result c.len-offset.result c.segments-test.true c.min-count.ensures width (fragments_at layout c.args.index)
            (λ count first. fragment layout.code.k (fragment_width layout.code.k count) first c.args.index) part.fragments (part.fragments ++ next) pieces (λ n first others. refl)
            (λ first bytes whole have. ap (λ (these : List ℕ). part.fragments ++ these) (c.in_ok-fragment.ensures.decoded first bytes whole have)) (part.left pieces of);
      };
    }

pub returns : goal.returns
returns c =
    let found = some_together c.args.archives.now c.requires.enough c.requires.together in
    rebuilt c.layout_of-layout.result c.args.archives.now c.args.index c.segments.done c.segments.offset _ _ c.layout_of-layout.ensures c.segments.invariant.part c.segments-test.false found.0 found.1
