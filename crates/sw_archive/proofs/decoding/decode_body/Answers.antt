use Rattle.std.proofs.Common.{◌≡◌, ◌≤◌, ◌<◌, ◌-◌, ◌+◌, ◌∙◌, List, ℕ, length, min, take, refl, sym, ap, subst, arith, rules}
use Rattle.sw_cauchy.specs.Stripe.{fragment_width}
use Rattle.sw_archive.specs.Decoding.{AreLeft, AreReached, laid_length}
use Rattle.sw_archive.specs.Pieces.{IsDecoded, joined_segments}
use Rattle.sw_archive.proofs.Decodings.{all_left, body_decoded, laid_length-le, next_left, next_reached, next_stop, none_reached}
use Rattle.sw_archive.proofs.Objects.{some_together}
use Rattle.sw_archive.proofs.decoding.decode_body.Goals as goal
use Rattle.sw_archive.proofs.decoding.decode_body.Goals.{After-min-count}

-- there is a next segment, of so many bytes
more : (c : After-min-count) → length c.segments.body.items < c.layout_of-layout.result.total
more c = omega (arith, c.segments-test.true, c.len.ensures, c.segments.body.ok.0)

count_is : (c : After-min-count) → c.min-count.result ≡ min c.layout_of-layout.result.size (c.layout_of-layout.result.total - length c.segments.body.items)
count_is c = c.min-count.ensures ∙ ap (λ n. min c.layout_of-layout.result.size (c.layout_of-layout.result.total - n)) (c.len-in-segments.ensures ∙ c.segments.body.ok.0)

pub segments-init : goal.segments-init
segments-init c =
    let layout = c.layout_of-layout.result in
    let empty = sym c.in_ok-body.ensures.items in
    record {
      code = search rules;
      reached = subst (λ n. AreReached layout n 0) (ap length empty) (none_reached layout);
      left = λ pieces of.
          subst (λ (items : List ℕ). AreLeft layout c.args.archives.now (joined_segments layout.size) (length items) 0 items pieces) empty
          (all_left layout c.args.archives.now (joined_segments layout.size) c.layout_of-layout.ensures pieces of);
    }

stop : (c : After-min-count) → c.segments.offset + fragment_width c.layout_of-layout.result.code.k c.min-count.result ≤ laid_length c.layout_of-layout.result
stop c =
    next_stop c.layout_of-layout.result c.args.archives.now (length c.segments.body.items) c.segments.offset c.min-count.result _ (more c) (count_is c) refl c.layout_of-layout.ensures.size c.segments.invariant.reached

pub push_segment-requires-clause-reach : goal.push_segment-requires-clause-reach
push_segment-requires-clause-reach c = stop (goal.at.push_segment-requires-clause-reach c).After-min-count

pub overflow_add-offset : goal.overflow_add-offset
overflow_add-offset c =
    omega (arith, stop (goal.at.overflow_add-offset c).After-min-count, laid_length-le c.layout_of-layout.result c.args.archives.now c.layout_of-layout.ensures, c.layout_of-layout.ensures.total, c.fragment_width-offset.ensures)

pub segments-preserved : goal.segments-preserved
segments-preserved c =
    let layout = c.layout_of-layout.result in
    let archives = c.args.archives.now in
    let before = c.segments.body.items in
    let after = c.push_segment.new.out.items in
    let step = (goal.at.segments-preserved c).After-min-count in
    let long : length before + c.min-count.result ≡ length after = sym c.in_ok-push_segment.ensures.length in
    let width = c.fragment_width-offset.ensures in
    let stop = c.segments.offset + c.fragment_width-offset.result in
    record {
      code = c.in_ok-push_segment.ensures.code;
      reached = subst (λ n. AreReached layout n stop) long
          (next_reached layout archives (length before) c.segments.offset c.min-count.result _ (more step) (count_is step) width c.layout_of-layout.ensures.size c.segments.invariant.reached);
      left = λ pieces of.
          subst (λ n. AreLeft layout archives (joined_segments layout.size) n stop after pieces) long
          (next_left layout archives (length before) c.segments.offset c.min-count.result _ (more step) (count_is step) width (joined_segments layout.size) take before after pieces
          (λ n first others. refl) c.in_ok-push_segment.ensures.decoded (c.segments.invariant.left pieces of));
    }

pub returns-clause-length : goal.returns-clause-length
returns-clause-length c =
    let layout = c.layout_of-layout.result in
    let whole : length c.from.result ≡ layout.total =
    ap length c.from.ensures ∙ omega (arith, c.segments-test.false, c.len.ensures, c.segments.body.ok.0, c.segments.invariant.reached.within) in
    λ position other below. whole ∙ sym (c.layout_of-layout.ensures.alike position other below).3

pub returns-clause-decoded : goal.returns-clause-decoded
returns-clause-decoded c =
    let over : c.layout_of-layout.result.total ≤ length c.segments.body.items = omega (arith, c.segments-test.false, c.len.ensures, c.segments.body.ok.0) in
    let found = some_together c.args.archives.now c.requires.enough c.requires.together in
    subst (IsDecoded c.args.archives.now) (sym c.from.ensures)
    (body_decoded c.layout_of-layout.result c.args.archives.now _ c.segments.offset _ c.layout_of-layout.ensures over c.segments.invariant.left found.0 found.1)
