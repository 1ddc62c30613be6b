-- Each message goes on by its fragment of a segment.
use Rattle.std.proofs.Common.{◌≡◌, ◌+◌, ◌++◌, ℕ, List, map, length, sym, ap, subst, ◌∙◌, arith}
use Rattle.std.specs.List.{range_with_len}
use Rattle.std.specs.Slice.Iter.{chunks_rest}
use Rattle.std.proofs.lemmas.List.{append-nil, map-id, nil_from_length}
use Rattle.std.proofs.lemmas.List.FromFn.{length-map-range_with_len}
use Rattle.sw_cauchy.specs.Stripe.{fragment_width, segment_fragment}
use Rattle.sw_cauchy.proofs.Fragments.{length-segment_fragment}
use Rattle.sw_md5.specs.Side.{HaveOneLength}
use Rattle.sw_md5.specs.UnderWay.{HoldsMessages, joined}
use Rattle.sw_archive.specs.Put.{payload}
use Rattle.sw_archive.proofs.Payloads.{payload-nil, payload_added}
use Rattle.sw_archive.proofs.SideBySide.{HaveOneLength-map, all_gone_on, gone_on}
use Rattle.sw_archive.proofs.sealing.hash_payloads.Goals as goal
use Rattle.sw_archive.proofs.sealing.hash_payloads.Goals.{After-deref}

-- the fragments, by index
pieces_are : (c : After-deref) → c.deref.result.now ≡ map (segment_fragment c.args.code.k c.in-Some.segment.now) (range_with_len 0 (c.args.code.k + c.args.code.m))
pieces_are c = c.deref.ensures.value ∙ c.in_ok-fragments.ensures

pub update-requires-clause-one_each : goal.update-requires-clause-one_each
update-requires-clause-one_each c =
    ap length (pieces_are (goal.at.update-requires-clause-one_each c).After-deref)
    ∙ length-map-range_with_len (segment_fragment c.args.code.k c.in-Some.segment.now) 0 (c.args.code.k + c.args.code.m) ∙ sym c.loop-segment.invariant.count

pub update-requires-clause-alike : goal.update-requires-clause-alike
update-requires-clause-alike c =
    let segment = c.in-Some.segment.now in
    subst HaveOneLength (sym (map-id c.deref.result.now ∙ pieces_are (goal.at.update-requires-clause-alike c).After-deref))
    (HaveOneLength-map (segment_fragment c.args.code.k segment) (c.args.code.k + c.args.code.m) (fragment_width c.args.code.k (length segment)) (omega (arith, c.args.code.some_data))
    (length-segment_fragment c.args.code.k segment))

pub loop-segment-preserved : goal.loop-segment-preserved
loop-segment-preserved c =
    let steps = c.in-Some.ensures.steps in
    let k = c.args.code.k in
    let size = c.args.size in
    let segment = c.in-Some.segment.now in
    let invariant = c.loop-segment.invariant in
    record {
      size = steps.0 ∙ invariant.size;
      count = c.update.ensures.count ∙ invariant.count;
      held = λ message holds.
          let whole : ℕ → List ℕ = λ index. message index ++ payload k size c.args.body.now index in
          gone_on c.loop-segment.digests c.update.new.self (k + c.args.code.m) (segment_fragment k segment)
          (λ index. payload k size (chunks_rest c.loop-segment.segment-iterator) index) (λ index. payload k size (chunks_rest c.next.new.self) index) whole
          (invariant.held message holds)
          (λ messages held. subst (λ (pieces : List (List ℕ)). HoldsMessages c.update.new.self (joined messages pieces))
          (map-id c.deref.result.now ∙ pieces_are (goal.at.loop-segment-preserved c).After-deref) (c.update.ensures.goes_on messages held))
          (λ index out more grew so_far. payload_added k size _ _ segment _ out more (whole index) index c.requires.some invariant.size steps.1.0 steps.1.1 steps.1.2 grew so_far);
    }

pub returns : goal.returns
returns c message holds =
    let k = c.args.code.k in
    let none = nil_from_length _ c.in-None.ensures.steps.1.0 in
    all_gone_on c.loop-segment.digests (k + c.args.code.m) (λ index. payload k c.args.size (chunks_rest c.loop-segment.segment-iterator) index) (λ index. message index ++ payload k c.args.size c.args.body.now index)
    (c.loop-segment.invariant.held message holds)
    (λ index out is. sym (append-nil out) ∙ ap (λ (rest : List ℕ). out ++ rest) (sym (ap (λ (left : List ℕ). payload k c.args.size left index) none ∙ payload-nil k c.args.size index)) ∙ is)
