use Rattle.std.proofs.Common.{rules, ◌≡◌, ℕ, ◌+◌, ◌*◌, ◌<◌, ◌≤◌, List, Result, IfOk, length, map, take, refl, sym, subst, arith}
use Rattle.std.specs.List.{All, range_with_len}
use Rattle.std.proofs.lemmas.List.FromFn.{length-map-range_with_len, get_or-map-range_with_len}
use Rattle.sw_words.specs.Bytes.{IsBytes}
use Rattle.sw_cauchy.specs.Share.{AreFragments, GatherModel, Share}
use Rattle.sw_cauchy.specs.Stripe.{segment_fragment}
use Rattle.sw_cauchy.proofs.Fragments.{decoded_segment}
use Rattle.measuring.specs.Gathered.{gathered_from, segment_share}
use Rattle.code_bench.proofs.trial.decode_last.Goals as goal

-- the last fragments are fragments of the segment
last_fragments : (k m : ℕ) (segment : List ℕ) (count : ℕ) → All (λ (share : Share). share.bytes ≡ segment_fragment k segment share.index) (map (segment_share k segment) (range_with_len m count))
last_fragments k m segment count t other h =
    let within : t < count = omega (arith, length-map-range_with_len (segment_share k segment) m count) in
    subst (λ (share : Share). share.bytes ≡ segment_fragment k segment share.index) (sym (get_or-map-range_with_len (segment_share k segment) m count t (m + t) other within refl)) refl

-- what is decoded from them is the segment
last_decoded : {E : Type 0} (result : Result (List ℕ) E) (k m : ℕ) (segment : List ℕ) (gather : GatherModel) → 1 ≤ k → IsBytes segment → gather ≡ gathered_from k m segment m k
    → ((pieces : List ℕ) → IsBytes pieces → length pieces ≡ gather.k * gather.width → AreFragments gather.k gather.width pieces gather.shares
    → IfOk result (λ decoded. decoded ≡ take (length segment) pieces))
    → IfOk result (λ decoded. decoded ≡ segment)
last_decoded result k m segment gather some bytes gathered decodes =
    decoded_segment result (gathered_from k m segment m k) segment (length segment) some bytes refl refl (last_fragments k m segment k)
    (subst (λ (g : GatherModel). (pieces : List ℕ) → IsBytes pieces → length pieces ≡ g.k * g.width → AreFragments g.k g.width pieces g.shares
    → IfOk result (λ decoded. decoded ≡ take (length segment) pieces)) gathered decodes)

pub returns : goal.returns
returns c =
    let bytes : IsBytes c.args.segment.now = search rules in
    last_decoded c.finish.result c.args.code.k c.args.code.m c.args.segment.now c.in_ok-gather.gather c.args.code.some_data bytes c.in_ok-gather.ensures.from c.finish.ensures.decoded
