use Rattle.std.proofs.Common.{◌≡◌, ℕ, ◌∷◌, [], ◌++◌, ◌<◌, ◌≤◌, ◌+◌, ◌-◌, ◌∙◌, ◌≢◌, List, refl, ap, sym, subst, length, map, get_or, arith}
use Rattle.std.specs.List.{All, range_with_len}
use Rattle.std.proofs.lemmas.List.FromFn.{length-map-range_with_len, get_or-map-range_with_len, map-range_with_len_more}
use Rattle.sw_cauchy.specs.Share.{GatherModel, Share}
use Rattle.sw_cauchy.specs.Stripe.{segment_fragment, segment_fragments}
use Rattle.sw_cauchy.proofs.Fragments.{get_or-segment_fragments, length-segment_fragment, length-segment_fragments}
use Rattle.measuring.specs.Gathered.{gathered_from, segment_share}
use Rattle.measuring.proofs.gathering.gather_from.Goals as goal

-- the shares before an index have others
other_indices : (k first : ℕ) (segment : List ℕ) (count index : ℕ) → first + count ≡ index → All (λ (share : Share). share.index ≢ index) (map (segment_share k segment) (range_with_len first count))
other_indices k first segment count index reached t other h same =
    let within : t < count = omega (arith, length-map-range_with_len (segment_share k segment) first count) in
    let read = ap (λ (share : Share). share.index) (get_or-map-range_with_len (segment_share k segment) first count t (first + t) other within refl) in
    omega (arith, read, same)

-- one more share
gathered_more : (k m : ℕ) (segment bytes : List ℕ) (gather : GatherModel) (first index : ℕ) → first ≤ index → gather ≡ gathered_from k m segment first (index - first) → bytes ≡ segment_fragment k segment index
    → record gather { shares = gather.shares ++ record { index = index; bytes = bytes } ∷ [] } ≡ gathered_from k m segment first (index + 1 - first)
gathered_more k m segment bytes gather first index from gathered read =
    let share : List ℕ → Share = λ (these : List ℕ). record { index = index; bytes = these } in
    let shares = map (segment_share k segment) (range_with_len first (index - first)) in
    ap (λ (before : GatherModel). record before { shares = before.shares ++ share bytes ∷ [] }) gathered
    ∙ ap (λ (these : List Share). record (gathered_from k m segment first 0) { shares = these })
    (ap (λ (these : List ℕ). shares ++ share these ∷ []) read ∙ sym (map-range_with_len_more (segment_share k segment) first (index - first) index (omega (arith, from)))
    ∙ ap (λ n. map (segment_share k segment) (range_with_len first n)) (omega (arith, from)))

-- how many shares there are
count_of : (k m : ℕ) (segment : List ℕ) (gather : GatherModel) (first count : ℕ) → gather ≡ gathered_from k m segment first count → length gather.shares ≡ count
count_of k m segment gather first count gathered =
    ap (λ (these : GatherModel). length these.shares) gathered ∙ length-map-range_with_len (segment_share k segment) first count

-- the fragment that is read at an index
fragment_read : (k n : ℕ) (segment : List ℕ) (fragments : List (List ℕ)) (index : ℕ) (fragment : List ℕ) → fragments ≡ segment_fragments k n segment → index < n
    → fragment ≡ get_or fragments index fragment → fragment ≡ segment_fragment k segment index
fragment_read k n segment fragments index fragment made within read =
    read ∙ ap (λ (these : List (List ℕ)). get_or these index fragment) made ∙ get_or-segment_fragments k n segment index fragment within

-- an index of the loop is that of a fragment
index_below : (k m first index : ℕ) → first ≤ m → index < first + k → index < k + m
index_below k m first index few below = omega arith

pub bounds-fragments-index : goal.bounds-fragments-index
bounds-fragments-index c =
    let code = c.args.code in
    omega (
      arith,
      ap length c.requires.fragments,
      length-segment_fragments code.k (code.k + code.m) c.args.segment.now,
      index_below code.k code.m c.args.first c.loop-index.index c.requires.first c.loop-index-test.true,
    )

pub add-requires-clause-below : goal.add-requires-clause-below
add-requires-clause-below c =
    let code = c.args.code in
    let kept = c.loop-index.invariant.gathered in
    let below = index_below code.k code.m c.args.first c.loop-index.index c.requires.first c.loop-index-test.true in
    omega (arith, below, ap (λ (gather : GatherModel). gather.k) kept, ap (λ (gather : GatherModel). gather.m) kept)

pub add-requires-clause-new : goal.add-requires-clause-new
add-requires-clause-new c =
    let k = c.args.code.k in
    let first = c.args.first in
    let segment = c.args.segment.now in
    let index = c.loop-index.index in
    subst (λ (gather : GatherModel). All (λ (share : Share). share.index ≢ index) gather.shares) (sym c.loop-index.invariant.gathered)
    (other_indices k first segment (index - first) index (omega (arith, c.loop-index.invariant.from)))

pub add-requires-clause-width : goal.add-requires-clause-width
add-requires-clause-width c =
    let k = c.args.code.k in
    let m = c.args.code.m in
    let segment = c.args.segment.now in
    let index = c.loop-index.index in
    let below = index_below k m c.args.first index c.requires.first c.loop-index-test.true in
    ap length (c.as_slice.ensures ∙ fragment_read k (k + m) segment c.args.fragments.now index _ c.requires.fragments below c.index-fragments-index.is)
    ∙ length-segment_fragment k segment index ∙ sym (ap (λ (gather : GatherModel). gather.width) c.loop-index.invariant.gathered)

pub add-requires-clause-room : goal.add-requires-clause-room
add-requires-clause-room c =
    let kept = c.loop-index.invariant in
    let first = c.args.first in
    omega (
      arith,
      count_of c.args.code.k c.args.code.m c.args.segment.now c.loop-index.gather first (c.loop-index.index - first) kept.gathered,
      ap (λ (gather : GatherModel). gather.k) kept.gathered,
      c.loop-index-test.true,
      kept.from,
    )

pub loop-index-preserved : goal.loop-index-preserved
loop-index-preserved c =
    let k = c.args.code.k in
    let m = c.args.code.m in
    let segment = c.args.segment.now in
    let index = c.loop-index.index in
    let kept = c.loop-index.invariant in
    let below = index_below k m c.args.first index c.requires.first c.loop-index-test.true in
    record {
      from = omega (arith, kept.from);
      gathered = c.add.ensures ∙ gathered_more k m segment c.as_slice.result.now c.loop-index.gather c.args.first index kept.from kept.gathered
          (c.as_slice.ensures ∙ fragment_read k (k + m) segment c.args.fragments.now index _ c.requires.fragments below c.index-fragments-index.is);
    }

pub returns-clause-from : goal.returns-clause-from
returns-clause-from c =
    let last : c.loop-index.index - c.args.first ≡ c.args.code.k = omega arith in
    c.loop-index.invariant.gathered ∙ ap (gathered_from c.args.code.k c.args.code.m c.args.segment.now c.args.first) last

pub returns-clause-enough : goal.returns-clause-enough
returns-clause-enough c =
    let all = returns-clause-from c in
    count_of c.args.code.k c.args.code.m c.args.segment.now c.loop-index.gather c.args.first c.args.code.k all ∙ sym (ap (λ (gather : GatherModel). gather.k) all)
