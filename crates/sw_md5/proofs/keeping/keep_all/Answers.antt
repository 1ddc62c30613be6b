use Rattle.std.proofs.Common.{rules, ◌≡◌, ◌≢◌, ℕ, ◌+◌, ◌-◌, ◌<◌, ◌≤◌, ◌++◌, length, take, drop, map, set, length-set, get_or-set_other, get_or-set_same, below_more, ap, ap₂, sym, ◌∙◌, arith, length-drop}
use Rattle.std.proofs.lemmas.List.{length-take, length-take-le}
use Rattle.std.specs.Simd.Lanes.{chunk}
use Rattle.sw_md5.specs.Side.{item}
use Rattle.sw_md5.proofs.Pieces.{reaches, content_at}
use Rattle.sw_md5.proofs.keeping.keep_all.Goals as goal

pub slice_bounds-bytes-end : goal.slice_bounds-bytes-end
slice_bounds-bytes-end g c =
    let content = reaches g.P.Piece.content c.args.pieces.now c.index-pieces-index.result c.loop-index.index _ c.requires.reach c.loop-index-test.true c.index-pieces-index.is in
    let long : c.args.to ≤ length c.bytes.result.now = omega (arith, content, ap length c.bytes.ensures) in
    search rules

pub with_bytes-requires : goal.with_bytes-requires
with_bytes-requires g c = omega (arith, length-take (c.args.to - c.args.from) (drop c.args.from c.bytes.result.now))

pub loop-index-preserved : goal.loop-index-preserved
loop-index-preserved g c =
    let n = c.loop-index.index in
    let inv = c.loop-index.invariant in
    let size : ℕ = c.args.to - c.args.from in
    let contents = map g.P.Piece.content c.args.pieces.now in
    let lt : n < length c.loop-index.rests = omega (arith, inv.all) in
    let content = content_at g.P.Piece.content c.args.pieces.now c.index-pieces-index.result n c.loop-index-test.true c.index-pieces-index.is in
    let same : c.bytes.result.now ≡ item contents n = c.bytes.ensures ∙ sym content in
    let reach = reaches g.P.Piece.content c.args.pieces.now c.index-pieces-index.result n _ c.requires.reach c.loop-index-test.true c.index-pieces-index.is in
    let long : c.args.to ≤ length c.bytes.result.now = omega (arith, reach, ap length c.bytes.ensures) in
    let part : length (take size (drop c.args.from c.bytes.result.now)) ≡ size = length-take-le size (drop c.args.from c.bytes.result.now) (omega (arith, length-drop c.args.from c.bytes.result.now)) in
    let kept : take (c.args.used + size) c.with_bytes.result ≡ take c.args.used (item c.args.rests.now n) ++ chunk c.args.from size (item contents n) =
    ap (λ k. take (c.args.used + k) c.with_bytes.result) (sym part) ∙ c.with_bytes.ensures ∙ ap₂ (λ a b. take c.args.used a ++ chunk c.args.from size b) (inv.ahead n (omega arith)) same in
    record {
      all = length-set c.loop-index.rests _ _ ∙ inv.all;
      kept = below_more (λ i. take (c.args.used + size) (item (set c.loop-index.rests n c.with_bytes.result) i) ≡ take c.args.used (item c.args.rests.now i) ++ chunk c.args.from size (item contents i)) n
          (λ i h. let ne : i ≢ n = omega arith in rw get_or-set_other (inv.kept i h))
          (rw get_or-set_same kept);
      long = below_more (λ i. length (item (set c.loop-index.rests n c.with_bytes.result) i) ≡ 64) n
          (λ i h. let ne : i ≢ n = omega arith in rw get_or-set_other (inv.long i h))
          (rw get_or-set_same (search rules));
      ahead = λ i h. let ne : i ≢ n = omega arith in rw get_or-set_other (inv.ahead i (omega arith));
    }
