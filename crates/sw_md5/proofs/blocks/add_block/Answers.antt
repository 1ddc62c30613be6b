use Rattle.md5.specs.Md5.{word_at}
use Rattle.std.proofs.Common.{set, map, ◌*◌, ◌≡◌, ◌≢◌, ◌+◌, ◌<◌, [], length, length-set, get_or-set_other, get_or-set_same, below_more, arith, ◌∙◌, get_or}
use Rattle.sw_md5.proofs.Words.{has_words}
use Rattle.sw_md5.proofs.blocks.add_block.Goals as goal

pub loop-k-preserved : goal.loop-k-preserved
loop-k-preserved g c =
    let n = c.loop-k.k in
    let len = c.loop-k.invariant.long in
    let lt : n < length c.loop-k.words = omega (arith, len) in
    record {
      long = length-set c.loop-k.words _ _ ∙ len;
      words = λ k j low l within.
          below_more (λ k. get_or (get_or (set c.loop-k.words n c.row.result) k []) j 0 ≡ word_at (get_or (map g.P.Piece.content c.args.pieces.now) (c.args.first + j) []) (c.args.at + 4 * k)) n
          (λ k h. let ne : k ≢ n = omega arith in rw get_or-set_other (c.loop-k.invariant.words k j h l within))
          (rw get_or-set_same (c.row.ensures j l within)) k low;
    }

pub returns : goal.returns
returns g c = λ j l within.
    c.compress_lanes.ensures j _ l (has_words c.loop-k.words j c.args.at _ (λ k h. c.loop-k.invariant.words k j (omega arith) l within))
