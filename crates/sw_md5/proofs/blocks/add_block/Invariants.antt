use Rattle.std.proofs.Common.{◌≡◌, ℕ, ◌+◌, ◌*◌, ◌<◌, [], length, map, slice_index, slice_index_or}
use Rattle.md5.specs.Md5.{word_at}
use Rattle.sw_md5.proofs.blocks.add_block.Given as goal

-- the words so far
abbrev pub invariant-loop-k : goal.invariant-loop-k
invariant-loop-k g l = record {
  long : length l.words ≡ 16;
  words : (k j : ℕ) → k < l.k → j < g.V.Lanes.width → l.first + j < length l.pieces → slice_index (slice_index_or l.words k []) j ≡ word_at (slice_index_or (map g.P.Piece.content l.pieces) (l.first + j) []) (l.at + 4 * k);
}
