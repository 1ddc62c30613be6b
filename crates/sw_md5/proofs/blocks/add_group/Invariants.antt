use Rattle.std.proofs.Common.{◌≡◌, ℕ, ◌+◌, ◌<◌, [], length, map, slice_index_or}
use Rattle.sw_md5.specs.Side.{lane_of, blocks_from}
use Rattle.sw_md5.proofs.blocks.add_group.Given as goal

-- the blocks so far are added
abbrev pub invariant-loop-block : goal.invariant-loop-block
invariant-loop-block g l = (j : ℕ) → j < g.V.Lanes.width → l.first + j < length l.pieces
    → lane_of g.V.Lanes.lane l.state j ≡ blocks_from (slice_index_or l.fn.states (l.first + j) []) (slice_index_or (map g.P.Piece.content l.pieces) (l.first + j) []) l.at l.block
