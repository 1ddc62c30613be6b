use Rattle.std.proofs.Common.{◌≡◌, ℕ, ◌*◌, ◌<◌, ◌≤◌, [], length, map, slice_index_or}
use Rattle.sw_md5.specs.Side.{blocks_from}
use Rattle.sw_md5.proofs.blocks.add_blocks.Given as goal

-- the groups so far are done
abbrev pub invariant-loop-group : goal.invariant-loop-group
invariant-loop-group g l = record {
  done : (i : ℕ) → i < 8 * l.group → i < length l.pieces → slice_index_or l.states i [] ≡ blocks_from (slice_index_or l.fn.states i []) (slice_index_or (map g.P.Piece.content l.pieces) i []) l.at l.blocks;
  ahead : (i : ℕ) → 8 * l.group ≤ i → slice_index_or l.states i [] ≡ slice_index_or l.fn.states i [];
}
