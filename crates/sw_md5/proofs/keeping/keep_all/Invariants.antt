use Rattle.std.proofs.Common.{◌≡◌, ℕ, ◌+◌, ◌-◌, ◌<◌, ◌≤◌, ◌++◌, length, take, map}
use Rattle.std.specs.Simd.Lanes.{chunk}
use Rattle.sw_md5.specs.Side.{item}
use Rattle.sw_md5.proofs.keeping.keep_all.Given as goal

-- the blocks so far are written
abbrev pub invariant-loop-index : goal.invariant-loop-index
invariant-loop-index g l = record {
  all : length l.rests ≡ 32;
  kept : (i : ℕ) → i < l.index → take (l.used + (l.to - l.from)) (item l.rests i) ≡ take l.used (item l.fn.rests i) ++ chunk l.from (l.to - l.from) (item (map g.P.Piece.content l.pieces) i);
  long : (i : ℕ) → i < l.index → length (item l.rests i) ≡ 64;
  ahead : (i : ℕ) → l.index ≤ i → item l.rests i ≡ item l.fn.rests i;
}
