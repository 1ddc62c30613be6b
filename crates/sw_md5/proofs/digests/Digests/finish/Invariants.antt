use Rattle.std.proofs.Common.{◌≡◌, ℕ, ◌<◌, length}
use Rattle.md5.specs.Md5.{digest_bytes}
use Rattle.sw_md5.specs.Side.{item}
use Rattle.sw_md5.proofs.digests.Digests.finish.Given as goal

-- the digests so far
abbrev pub invariant-loop-index : goal.invariant-loop-index
invariant-loop-index l = record {
  all : length l.digests ≡ 32;
  done : (i : ℕ) → i < l.index → item l.digests i ≡ digest_bytes (item l.self.states i) 4;
}
