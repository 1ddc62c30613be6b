use Rattle.std.proofs.Common.{◌≡◌, ℕ, ◌<◌, length}
use Rattle.sw_md5.specs.Side.{item}
use Rattle.sw_md5.proofs.tests.expect_alike.Given as goal

-- the lengths so far are the first one
abbrev pub invariant-loop-index : goal.invariant-loop-index
invariant-loop-index g l = (i : ℕ) → i < l.index → length (item l.messages i) ≡ length (item l.messages 0)
