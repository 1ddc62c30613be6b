use Rattle.std.proofs.Common.{◌≡◌, ◌+◌, length}
use Rattle.sw_cauchy.proofs.tests.expect_segment.Given as goal

-- there are k + m fragments, and the gather is of their code
abbrev pub invariant-loop-first : goal.invariant-loop-first
invariant-loop-first g l = record {
  fragments : length l.fragments.items ≡ l.code.k + l.code.m;
  k : l.gather.k ≡ l.code.k;
  m : l.gather.m ≡ l.code.m;
}
