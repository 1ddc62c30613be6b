use Rattle.std.proofs.Common.{◌≡◌, length, map}
use Rattle.sw_cauchy.specs.Share.{Share}
use Rattle.sw_cauchy.proofs.tests.gather_fragments.Given as goal

-- the shares so far have the indices that are taken
abbrev pub invariant-loop-t : goal.invariant-loop-t
invariant-loop-t g l = record {
  k : l.gather.k ≡ l.code.k;
  m : l.gather.m ≡ l.code.m;
  width : l.gather.width ≡ l.width;
  count : length l.gather.shares ≡ l.t;
  taken : l.taken.items ≡ map (λ (share : Share). share.index) l.gather.shares;
}
