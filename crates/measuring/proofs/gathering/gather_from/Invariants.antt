use Rattle.std.proofs.Common.{◌≡◌, ◌-◌, ◌≤◌}
use Rattle.measuring.specs.Gathered.{gathered_from}
use Rattle.measuring.proofs.gathering.gather_from.Given as goal

abbrev pub invariant-loop-index : goal.invariant-loop-index
invariant-loop-index l = record {
  from : l.fn.first ≤ l.index;
  gathered : l.gather ≡ gathered_from l.fn.code.k l.fn.code.m l.segment l.fn.first (l.index - l.fn.first);
}
