use Rattle.std.proofs.Common.{◌≡◌, length}
use Rattle.code_bench.proofs.sums.add_often.Given as goal

abbrev pub invariant-loop : goal.invariant-loop
invariant-loop l = length l.sum.items ≡ length l.bytes
