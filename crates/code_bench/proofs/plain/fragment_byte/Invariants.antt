use Rattle.std.proofs.Common.{◌≡◌, ◌+◌, ◌*◌, slice_index}
use Rattle.sw_cauchy.specs.Matrix.{entry, row_sum}
use Rattle.code_bench.proofs.plain.fragment_byte.Given as goal

abbrev pub invariant-loop-j : goal.invariant-loop-j
invariant-loop-j l = l.sum ≡ row_sum l.j (entry l.code.k l.i) (λ j. slice_index l.segment (j * l.width + l.position))
