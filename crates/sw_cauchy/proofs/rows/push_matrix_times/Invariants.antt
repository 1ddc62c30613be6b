use Rattle.std.proofs.Common.{◌≡◌, ◌++◌}
use Rattle.sw_cauchy.specs.Rows.{rows_times}
use Rattle.sw_cauchy.proofs.rows.push_matrix_times.Given as goal

-- the rows so far were added
abbrev pub invariant-loop-i : goal.invariant-loop-i
invariant-loop-i l = l.out.items ≡ l.fn.out.items ++ rows_times l.k l.width l.matrix l.pieces l.i
