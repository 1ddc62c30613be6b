use Rattle.sw_cauchy.proofs.EliminationSteps.{IsCleared}
use Rattle.sw_cauchy.proofs.inversion.clear_column.Given as goal

-- the rows so far have a zero in the column, but for the one on the diagonal
abbrev pub invariant-loop-row : goal.invariant-loop-row
invariant-loop-row l = IsCleared l.k l.column l.fn.current l.fn.companion l.current l.companion l.row
