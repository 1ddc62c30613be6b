use Rattle.sw_cauchy.proofs.EliminationSteps.{IsEliminated}
use Rattle.sw_cauchy.proofs.inversion.invert.Given as goal

-- the columns so far are those of the unit matrix
abbrev pub invariant-loop-column : goal.invariant-loop-column
invariant-loop-column l = IsEliminated l.k l.fn.matrix l.matrix l.inverse l.column
