use Rattle.sw_cauchy.proofs.UnitMatrix.{HasUnitRows}
use Rattle.sw_cauchy.proofs.inversion.write_unit_matrix.Given as goal

-- the rows so far have their ones
abbrev pub invariant-loop-row : goal.invariant-loop-row
invariant-loop-row l = HasUnitRows l.k l.unit l.row
