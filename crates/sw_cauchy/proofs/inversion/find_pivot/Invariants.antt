use Rattle.std.proofs.Common.{◌≡◌, ℕ, ◌<◌, ◌≤◌}
use Rattle.sw_cauchy.specs.Linear.{matrix_entry}
use Rattle.sw_cauchy.proofs.inversion.find_pivot.Given as goal

-- the rows so far have a zero in the column
abbrev pub invariant-loop-row : goal.invariant-loop-row
invariant-loop-row l = (i : ℕ) → l.column ≤ i → i < l.row → matrix_entry l.k l.current i l.column ≡ 0
