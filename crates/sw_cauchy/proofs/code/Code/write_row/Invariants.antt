use Rattle.std.proofs.Common.{◌≡◌, ℕ, ◌<◌, get_or}
use Rattle.sw_cauchy.specs.Matrix.{entry}
use Rattle.sw_cauchy.proofs.code.Code.write_row.Given as goal

abbrev pub invariant-loop-j : goal.invariant-loop-j
invariant-loop-j l = (position : ℕ) → position < l.j → get_or l.row position 0 ≡ entry l.self.k l.i position
