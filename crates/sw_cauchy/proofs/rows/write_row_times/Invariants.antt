use Rattle.std.proofs.Common.{◌≡◌, ◌*◌, get_or, drop}
use Rattle.sw_cauchy.specs.Rows.{row_times}
use Rattle.sw_cauchy.proofs.rows.write_row_times.Given as goal

-- the sum over the pieces so far, and the pieces that are left
abbrev pub invariant-loop-factor : goal.invariant-loop-factor
invariant-loop-factor l = record {
  sum : l.sum ≡ row_times l.factor-index l.width (λ i. get_or l.row i 0) l.pieces;
  rest : l.rest ≡ drop (l.factor-index * l.width) l.pieces;
}
