use Rattle.std.proofs.Common.{◌≡◌, ◌*◌, take}
use Rattle.sw_cauchy.specs.Rows.{generator_rows}
use Rattle.sw_cauchy.proofs.decode.write_generator_rows.Given as goal

-- the rows so far are written
abbrev pub invariant-loop-t : goal.invariant-loop-t
invariant-loop-t l = take (l.t * l.k) l.rows ≡ generator_rows l.k (take l.t l.indices)
