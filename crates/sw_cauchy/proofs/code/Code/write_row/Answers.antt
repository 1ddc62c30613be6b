use Rattle.std.proofs.Common.{arith}
use Rattle.std.proofs.lemmas.List.FromFn.{fill_by_all}
use Rattle.sw_cauchy.specs.Matrix.{entry}
use Rattle.sw_cauchy.specs.Rows.{generator_row}
use Rattle.sw_cauchy.proofs.code.Code.write_row.Goals as goal

pub returns : goal.returns
unfolding generator_row
returns c =
    fill_by_all (entry c.args.self.now.k c.args.i) _ c.args.self.now.k 0 (omega arith)
    (λ position h. c.loop-j.invariant position (omega arith))
