use Rattle.sw_cauchy.specs.Rows.{generator_rows}
use Rattle.sw_cauchy.proofs.GeneratorRows.{IsBytes-generator_rows}
use Rattle.sw_cauchy.proofs.Independence.{any_rows_independent}
use Rattle.sw_cauchy.proofs.Invertible.{independent_invertible}
use Rattle.sw_cauchy.proofs.laws.any_rows_law.Goals as goal

pub returns-clause-independent : goal.returns-clause-independent
returns-clause-independent c = any_rows_independent

pub returns-clause-invertible : goal.returns-clause-invertible
returns-clause-invertible c k indices small count below apart =
    independent_invertible k (generator_rows k indices) (IsBytes-generator_rows k indices) (any_rows_independent k indices small count below apart)
