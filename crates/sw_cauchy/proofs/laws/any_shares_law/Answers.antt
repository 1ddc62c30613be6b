use Rattle.sw_cauchy.proofs.AnyFragments.{same_pieces, some_pieces}
use Rattle.sw_cauchy.proofs.laws.any_shares_law.Goals as goal

pub returns-clause-some : goal.returns-clause-some
returns-clause-some c = some_pieces

pub returns-clause-one : goal.returns-clause-one
returns-clause-one c = same_pieces
