use Rattle.sw_archive.proofs.Objects.{one_body, one_together, some_together}
use Rattle.sw_archive.proofs.laws.pieces_law.Goals as goal

pub returns-clause-some : goal.returns-clause-some
returns-clause-some c = some_together

pub returns-clause-one : goal.returns-clause-one
returns-clause-one c = one_together

pub returns-clause-body : goal.returns-clause-body
returns-clause-body c = one_body
