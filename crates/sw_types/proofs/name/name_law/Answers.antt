use Rattle.sw_types.proofs.Names.{name_eq-true, name_eq-same}
use Rattle.sw_types.proofs.name.name_law.Goals as goal

pub returns-clause-same : goal.returns-clause-same
returns-clause-same c = name_eq-true

pub returns-clause-equal : goal.returns-clause-equal
returns-clause-equal c = name_eq-same
