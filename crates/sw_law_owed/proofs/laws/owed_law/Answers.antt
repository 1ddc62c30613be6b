use Rattle.sw_law_owed.proofs.Holding.{buried, held}
use Rattle.sw_law_owed.proofs.Steps.{stepped}
use Rattle.sw_law_owed.proofs.laws.owed_law.Goals as goal

pub returns-clause-held : goal.returns-clause-held
returns-clause-held c = held

pub returns-clause-buried : goal.returns-clause-buried
returns-clause-buried c = buried

pub returns-clause-handled : goal.returns-clause-handled
returns-clause-handled c = λ scene by device msg reply before after were right stamped may step. stepped scene by before after were device msg reply right stamped may step
