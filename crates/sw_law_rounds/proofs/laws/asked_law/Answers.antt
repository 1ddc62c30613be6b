use Rattle.sw_law_rounds.proofs.Handoffs.{handoffs_first}
use Rattle.sw_law_rounds.proofs.Showings.{floors_first}
use Rattle.sw_law_rounds.proofs.laws.asked_law.Goals as goal

pub returns-clause-handoffs : goal.returns-clause-handoffs
returns-clause-handoffs c = handoffs_first

pub returns-clause-floors : goal.returns-clause-floors
returns-clause-floors c = floors_first
