use Rattle.sw_law_going.proofs.Events.{goes_on, only}
use Rattle.sw_law_going.proofs.laws.going_law.Goals as goal

pub returns-clause-goes_on : goal.returns-clause-goes_on
returns-clause-goes_on c = goes_on

pub returns-clause-only : goal.returns-clause-only
returns-clause-only c = only
