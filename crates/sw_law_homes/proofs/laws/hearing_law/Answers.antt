use Rattle.sw_law_homes.proofs.Buried.{buried}
use Rattle.sw_law_homes.proofs.Committed.{committed}
use Rattle.sw_law_homes.proofs.DecidedHeard.{decided}
use Rattle.sw_law_homes.proofs.laws.hearing_law.Goals as goal

pub returns-clause-committed : goal.returns-clause-committed
returns-clause-committed c = committed

pub returns-clause-buried : goal.returns-clause-buried
returns-clause-buried c = buried

pub returns-clause-decided : goal.returns-clause-decided
returns-clause-decided c = decided
