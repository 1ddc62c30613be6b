use Rattle.std.proofs.Common.{subst}
use Rattle.sw_daemon.specs.Staging.{Stands}
use Rattle.sw_daemon.proofs.Asks.{asked}
use Rattle.sw_daemon.proofs.stage.StageOperation.give_up.Goals as goal

pub returns-in-Asks-clause-goes_on : goal.returns-in-Asks-clause-goes_on
returns-in-Asks-clause-goes_on c = λ begun past stands. let is = asked c.in-Asks.question begun past (subst (λ one. Stands one begun past) c.in-Asks.is stands) in rw is.1 (c.give_up.ensures.goes_on is.0 past is.2)
