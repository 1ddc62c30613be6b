use Rattle.std.proofs.Common.{subst}
use Rattle.std.proofs.lemmas.Result.{on_err_weaker}
use Rattle.sw_daemon.specs.Staging.{Stands}
use Rattle.sw_daemon.proofs.Asks.{asked}
use Rattle.sw_daemon.proofs.stage.StageOperation.next.Goals as goal

pub returns-in-Asks-clause-hands : goal.returns-in-Asks-clause-hands
returns-in-Asks-clause-hands c = λ begun past stands. let is = asked c.in-Asks.question begun past (subst (λ one. Stands one begun past) c.in-Asks.is stands) in rw is.1 (c.next.ensures.hands is.0 past is.2)

pub returns-in-Asks-clause-goes_on : goal.returns-in-Asks-clause-goes_on
returns-in-Asks-clause-goes_on c = λ begun past stands. let is = asked c.in-Asks.question begun past (subst (λ one. Stands one begun past) c.in-Asks.is stands) in rw is.1 (c.next.ensures.goes_on is.0 past is.2)

pub returns-in-Asks-clause-refused : goal.returns-in-Asks-clause-refused
returns-in-Asks-clause-refused c =
    on_err_weaker c.next.result
    (λ kept begun past stands. let is = asked c.in-Asks.question begun past (subst (λ one. Stands one begun past) c.in-Asks.is stands) in rw is.1 (kept is.0 past is.2))
    c.next.ensures.refused
