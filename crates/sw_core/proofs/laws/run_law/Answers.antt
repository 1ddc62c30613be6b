use Rattle.sw_core.proofs.Runs.{filed, found, told, warranted}
use Rattle.sw_core.proofs.laws.run_law.Goals as goal

pub returns-clause-warranted : goal.returns-clause-warranted
returns-clause-warranted c = warranted

pub returns-clause-filed : goal.returns-clause-filed
returns-clause-filed c = filed

pub returns-clause-told : goal.returns-clause-told
returns-clause-told c = told

pub returns-clause-found : goal.returns-clause-found
returns-clause-found c = found
