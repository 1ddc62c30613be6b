use Rattle.sw_law_possible.proofs.Disks.{mounted}
use Rattle.sw_law_possible.proofs.Moves.{crashes, crashes_mounting, fails, handles, restarts}
use Rattle.sw_law_possible.proofs.Steps.{device_step}
use Rattle.sw_law_possible.proofs.laws.possible_law.Goals as goal

pub returns-clause-answers : goal.returns-clause-answers
returns-clause-answers c = λ cluster learnt device msg before sound filed of_places may. device_step cluster learnt device msg before sound filed of_places may

pub returns-clause-mounts : goal.returns-clause-mounts
returns-clause-mounts c = mounted

pub returns-clause-handles : goal.returns-clause-handles
returns-clause-handles c = λ scene at operation sent keeps request. handles scene sent operation keeps at request

pub returns-clause-fails : goal.returns-clause-fails
returns-clause-fails c = λ scene at operation sent keeps request. fails scene sent operation keeps at request

pub returns-clause-crashes : goal.returns-clause-crashes
returns-clause-crashes c = crashes

pub returns-clause-crashes_mounting : goal.returns-clause-crashes_mounting
returns-clause-crashes_mounting c = crashes_mounting

pub returns-clause-restarts : goal.returns-clause-restarts
returns-clause-restarts c = restarts
