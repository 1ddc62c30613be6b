use Rattle.sw_core.proofs.Happening.{run-sound}
use Rattle.sw_law_determined.proofs.Crashes.{crashes_once}
use Rattle.sw_law_determined.proofs.Devices.{StepLaw}
use Rattle.sw_law_determined.proofs.Events.{happens_once}
use Rattle.sw_law_determined.proofs.Sureness.{happens-sure}
use Rattle.sw_law_determined.proofs.laws.event_law.Goals as goal

told : goal.After-step_law → StepLaw
told c = record { reply = c.step_law.ensures.reply; folders = c.step_law.ensures.folders }

pub returns-clause-one : goal.returns-clause-one
returns-clause-one c = λ cluster events world one other event run sure determined x y. happens_once (told c) cluster world (run-sound cluster events world run) sure one other event determined x y

pub returns-clause-crash : goal.returns-clause-crash
returns-clause-crash c = λ world one other message calls pick sure x y. crashes_once world one other message calls pick sure x y

pub returns-clause-sure : goal.returns-clause-sure
returns-clause-sure c = λ world after event sure kept goes. happens-sure world after sure event kept goes
