use Rattle.sw_message.proofs.Steps.{one_step}
use Rattle.sw_message.proofs.laws.step_law.Goals as goal

pub returns-clause-reply : goal.returns-clause-reply
returns-clause-reply c = λ cluster device room message before after other first second x y. (one_step cluster device room message before after other first second x y).0

pub returns-clause-folders : goal.returns-clause-folders
returns-clause-folders c = λ cluster device room message before after other first second x y. (one_step cluster device room message before after other first second x y).1
