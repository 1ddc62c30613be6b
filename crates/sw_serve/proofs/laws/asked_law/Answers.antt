use Rattle.sw_serve.proofs.Alike.{asked_one, open_unasked}
use Rattle.sw_serve.proofs.Asks.{asked_more}
use Rattle.sw_serve.proofs.laws.asked_law.Goals as goal

pub returns : goal.returns
returns c = record { one = asked_one; more = λ bytes more unused asked waits is. asked_more more bytes asked waits unused is; undecided = open_unasked }
