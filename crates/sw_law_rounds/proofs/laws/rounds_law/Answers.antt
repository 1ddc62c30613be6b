use Rattle.sw_law_rounds.proofs.Handed.{told-here}
use Rattle.sw_law_rounds.proofs.LastRound.{has-listed}
use Rattle.sw_law_rounds.proofs.Rounds.{heard-sent}
use Rattle.sw_law_rounds.proofs.laws.rounds_law.Goals as goal

pub returns-clause-about : goal.returns-clause-about
returns-clause-about c = λ begun past sent answer run has. told-here begun past run sent answer has

pub returns-clause-sent : goal.returns-clause-sent
returns-clause-sent c = λ begun past turns sent meaning valid run are has. heard-sent begun valid past run turns are sent meaning has

pub returns-clause-listed : goal.returns-clause-listed
returns-clause-listed c = λ begun past turns device are not_missed answered member. let is = has-listed begun past turns are device not_missed answered member in (is.listing, is.among)
