use Rattle.sw_law_headline.proofs.Runs.{run-timely}
use Rattle.sw_law_headline.proofs.laws.times_law.Goals as goal

pub returns : goal.returns
returns c = run-timely
