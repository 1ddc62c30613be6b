use Rattle.sw_get.proofs.Sameness.{one_turns}
use Rattle.sw_get.proofs.laws.turns_law.Goals as goal

pub returns : goal.returns
returns c = one_turns
