use Rattle.sw_message.proofs.Highest.{is_highest}
use Rattle.sw_message.proofs.laws.highest_law.Goals as goal

pub returns : goal.returns
returns c = is_highest
