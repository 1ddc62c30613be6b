use Rattle.sw_law_homes.proofs.Counting.{homes}
use Rattle.sw_law_homes.proofs.laws.homes_law.Goals as goal

pub returns : goal.returns
returns c = homes
