use Rattle.sw_get.proofs.Founds.{found_put}
use Rattle.sw_get.proofs.laws.found_law.Goals as goal

pub returns : goal.returns
returns c = found_put
