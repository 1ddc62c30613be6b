use Rattle.sw_pass.proofs.Pairs.{paired}
use Rattle.sw_pass.proofs.laws.pairs_law.Goals as goal

pub returns : goal.returns
returns c = paired
