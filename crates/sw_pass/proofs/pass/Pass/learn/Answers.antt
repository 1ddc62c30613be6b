use Rattle.std.proofs.Common.{rules}
use Rattle.sw_pass.proofs.Looks.{learns}
use Rattle.sw_pass.proofs.pass.Pass.learn.Goals as goal

pub load-requires : goal.load-requires
load-requires g c = (search rules, search rules, learns _ _ _ _ _)
