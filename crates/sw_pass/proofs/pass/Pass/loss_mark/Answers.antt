use Rattle.std.proofs.Common.{rules}
use Rattle.sw_pass.proofs.Looks.{reads_at}
use Rattle.sw_pass.proofs.pass.Pass.loss_mark.Goals as goal

pub load-requires : goal.load-requires
load-requires g c = (search rules, search rules, reads_at _ _ _ _ _ _ (search rules))
