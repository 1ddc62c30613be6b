use Rattle.std.proofs.Common.{rules}
use Rattle.sw_pass.proofs.Joining.{joins}
use Rattle.sw_pass.proofs.Looks.{learns}
use Rattle.sw_pass.proofs.pass.Pass.join.Goals as goal

pub join_seat-requires : goal.join_seat-requires
join_seat-requires g c = (search rules, search rules, search rules, search rules, joins _ _ _ _ _ (search rules))

pub load-requires : goal.load-requires
load-requires g c = (search rules, search rules, learns _ _ _ _ _)
