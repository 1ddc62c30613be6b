use Rattle.std.proofs.Common.{rules}
use Rattle.sw_pass.proofs.Looks.{splits_pass}
use Rattle.sw_pass.proofs.pass.Pass.split_for.Goals as goal

pub split_seat-requires : goal.split_seat-requires
split_seat-requires g c = (search rules, search rules, splits_pass _ _ _ _ (search rules) (search rules))
