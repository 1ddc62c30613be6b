use Rattle.std.proofs.Common.{rules}
use Rattle.sw_pass.proofs.Stamps.{raises, takes}
use Rattle.sw_pass.proofs.pass.Pass.draw_for.Goals as goal

pub fetch_max-found-requires : goal.fetch_max-found-requires
fetch_max-found-requires g c = (search rules, search rules, raises _ _ _ _ _ _ (search rules) (search rules))

pub fetch_add-drawn-requires : goal.fetch_add-drawn-requires
fetch_add-drawn-requires g c = (search rules, search rules, takes _ _ _ _ _ _ _ c.requires.may (search rules))
