use Rattle.std.specs.Prelude.{option_copied}
use Rattle.sw_pass.proofs.pass.Pass.draw.Given as goal

abbrev pub ghosts-draw_for : goal.ghosts-draw_for
ghosts-draw_for g a = record { name = a.name.now; object = option_copied a.object }
