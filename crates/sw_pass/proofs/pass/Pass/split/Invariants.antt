use Rattle.sw_pass.proofs.pass.Pass.split.Given as goal

abbrev pub ghosts-split_for : goal.ghosts-split_for
ghosts-split_for g a = record { passes = a.passes }
