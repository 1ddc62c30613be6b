use Rattle.sw_serve.proofs.over_cells.bury_on.Given as goal

abbrev pub ghosts-bury_with : goal.ghosts-bury_with
ghosts-bury_with g a = record { cluster = a.cluster }
