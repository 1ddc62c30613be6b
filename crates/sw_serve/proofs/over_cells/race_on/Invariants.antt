use Rattle.sw_serve.proofs.over_cells.race_on.Given as goal

abbrev pub ghosts-race_with : goal.ghosts-race_with
ghosts-race_with g a = record { cluster = a.cluster }
