use Rattle.sw_serve.proofs.over_cells.race_with.Given as goal

abbrev pub ghosts-race : goal.ghosts-race
ghosts-race g a = record { table = a.table }
