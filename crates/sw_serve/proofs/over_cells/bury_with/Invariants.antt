use Rattle.sw_serve.proofs.over_cells.bury_with.Given as goal

abbrev pub ghosts-bury_in : goal.ghosts-bury_in
ghosts-bury_in g a = record { table = a.table }
