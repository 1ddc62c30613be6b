use Rattle.sw_serve.proofs.over_cells.repair_with.Given as goal

abbrev pub ghosts-repair_in : goal.ghosts-repair_in
ghosts-repair_in g a = record { table = a.table }
