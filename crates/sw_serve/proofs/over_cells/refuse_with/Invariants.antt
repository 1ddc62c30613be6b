use Rattle.sw_serve.proofs.over_cells.refuse_with.Given as goal

abbrev pub ghosts-refuse : goal.ghosts-refuse
ghosts-refuse g a = record { table = a.table }
