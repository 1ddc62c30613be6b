use Rattle.sw_serve.proofs.over_cells.serve_with.Given as goal

abbrev pub ghosts-serve_in : goal.ghosts-serve_in
ghosts-serve_in g a = record { table = a.table }
