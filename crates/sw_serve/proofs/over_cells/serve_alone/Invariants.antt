use Rattle.sw_serve.proofs.over_cells.serve_alone.Given as goal

abbrev pub ghosts-serve_with : goal.ghosts-serve_with
ghosts-serve_with g a = record { cluster = a.cluster }
