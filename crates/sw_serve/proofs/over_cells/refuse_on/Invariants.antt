use Rattle.sw_serve.proofs.over_cells.refuse_on.Given as goal

abbrev pub ghosts-refuse_with : goal.ghosts-refuse_with
ghosts-refuse_with g a = record { cluster = a.cluster }
