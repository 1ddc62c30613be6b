use Rattle.sw_serve.proofs.over_cells.repair_on.Given as goal

abbrev pub ghosts-repair_with : goal.ghosts-repair_with
ghosts-repair_with g a = record { cluster = a.cluster }
