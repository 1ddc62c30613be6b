use Rattle.sw_pass.proofs.tests.on_cluster.Given as goal

abbrev pub ghosts-draw_stamps : goal.ghosts-draw_stamps
ghosts-draw_stamps g a = record { cluster = a.cluster.now }

abbrev pub ghosts-spend_stamps : goal.ghosts-spend_stamps
ghosts-spend_stamps g a = record { cluster = a.cluster.now }

abbrev pub ghosts-claim_and_lose : goal.ghosts-claim_and_lose
ghosts-claim_and_lose g a = record { cluster = a.cluster.now }
