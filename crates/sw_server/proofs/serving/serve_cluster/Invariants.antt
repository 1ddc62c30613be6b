use Rattle.sw_server.proofs.serving.serve_cluster.Given as goal

abbrev pub ghosts-serve_table : goal.ghosts-serve_table
ghosts-serve_table g a = record { table = a.table }
