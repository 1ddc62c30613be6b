use Rattle.sw_server.proofs.serving.serve.Given as goal

abbrev pub ghosts-serve_cluster : goal.ghosts-serve_cluster
ghosts-serve_cluster g a = record { cluster = a.cluster }
