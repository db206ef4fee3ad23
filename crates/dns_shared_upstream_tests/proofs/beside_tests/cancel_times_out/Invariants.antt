use Rattle.dns_shared_upstream_tests.proofs.beside_tests.cancel_times_out.Given as goal

abbrev pub ghosts-times_out : goal.ghosts-times_out
ghosts-times_out types args = record { name = args.blank.name; parts = args.blank.parts }
