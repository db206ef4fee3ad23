use Rattle.dns_shared_upstream_tests.proofs.full_tests.heard_with.Given as goal

abbrev pub ghosts-asked_with : goal.ghosts-asked_with
ghosts-asked_with types args = record { name = args.blank.name; parts = args.blank.parts }
