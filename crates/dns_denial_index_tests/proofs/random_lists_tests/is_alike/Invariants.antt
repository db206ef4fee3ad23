use Rattle.dns_denial_index_tests.proofs.random_lists_tests.is_alike.Given as goal

abbrev pub ghosts-names_are_alike : goal.ghosts-names_are_alike
ghosts-names_are_alike args = record { name = args.blank.name; parts = args.blank.parts }
