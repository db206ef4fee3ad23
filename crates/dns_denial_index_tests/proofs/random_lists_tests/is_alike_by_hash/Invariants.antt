use Rattle.dns_denial_index_tests.proofs.random_lists_tests.is_alike_by_hash.Given as goal

abbrev pub ghosts-hashes_are_alike : goal.ghosts-hashes_are_alike
ghosts-hashes_are_alike args = record { name = args.blank.name; parts = args.blank.parts }
