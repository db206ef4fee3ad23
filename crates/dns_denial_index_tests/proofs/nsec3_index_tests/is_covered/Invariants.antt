use Rattle.dns_denial_index_tests.proofs.nsec3_index_tests.is_covered.Given as goal

abbrev pub ghosts-covering : goal.ghosts-covering
ghosts-covering args = record { name = args.blank.name; parts = args.blank.parts }
