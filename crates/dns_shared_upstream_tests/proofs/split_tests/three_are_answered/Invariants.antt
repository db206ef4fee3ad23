use Rattle.dns_shared_upstream_tests.proofs.split_tests.three_are_answered.Given as goal

abbrev pub ghosts-all_are_answered : goal.ghosts-all_are_answered
ghosts-all_are_answered types args = record { name = args.blank.name; parts = args.blank.parts }
