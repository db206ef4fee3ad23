use Rattle.dns_shared_upstream_tests.proofs.loopback_tests.two_answered.Given as goal

abbrev pub ghosts-both_answered : goal.ghosts-both_answered
ghosts-both_answered types args = record { name = args.blank.name; parts = args.blank.parts }
