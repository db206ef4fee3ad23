use Rattle.dns_shared_upstream_tests.proofs.thread_tests.heard_by_both.Given as goal

abbrev pub ghosts-both_asked : goal.ghosts-both_asked
ghosts-both_asked types args = record { name = args.blank.name; parts = args.blank.parts }
