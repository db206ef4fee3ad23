use Rattle.dns_shared_upstream_tests.proofs.answer_tests.holds.Given as goal

abbrev pub ghosts-is_answered : goal.ghosts-is_answered
ghosts-is_answered types args = record { name = args.blank.name; parts = args.blank.parts }
