use Rattle.dns_shared_upstream_tests.proofs.beside_tests.holds.Given as goal

abbrev pub ghosts-is_handed_on : goal.ghosts-is_handed_on
ghosts-is_handed_on types args = record { name = args.blank.name; parts = args.blank.parts }
