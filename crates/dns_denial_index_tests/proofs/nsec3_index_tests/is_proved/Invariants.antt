use Rattle.dns_denial_index_tests.proofs.nsec3_index_tests.is_proved.Given as goal

abbrev pub ghosts-verify : goal.ghosts-verify
ghosts-verify args = record { name = args.blank.name; parts = args.blank.parts }
