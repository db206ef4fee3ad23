use Rattle.dns_marks_tests.proofs.signature_tests.is_proved_by_keys.Given as goal

abbrev pub ghosts-proof_by_keys : goal.ghosts-proof_by_keys
ghosts-proof_by_keys types args = record { name = args.blank.name; parts = args.blank.parts }
