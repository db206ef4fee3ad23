use Rattle.dns_marks_tests.proofs.signature_tests.is_proved_by_key.Given as goal

abbrev pub ghosts-proof_by_key : goal.ghosts-proof_by_key
ghosts-proof_by_key types args = record { name = args.blank.name; parts = args.blank.parts }
