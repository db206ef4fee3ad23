use Rattle.dns_shared_upstream_tests.proofs.fault_tests.ends_all_at.Given as goal

abbrev pub ghosts-ends_all : goal.ghosts-ends_all
ghosts-ends_all types args = record { name = args.blank.name; parts = args.blank.parts }
