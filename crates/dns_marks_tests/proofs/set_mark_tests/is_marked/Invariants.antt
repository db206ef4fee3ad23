use Rattle.dns_marks_tests.proofs.set_mark_tests.is_marked.Given as goal

abbrev pub ghosts-found : goal.ghosts-found
ghosts-found types args = record { name = args.blank.name; parts = args.blank.parts }
