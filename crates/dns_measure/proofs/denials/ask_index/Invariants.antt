use Rattle.dns_measure.proofs.denials.ask_index.Given as goal

abbrev pub ghosts-is_covered : goal.ghosts-is_covered
ghosts-is_covered args = record { name = args.blank.name; parts = args.blank.parts }
