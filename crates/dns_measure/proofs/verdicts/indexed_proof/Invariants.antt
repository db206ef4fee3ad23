use Rattle.dns_measure.proofs.verdicts.indexed_proof.Given as goal

abbrev pub ghosts-indexed_nsec : goal.ghosts-indexed_nsec
ghosts-indexed_nsec args = record { name = args.blank.name; parts = args.blank.parts }

abbrev pub ghosts-indexed_nsec3 : goal.ghosts-indexed_nsec3
ghosts-indexed_nsec3 args = record { name = args.blank.name; parts = args.blank.parts }
