use Rattle.dns_outcome.proofs.denying.hashed_verdict_of.Given as goal

-- the ledger is that of the one blank
abbrev pub ghosts-hashed_verdict_by_search : goal.ghosts-hashed_verdict_by_search
ghosts-hashed_verdict_by_search args = record { name = args.blank.name; parts = args.blank.parts }
