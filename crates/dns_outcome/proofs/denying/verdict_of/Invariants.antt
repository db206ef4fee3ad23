use Rattle.dns_outcome.proofs.denying.verdict_of.Given as goal

-- the ledger is that of the one blank
abbrev pub ghosts-verdict_by_search : goal.ghosts-verdict_by_search
ghosts-verdict_by_search args = record { name = args.blank.name; parts = args.blank.parts }
