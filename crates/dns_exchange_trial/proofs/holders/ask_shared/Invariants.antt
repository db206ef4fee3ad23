use Rattle.dns_exchange_trial.proofs.holders.ask_shared.Given as goal

abbrev pub ghosts-all_answered : goal.ghosts-all_answered
ghosts-all_answered types args = record { name = args.blank.name; parts = args.blank.parts }
