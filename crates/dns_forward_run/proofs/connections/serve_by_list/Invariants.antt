use Rattle.dns_forward_run.specs.Settings.{list_in}
use Rattle.dns_forward_run.proofs.connections.serve_by_list.Given as goal

abbrev pub ghosts-serve_ports-G-Ledger : goal.ghosts-serve_ports-G-Ledger
ghosts-serve_ports-G-Ledger types args = record { name = args.blank.name; parts = args.blank.parts }

abbrev pub ghosts-serve_ports-C-Picked : goal.ghosts-serve_ports-C-Picked
ghosts-serve_ports-C-Picked types args = record { listed = list_in args.setting.now.trust }
