use Rattle.dns_forward_run.specs.Settings.{list_in}
use Rattle.dns_forward_run.proofs.datagrams.serve_by_list.Given as goal

abbrev pub ghosts-serve_port : goal.ghosts-serve_port
ghosts-serve_port types args = record { listed = list_in args.setting.now.trust }
