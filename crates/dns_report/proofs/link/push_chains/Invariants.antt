use Rattle.std.proofs.Common.{◌≡◌, ◌++◌, take, map, true}
use Rattle.std.specs.List.{flat_map, list_all}
use Rattle.dns_report.specs.View.{chain_view, fitting_chain}
use Rattle.dns_report.specs.Report.{chain_text}
use Rattle.dns_report.proofs.link.push_chains.Given as goal

abbrev pub invariant-loop-chain : goal.invariant-loop-chain
invariant-loop-chain l =
    (l.into.items ≡ l.initial.into.items ++ flat_map chain_text (map chain_view (take l.chain-index l.chains)))
    × (list_all fitting_chain (map chain_view (take l.chain-index l.chains)) ≡ true)
