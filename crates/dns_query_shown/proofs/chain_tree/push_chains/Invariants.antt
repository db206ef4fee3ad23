use Rattle.std.proofs.Common.{◌≡◌, ◌++◌, drop}
use Rattle.std.specs.List.{flat_map}
use Rattle.dns_query_shown.specs.ChainTrees.{chain_text}
use Rattle.dns_query_shown.proofs.chain_tree.push_chains.Given as goal

-- what is written so far, and the lines of what is left, are those of all
abbrev pub invariant-loop-chain : goal.invariant-loop-chain
invariant-loop-chain l =
    l.into.items ++ flat_map chain_text (drop l.chain-index l.chains) ≡ l.initial.into.items ++ flat_map chain_text l.chains
