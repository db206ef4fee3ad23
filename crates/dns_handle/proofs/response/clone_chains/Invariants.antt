use Rattle.std.proofs.Common.{◌≡◌, take}
use Rattle.dns_handle.proofs.response.clone_chains.Given as goal

-- the chains so far are in the copy
abbrev pub invariant-loop-chain : goal.invariant-loop-chain
invariant-loop-chain l = l.all.items ≡ take l.chain-index l.chains.items
