use Rattle.std.proofs.Common.{◌≡◌, map, vec_len}
use Rattle.dns_evidence.specs.Link.{link_value}
use Rattle.dns_rules.specs.ChainedSets.{proved_chain}
use Rattle.dns_trust.specs.Verdicts.{verdict_value}
use Rattle.dns_trust.proofs.ChainOf.{chain_else}
use Rattle.dns_trust.proofs.judged.chain_of.Given as goal

-- the verdicts that are left decide, and the chain so far where none of them does
abbrev pub invariant-loop-verdict : goal.invariant-loop-verdict
invariant-loop-verdict l =
    chain_else (map verdict_value l.verdicts.items) (map link_value l.chain.items) ≡ proved_chain (map verdict_value l.fn.verdicts.items)

abbrev pub decreases-loop-verdict : goal.decreases-loop-verdict
decreases-loop-verdict l = vec_len l.verdicts
