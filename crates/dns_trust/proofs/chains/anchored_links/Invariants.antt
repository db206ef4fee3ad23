use Rattle.std.proofs.Common.{◌≡◌, take, map}
use Rattle.dns_evidence.specs.Link.{link_value}
use Rattle.dns_rules.specs.ChainedSets.{anchored_link}
use Rattle.dns_trust.proofs.chains.anchored_links.Given as goal

-- there is a link for each key so far
abbrev pub invariant-loop-key : goal.invariant-loop-key
invariant-loop-key l = map link_value l.links.items ≡ map (anchored_link l.set) (take l.key-index l.set.records)
