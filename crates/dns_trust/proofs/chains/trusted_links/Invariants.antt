use Rattle.std.proofs.Common.{◌≡◌, ◌++◌, take, map}
use Rattle.dns_evidence.specs.Link.{link_value}
use Rattle.dns_rules.specs.ChainedSets.{trusted_link}
use Rattle.dns_trust.specs.Judge.{judge_of}
use Rattle.dns_trust.proofs.chains.trusted_links.Given as goal

-- there is a link for each key so far
abbrev pub invariant-loop-key : goal.invariant-loop-key
invariant-loop-key g l =
    map link_value l.links.items
    ≡ map link_value l.front.items ++ map (trusted_link (judge_of g.V.Verifier.answers l.judge) l.set l.ds_link l.ds.records)
    (take l.key-index l.set.records)
