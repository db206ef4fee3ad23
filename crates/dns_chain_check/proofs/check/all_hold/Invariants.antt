use Rattle.std.proofs.Common.{◌≡◌, map, take}
use Rattle.dns_evidence.specs.Link.{link_value}
use Rattle.dns_chain_check.specs.LinkJudges.{link_judge}
use Rattle.dns_chain_check.proofs.Steps.{LeftDecides}
use Rattle.dns_chain_check.proofs.check.all_hold.Given as goal

-- the links so far hold and are indexed
abbrev pub invariant-loop-number : goal.invariant-loop-number
invariant-loop-number g l =
    (LeftDecides link_value (link_judge g.V.Verifier.answers l.judge) l.links l.number)
    × (l.indexed.items ≡ map link_value (take l.number l.links))
