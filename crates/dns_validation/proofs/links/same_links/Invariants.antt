use Rattle.std.proofs.Common.{◌≡◌, length, map}
use Rattle.dns_evidence.specs.Link.{link_value}
use Rattle.dns_validation.proofs.links.same_links.Given as goal

-- the links so far were the same, so that all are where the rest is
abbrev pub invariant-links : goal.invariant-links
invariant-links l =
    map link_value l.links ≡ map link_value l.others → map link_value l.fn.links ≡ map link_value l.fn.others

abbrev pub decreases-links : goal.decreases-links
decreases-links l = length l.links
