use Rattle.std.proofs.Common.{◌≡◌, take, map}
use Rattle.dns_evidence.specs.Link.{link_value}
use Rattle.dns_evidence.proofs.link.clone_links.Given as goal

-- the links so far are in the copy
abbrev pub invariant-loop-link : goal.invariant-loop-link
invariant-loop-link l = map link_value l.all.items ≡ map link_value (take l.link-index l.links.items)
