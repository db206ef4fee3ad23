use Rattle.std.proofs.Common.{◌≡◌, drop, map}
use Rattle.dns_evidence.specs.Link.{link_value}
use Rattle.dns_cache.specs.Expiry.{left_by_links}
use Rattle.dns_cache.proofs.expiry.left_by_links.Given as goal

-- what is left goes on with the links that are left
abbrev pub invariant-loop-link : goal.invariant-loop-link
invariant-loop-link l = left_by_links l.now l.left (map link_value (drop l.link-index l.links))
    ≡ left_by_links l.now l.seconds (map link_value l.links)
