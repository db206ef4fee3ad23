use Rattle.std.proofs.Common.{◌≡◌, true, take}
use Rattle.std.specs.List.{list_all}
use Rattle.dns_evidence.specs.Link.{link_value}
use Rattle.dns_chain_check.specs.Trusted.{is_trusted_link}
use Rattle.dns_chain_check.proofs.trusted.each_trusted.Given as goal

-- the links so far are trusted
abbrev pub invariant-loop-link : goal.invariant-loop-link
invariant-loop-link l =
    list_all (λ x. is_trusted_link l.anchors l.now (link_value x)) (take l.link-index l.links) ≡ true
