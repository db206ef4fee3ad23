use Rattle.std.proofs.Common.{◌≡◌, map}
use Rattle.dns_audit.specs.ReportGrammar.{times}
use Rattle.dns_audit.specs.ReportLines.{link_line}
use Rattle.dns_session.specs.LinePlaces.{one}
use Rattle.dns_evidence.specs.Link.{link_value}
use Rattle.dns_audit.proofs.TimesLemmas.{with_read}
use Rattle.dns_audit.proofs.chains.links_of.Given as goal

abbrev pub invariant-links : goal.invariant-links
invariant-links l = with_read (map link_value l.all.items) (times (one link_line) l.left l.here) ≡ times
    (one link_line) l.count l.fn.lines

abbrev pub decreases-links : goal.decreases-links
decreases-links l = l.left
