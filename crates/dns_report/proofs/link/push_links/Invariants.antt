use Rattle.std.proofs.Common.{◌≡◌, ◌++◌, length, map}
use Rattle.std.specs.List.{flat_map, list_all}
use Rattle.dns_evidence.specs.Link.{link_value}
use Rattle.dns_report.specs.View.{shown_link, fitting_link}
use Rattle.dns_report.specs.Report.{link_line}
use Rattle.dns_report.proofs.link.push_links.Given as goal

abbrev pub invariant-links : goal.invariant-links
invariant-links l =
    (l.into.items ++ flat_map link_line (map shown_link (map link_value l.left)) ≡ l.initial.into.items
    ++ flat_map link_line (map shown_link (map link_value l.links)))
    × (list_all fitting_link (map shown_link (map link_value l.links)) ≡ list_all fitting_link (map shown_link (map link_value l.left)))

abbrev pub decreases-links : goal.decreases-links
decreases-links l = length l.left
