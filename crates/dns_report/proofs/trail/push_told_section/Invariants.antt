use Rattle.std.proofs.Common.{◌≡◌, ◌++◌, take, map, true}
use Rattle.std.specs.List.{flat_map, list_all}
use Rattle.dns_report.specs.TrailView.{unmarked, fitting_told}
use Rattle.dns_report.specs.TrailLines.{told_line}
use Rattle.dns_report.proofs.trail.push_told_section.Given as goal

abbrev pub invariant-loop-next : goal.invariant-loop-next
invariant-loop-next l =
    (l.into.items ≡ l.initial.into.items ++ flat_map (told_line l.section) (map unmarked (take l.next-index l.records)))
    × (list_all fitting_told (map unmarked (take l.next-index l.records)) ≡ true)
