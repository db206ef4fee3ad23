use Rattle.std.proofs.Common.{◌≡◌, ◌++◌, take, true}
use Rattle.std.specs.List.{list_all}
use Rattle.dns_report.specs.View.{fitting_record}
use Rattle.dns_report.specs.Report.{section_text}
use Rattle.dns_report.proofs.record.push_section.Given as goal

abbrev pub invariant-loop-next : goal.invariant-loop-next
invariant-loop-next l =
    (l.into.items ≡ l.initial.into.items ++ section_text l.section (take l.next-index l.records))
    × (list_all fitting_record (take l.next-index l.records) ≡ true)
