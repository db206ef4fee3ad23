use Rattle.std.proofs.Common.{◌≡◌, ◌++◌, take, true}
use Rattle.std.specs.List.{flat_map, list_all}
use Rattle.dns_report.specs.TrailView.{fitting_set}
use Rattle.dns_report.specs.TrailLines.{set_line}
use Rattle.dns_report.proofs.judged.push_sets.Given as goal

abbrev pub invariant-loop-set : goal.invariant-loop-set
invariant-loop-set l =
    (l.into.items ≡ l.initial.into.items ++ flat_map set_line (take l.set-index l.sets))
    × (list_all fitting_set (take l.set-index l.sets) ≡ true)
