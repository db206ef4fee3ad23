use Rattle.std.proofs.Common.{◌≡◌, ◌++◌, length, map}
use Rattle.std.specs.List.{list_all}
use Rattle.dns_text.specs.Lines.{line_rest}
use Rattle.dns_report.specs.TrailView.{fitting_ask}
use Rattle.dns_report.specs.TrailLines.{ask_word}
use Rattle.dns_report.proofs.judged.push_asks.Given as goal

abbrev pub invariant-asks : goal.invariant-asks
invariant-asks l =
    (l.into.items ++ line_rest (map ask_word l.left) ≡ l.initial.into.items ++ line_rest (map ask_word l.asks))
    × (list_all fitting_ask l.asks ≡ list_all fitting_ask l.left)

abbrev pub decreases-asks : goal.decreases-asks
decreases-asks l = length l.left
