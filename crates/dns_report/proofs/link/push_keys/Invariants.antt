use Rattle.std.proofs.Common.{◌≡◌, ◌++◌, length}
use Rattle.std.specs.List.{list_all}
use Rattle.dns_text.specs.Lines.{line_rest}
use Rattle.dns_report.specs.View.{numbered, fitting_key}
use Rattle.dns_report.specs.Report.{key_words}
use Rattle.dns_report.proofs.link.push_keys.Given as goal

abbrev pub invariant-keys : goal.invariant-keys
invariant-keys l =
    (l.into.items ++ line_rest (key_words (numbered l.left l.right)) ≡ l.initial.into.items
    ++ line_rest (key_words (numbered l.keys l.numbers)))
    × (list_all fitting_key (numbered l.keys l.numbers) ≡ list_all fitting_key (numbered l.left l.right))

abbrev pub decreases-keys : goal.decreases-keys
decreases-keys l = length l.left
