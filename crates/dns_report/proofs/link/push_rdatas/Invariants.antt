use Rattle.std.proofs.Common.{◌≡◌, ◌++◌, length, map}
use Rattle.std.specs.List.{list_all}
use Rattle.dns_model.specs.Bytes.{is_bytes}
use Rattle.dns_text.specs.Words.{octets_word}
use Rattle.dns_text.specs.Lines.{line_rest}
use Rattle.dns_report.proofs.link.push_rdatas.Given as goal

abbrev pub invariant-rdatas : goal.invariant-rdatas
invariant-rdatas l =
    (l.into.items ++ line_rest (map octets_word l.left) ≡ l.initial.into.items ++ line_rest (map octets_word l.rdatas))
    × (list_all is_bytes l.rdatas ≡ list_all is_bytes l.left)

abbrev pub decreases-rdatas : goal.decreases-rdatas
decreases-rdatas l = length l.left
