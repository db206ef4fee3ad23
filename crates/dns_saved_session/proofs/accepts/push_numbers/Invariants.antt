use Rattle.std.proofs.Common.{◌≡◌, ◌++◌, length, map}
use Rattle.std.specs.Fmt.{decimal}
use Rattle.dns_model.specs.Bytes.{is_bytes}
use Rattle.dns_text.specs.Lines.{line_rest}
use Rattle.dns_saved_session.proofs.accepts.push_numbers.Given as goal

abbrev pub invariant-numbers : goal.invariant-numbers
invariant-numbers l =
    (l.into.items ++ line_rest (map decimal l.left) ≡ l.initial.into.items ++ line_rest (map decimal l.numbers))
    × (is_bytes l.numbers ≡ is_bytes l.left)

abbrev pub decreases-numbers : goal.decreases-numbers
decreases-numbers l = length l.left
