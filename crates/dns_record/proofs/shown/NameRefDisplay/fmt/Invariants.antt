use Rattle.std.proofs.Common.{◌≡◌, ℕ, List, ◌++◌, length}
use Rattle.std.specs.List.{flat_map}
use Rattle.std.specs.Fmt.{HasWritten, IsPlainFormatter}
use Rattle.dns_model.specs.NameText.{printed_label}
use Rattle.dns_record.proofs.shown.NameRefDisplay.fmt.Given as goal

abbrev pub invariant-labels : goal.invariant-labels
invariant-labels g l =
    IsPlainFormatter l.initial.f
    → (done : List ℕ) × HasWritten g.W.Write.write_str_gives l.initial.f done l.f
    × (done ++ flat_map printed_label l.rest ≡ flat_map printed_label l.initial.rest)

abbrev pub decreases-labels : goal.decreases-labels
decreases-labels g l = length l.rest
