use Rattle.std.proofs.Common.{◌≡◌, ◌++◌, length, map}
use Rattle.dns_presentation.specs.Spelling.{spaced}
use Rattle.std.specs.Fmt.{decimal}
use Rattle.dns_presentation.proofs.words.push_numbers.Given as goal

abbrev pub invariant-numbers : goal.invariant-numbers
invariant-numbers l = l.into.items ++ spaced (map decimal l.rest)
    ≡ l.initial.into.items ++ spaced (map decimal l.numbers)

abbrev pub decreases-numbers : goal.decreases-numbers
decreases-numbers l = length l.rest
