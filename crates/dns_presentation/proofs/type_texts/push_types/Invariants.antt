use Rattle.std.proofs.Common.{◌≡◌, ◌++◌, length, map}
use Rattle.dns_presentation.specs.Spelling.{spaced}
use Rattle.dns_presentation.specs.TypeTexts.{type_text}
use Rattle.dns_presentation.proofs.type_texts.push_types.Given as goal

abbrev pub invariant-types : goal.invariant-types
invariant-types l = l.into.items ++ spaced (map type_text l.rest)
    ≡ l.initial.into.items ++ spaced (map type_text l.types)

abbrev pub decreases-types : goal.decreases-types
decreases-types l = length l.rest
