use Rattle.std.proofs.Common.{◌≡◌, ◌++◌, length}
use Rattle.std.specs.List.{flat_map}
use Rattle.dns_presentation.specs.Spelling.{quoted_byte}
use Rattle.dns_presentation.proofs.names.push_quoted.Given as goal

abbrev pub invariant-bytes : goal.invariant-bytes
invariant-bytes l = l.into.items ++ flat_map quoted_byte l.rest ≡ l.initial.into.items ++ flat_map quoted_byte l.text

abbrev pub decreases-bytes : goal.decreases-bytes
decreases-bytes l = length l.rest
