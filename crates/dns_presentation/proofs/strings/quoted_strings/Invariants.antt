use Rattle.std.proofs.Common.{◌≡◌, length}
use Rattle.std.specs.Option.{option_map}
use Rattle.dns_presentation.specs.Forms.{quoted_words, strings_in}
use Rattle.dns_presentation.proofs.ListLemmas.{strings_after}
use Rattle.dns_presentation.proofs.strings.quoted_strings.Given as goal

-- the words so far, and those of the texts that are left
abbrev pub invariant-strings : goal.invariant-strings
invariant-strings l =
    strings_after l.words.items (strings_in l.rest l.rest) ≡ option_map quoted_words (strings_in l.bytes l.bytes)

abbrev pub decreases-strings : goal.decreases-strings
decreases-strings l = length l.rest
