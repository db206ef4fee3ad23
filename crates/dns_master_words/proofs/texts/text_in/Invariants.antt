use Rattle.std.proofs.Common.{◌≡◌, length}
use Rattle.dns_master_words.specs.Texts.{text_in}
use Rattle.dns_master_words.proofs.TextLaws.{text_after}
use Rattle.dns_master_words.proofs.texts.text_in.Given as goal

-- the bytes so far, and those of what is left
abbrev pub invariant-bytes : goal.invariant-bytes
invariant-bytes l = text_after l.bytes.items (text_in l.rest) ≡ text_in l.text

abbrev pub decreases-bytes : goal.decreases-bytes
decreases-bytes l = length l.rest
