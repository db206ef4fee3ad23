use Rattle.std.proofs.Common.{◌≡◌, drop}
use Rattle.dns_text.specs.Digits.{read_after}
use Rattle.dns_text.proofs.decimals.read_digits.Given as goal

abbrev pub invariant-loop-byte : goal.invariant-loop-byte
invariant-loop-byte l = read_after l.number (drop l.byte-index l.word) ≡ read_after 0 l.word
