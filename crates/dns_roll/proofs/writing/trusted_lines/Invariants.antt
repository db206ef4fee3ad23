use Rattle.std.proofs.Common.{◌≡◌, take}
use Rattle.std.specs.List.{flat_map}
use Rattle.dns_roll.specs.TrustedText.{texts_of, trusted_line}
use Rattle.dns_roll.proofs.writing.trusted_lines.Given as goal

-- the lines of those so far
abbrev pub invariant-loop-rdata : goal.invariant-loop-rdata
invariant-loop-rdata l = l.text.items ≡ flat_map trusted_line (take l.rdata-index (texts_of l.rdatas))
