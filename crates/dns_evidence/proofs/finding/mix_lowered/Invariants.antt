use Rattle.std.proofs.Common.{◌≡◌, drop, length, map}
use Rattle.std.specs.Char.{to_ascii_lowercase}
use Rattle.dns_evidence.specs.Finding.{mixed}
use Rattle.dns_evidence.proofs.finding.mix_lowered.Given as goal

-- the number goes on with the bytes that are left
abbrev pub invariant-fours : goal.invariant-fours
invariant-fours l = mixed l.number (map to_ascii_lowercase l.rest) ≡ mixed l.seed (map to_ascii_lowercase l.bytes)

abbrev pub decreases-fours : goal.decreases-fours
decreases-fours l = length l.rest

abbrev pub invariant-bytes : goal.invariant-bytes
invariant-bytes l = mixed l.number (map to_ascii_lowercase (drop l.byte-index l.byte-items)) ≡ mixed l.seed (map to_ascii_lowercase l.bytes)
