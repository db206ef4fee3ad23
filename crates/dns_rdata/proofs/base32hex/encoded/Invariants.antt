use Rattle.std.proofs.Common.{◌≡◌, ◌+◌, ◌*◌, ◌++◌, length}
use Rattle.dns_model.specs.Nsec3Hash.{base32hex}
use Rattle.dns_rdata.proofs.base32hex.encoded.Given as goal

-- the symbols so far and those of the bytes that are left make the text
abbrev pub invariant-groups : goal.invariant-groups
invariant-groups l = (l.text.items ++ base32hex l.rest ≡ base32hex l.hash) × (length l.text.items * 5 + length l.rest * 8 ≡ 160)

abbrev pub decreases-groups : goal.decreases-groups
decreases-groups l = length l.rest
