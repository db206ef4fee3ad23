use Rattle.std.proofs.Common.{◌≡◌, ◌+◌, ◌*◌, ◌++◌, length}
use Rattle.dns_model.specs.Nsec3Hash.{base32hex_bytes}
use Rattle.dns_rdata.proofs.base32hex.bytes_of.Given as goal

-- the bytes so far and those of the symbols that are left make the hash
abbrev pub invariant-groups : goal.invariant-groups
invariant-groups l = (l.hash.items ++ base32hex_bytes l.rest ≡ base32hex_bytes l.text) × (length l.hash.items * 8 + length l.rest * 5 ≡ 160)

abbrev pub decreases-groups : goal.decreases-groups
decreases-groups l = length l.rest
