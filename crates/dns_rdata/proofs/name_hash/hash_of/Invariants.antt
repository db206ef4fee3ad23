use Rattle.std.proofs.Common.{◌≡◌}
use Rattle.dns_model.specs.Nsec3Hash.{iterated_hash}
use Rattle.dns_rdata.proofs.name_hash.hash_of.Given as goal

-- the hash after the rounds so far
abbrev pub invariant-loop-round : goal.invariant-loop-round
invariant-loop-round l = l.hash ≡ iterated_hash l.salt l.bytes l._round
