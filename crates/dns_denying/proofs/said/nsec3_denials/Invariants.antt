use Rattle.std.proofs.Common.{◌≡◌, take}
use Rattle.dns_rules.specs.ChainedSets.{bare}
use Rattle.dns_rules.specs.Denying.{hashed_denials}
use Rattle.dns_denying.proofs.said.nsec3_denials.Given as goal

abbrev pub invariant-loop-set : goal.invariant-loop-set
invariant-loop-set l = l.nsec3s.items ≡ hashed_denials (bare (take l.set-index l.sets))
