use Rattle.std.proofs.Common.{◌≡◌, take}
use Rattle.dns_rules.specs.ChainedSets.{bare}
use Rattle.dns_rules.specs.Denying.{denials}
use Rattle.dns_denying.proofs.said.nsec_denials.Given as goal

abbrev pub invariant-loop-set : goal.invariant-loop-set
invariant-loop-set l = l.nsecs.items ≡ denials (bare (take l.set-index l.sets))
