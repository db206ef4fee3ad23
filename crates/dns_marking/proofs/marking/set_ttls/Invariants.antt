use Rattle.std.proofs.Common.{◌≡◌, take}
use Rattle.dns_rules.specs.ChainedSets.{bare}
use Rattle.dns_marking.specs.Timing.{set_ttls}
use Rattle.dns_marking.proofs.marking.set_ttls.Given as goal

abbrev pub invariant-loop-set : goal.invariant-loop-set
invariant-loop-set l = l.ttls.items ≡ set_ttls l.now (bare (take l.set-index l.sets))
