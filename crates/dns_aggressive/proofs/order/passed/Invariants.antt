use Rattle.std.proofs.Common.{◌-◌}
use Rattle.dns_aggressive.specs.Orders.{IsParted}
use Rattle.dns_aggressive.proofs.order.passed.Given as goal

abbrev pub invariant-halves : goal.invariant-halves
invariant-halves g l = IsParted (g.P.Probe.passes l.probe) l.kept l.order l.low l.high

abbrev pub decreases-halves : goal.decreases-halves
decreases-halves g l = l.high - l.low
