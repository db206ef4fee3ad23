use Rattle.std.proofs.Common.{take}
use Rattle.dns_trust.specs.Delegating.{KeepsFirstTwo, shown}
use Rattle.dns_trust.proofs.delegation.counted_in.Given as goal

-- of the records so far the first two are counted
abbrev pub invariant-loop-ds : goal.invariant-loop-ds
invariant-loop-ds l = KeepsFirstTwo l.owner (take l.ds-index (shown l.records)) l.counted
