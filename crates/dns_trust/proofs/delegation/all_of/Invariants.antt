use Rattle.std.proofs.Common.{◌≡◌, take}
use Rattle.dns_trust.specs.Delegating.{shown}
use Rattle.dns_trust.proofs.delegation.all_of.Given as goal

-- the records so far are shown
abbrev pub invariant-loop-ds : goal.invariant-loop-ds
invariant-loop-ds l = shown l.all.items ≡ take l.ds-index l.records
