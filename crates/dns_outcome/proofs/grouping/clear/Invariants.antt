use Rattle.std.proofs.Common.{◌≡◌, ◌++◌, map, take, drop}
use Rattle.dns_rules.specs.Marking.{cleared}
use Rattle.dns_outcome.proofs.grouping.clear.Given as goal

abbrev pub invariant-loop-next : goal.invariant-loop-next
invariant-loop-next l = l.records ≡ map cleared (take l.next-index l.initial.records) ++ drop l.next-index l.initial.records
