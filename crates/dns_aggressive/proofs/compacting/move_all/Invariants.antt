use Rattle.std.proofs.Common.{◌≡◌, ◌++◌, drop, map, take}
use Rattle.dns_aggressive.specs.Orders.{nth}
use Rattle.dns_aggressive.proofs.compacting.move_all.Given as goal

abbrev pub invariant-loop-number : goal.invariant-loop-number
invariant-loop-number l = l.order ≡ map (nth l.moved) (take l.number l.initial.order) ++ drop l.number l.initial.order
