use Rattle.std.proofs.Common.{◌≡◌}
use Rattle.big_numbers.specs.Limbs.{value}
use Rattle.edwards_curves.specs.Points.{multiple_after}
use Rattle.edwards_curves.proofs.points.Point.multiple.Given as goal

abbrev pub invariant-loop-done : goal.invariant-loop-done
invariant-loop-done l = l.so_far ≡ multiple_after l.self (value l.number) 253 l.done
