use Rattle.std.proofs.Common.{◌≡◌, drop}
use Rattle.dns_roll.specs.RollGrammar.{fall_of}
use Rattle.dns_roll.proofs.Moments.{fall_left}
use Rattle.dns_roll.proofs.reading.fall_of.Given as goal

-- the first fall comes among those that are left
abbrev pub invariant-loop-place : goal.invariant-loop-place
invariant-loop-place l = fall_of l.sights ≡ fall_left l.place l.last (drop l.place l.sights)
