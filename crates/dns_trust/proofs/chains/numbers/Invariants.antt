use Rattle.std.proofs.Common.{◌≡◌, ◌+◌, ◌++◌, drop}
use Rattle.dns_rules.specs.ChainedSets.{numbers_from}
use Rattle.dns_trust.proofs.chains.numbers.Given as goal

-- the numbers so far, and those of the keys that are left
abbrev pub invariant-loop-place : goal.invariant-loop-place
invariant-loop-place l = l.numbers.items ++ numbers_from (l.first + l.place) (drop l.place l.keys) ≡ numbers_from l.first l.keys
