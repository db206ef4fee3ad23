use Rattle.std.proofs.Common.{◌≡◌}
use Rattle.dns_denial_index.specs.Places.{number_all}
use Rattle.dns_denial_index.proofs.places.in_order.Given as goal

-- the keys so far have their numbers
abbrev pub invariant-loop-key : goal.invariant-loop-key
invariant-loop-key l = l.numbered.items ≡ number_all 0 l.yielded
