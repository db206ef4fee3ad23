use Rattle.std.proofs.Common.{◌≡◌, map}
use Rattle.dns_denial_index.specs.Places.{key_of}
use Rattle.dns_denial_index.proofs.places.without_numbers.Given as goal

-- the keys so far
abbrev pub invariant-loop-key : goal.invariant-loop-key
invariant-loop-key l = l.keys.items ≡ map key_of l.yielded
