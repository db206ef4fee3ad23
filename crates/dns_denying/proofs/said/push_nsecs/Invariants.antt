use Rattle.std.proofs.Common.{◌≡◌, ◌++◌, take}
use Rattle.std.specs.List.{filter_map}
use Rattle.dns_rules.specs.Denying.{owned_nsec}
use Rattle.dns_denying.proofs.said.push_nsecs.Given as goal

abbrev pub invariant-loop-found : goal.invariant-loop-found
invariant-loop-found l = l.nsecs.items ≡ l.initial.nsecs.items ++ filter_map owned_nsec (take l.found-index l.records)
