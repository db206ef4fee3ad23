use Rattle.std.proofs.Common.{◌≡◌, take}
use Rattle.std.specs.List.{filter_map}
use Rattle.dns_rules.specs.Denying.{owned_nsec}
use Rattle.dns_query_answer.proofs.nsec_faults.nsecs_in.Given as goal

abbrev pub invariant-loop-found : goal.invariant-loop-found
invariant-loop-found l = l.nsecs.items ≡ filter_map owned_nsec (take l.found-index l.records)
