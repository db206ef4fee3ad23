use Rattle.std.proofs.Common.{◌≡◌, take}
use Rattle.std.specs.List.{filter_map}
use Rattle.dns_rules.specs.Denying.{owned_nsec3}
use Rattle.dns_query_answer.proofs.nsec3_faults.nsec3s_in.Given as goal

abbrev pub invariant-loop-found : goal.invariant-loop-found
invariant-loop-found l = l.nsec3s.items ≡ filter_map owned_nsec3 (take l.found-index l.records)
