use Rattle.std.proofs.Common.{◌≡◌, take, true}
use Rattle.dns_rules.specs.Nsec3Verdict.{is_shared}
use Rattle.dns_denial.proofs.nsec3_parameters.Nsec3Parameters.are_shared.Given as goal

-- the records so far have them
abbrev pub invariant-loop-nsec3 : goal.invariant-loop-nsec3
invariant-loop-nsec3 l = is_shared (take l.nsec3-index l.nsec3s) l.self ≡ true
