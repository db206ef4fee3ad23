use Rattle.std.proofs.Common.{◌≡◌, drop}
use Rattle.std.specs.List.{find}
use Rattle.dns_rules.specs.Nsec3Covering.{is_considered}
use Rattle.dns_denial.proofs.nsec3_parameters.first_considered.Given as goal

-- the search goes on among the records that are left
abbrev pub invariant-loop-nsec3 : goal.invariant-loop-nsec3
invariant-loop-nsec3 l = find is_considered (drop l.nsec3-index l.nsec3s) ≡ find is_considered l.nsec3s
