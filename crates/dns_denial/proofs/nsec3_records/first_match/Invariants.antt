use Rattle.std.proofs.Common.{◌≡◌, drop}
use Rattle.std.specs.List.{find}
use Rattle.dns_rules.specs.Nsec3Covering.{nsec3_matches}
use Rattle.dns_denial.proofs.nsec3_records.first_match.Given as goal

-- the search goes on among the records that are left
abbrev pub invariant-loop-nsec3 : goal.invariant-loop-nsec3
invariant-loop-nsec3 l = find (nsec3_matches l.hash) (drop l.nsec3-index l.nsec3s) ≡ find (nsec3_matches l.hash) l.nsec3s
