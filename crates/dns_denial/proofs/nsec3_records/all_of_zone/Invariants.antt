use Rattle.std.proofs.Common.{◌≡◌, take, true}
use Rattle.std.specs.List.{list_all}
use Rattle.dns_rules.specs.Nsec3Verdict.{is_of_zone}
use Rattle.dns_denial.proofs.nsec3_records.all_of_zone.Given as goal

-- the records so far stand below the zone's apex
abbrev pub invariant-loop-nsec3 : goal.invariant-loop-nsec3
invariant-loop-nsec3 l = list_all (is_of_zone l.zone) (take l.nsec3-index l.nsec3s) ≡ true
