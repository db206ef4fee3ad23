use Rattle.std.proofs.Common.{◌≡◌, drop}
use Rattle.std.specs.List.{find}
use Rattle.dns_rules.specs.NsecVerdict.{is_owned_by}
use Rattle.dns_denial.proofs.nsec_records.owned_by.Given as goal

-- the search goes on among the records that are left
abbrev pub invariant-loop-nsec : goal.invariant-loop-nsec
invariant-loop-nsec l = find (is_owned_by l.name) (drop l.nsec-index l.nsecs) ≡ find (is_owned_by l.name) l.nsecs
