use Rattle.std.proofs.Common.{◌≡◌, take, false}
use Rattle.dns_rules.specs.NsecVerdict.{wildcard_denies}
use Rattle.dns_denial.proofs.nsec_records.some_denies.Given as goal

-- none of the records so far shows it
abbrev pub invariant-loop-nsec : goal.invariant-loop-nsec
invariant-loop-nsec l = wildcard_denies l.record_type.0 l.wildcard (take l.nsec-index l.nsecs) ≡ false
