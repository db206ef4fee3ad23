use Rattle.std.proofs.Common.{◌≡◌, true, take}
use Rattle.dns_marks.specs.ZoneVerdicts.{are_secure_in_set}
use Rattle.dns_marks.proofs.zone_verdict.are_secure.Given as goal

-- those of the records so far are Secure
abbrev pub invariant-loop-next : goal.invariant-loop-next
invariant-loop-next l = are_secure_in_set l.class.0 l.name l.record_type.0 (take l.next-index l.records) ≡ true
