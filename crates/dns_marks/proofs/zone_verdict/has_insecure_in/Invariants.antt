use Rattle.std.proofs.Common.{◌≡◌, take, false}
use Rattle.std.specs.List.{list_any}
use Rattle.dns_marks.specs.ZoneVerdicts.{is_insecure_record_above}
use Rattle.dns_marks.proofs.zone_verdict.has_insecure_in.Given as goal

-- none of the records so far is one
abbrev pub invariant-loop-next : goal.invariant-loop-next
invariant-loop-next l = list_any (is_insecure_record_above l.class.0 l.zone) (take l.next-index l.records) ≡ false
