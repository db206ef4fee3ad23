use Rattle.std.proofs.Common.{◌≡◌, take, false}
use Rattle.dns_marks.specs.ZoneVerdicts.{has_ds_set}
use Rattle.dns_marks.proofs.zone_verdict.has_ds_set.Given as goal

-- none of the records so far is a DS of the zone
abbrev pub invariant-loop-next : goal.invariant-loop-next
invariant-loop-next l = has_ds_set l.class.0 l.zone (take l.next-index l.answers) ≡ false
