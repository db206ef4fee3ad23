use Rattle.std.proofs.Common.{◌≡◌, take, false}
use Rattle.std.specs.Prelude.{◌&&◌}
use Rattle.std.specs.List.{list_any}
use Rattle.dns_model.specs.Types.{type_ds}
use Rattle.dns_rules.specs.Delegations.{is_readable_ds}
use Rattle.dns_marks.specs.ZoneVerdicts.{is_record_of}
use Rattle.dns_marks.proofs.zone_verdict.has_readable_ds.Given as goal

-- none of the records so far can be read as one
abbrev pub invariant-loop-next : goal.invariant-loop-next
invariant-loop-next l =
    list_any (λ r. is_record_of l.class.0 l.zone type_ds r && is_readable_ds r) (take l.next-index l.answers) ≡ false
