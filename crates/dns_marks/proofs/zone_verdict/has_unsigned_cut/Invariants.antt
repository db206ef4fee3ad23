use Rattle.std.proofs.Common.{◌≡◌, take, false}
use Rattle.std.specs.Prelude.{◌&&◌}
use Rattle.std.specs.List.{list_any}
use Rattle.dns_model.specs.Types.{type_nsec}
use Rattle.dns_rules.specs.Delegations.{shows_unsigned_cut}
use Rattle.dns_marks.specs.ZoneVerdicts.{is_record_of}
use Rattle.dns_marks.proofs.zone_verdict.has_unsigned_cut.Given as goal

-- none of the records so far shows one
abbrev pub invariant-loop-next : goal.invariant-loop-next
invariant-loop-next l =
    list_any (λ r. is_record_of l.class.0 l.zone type_nsec r && shows_unsigned_cut r) (take l.next-index l.authorities)
    ≡ false
