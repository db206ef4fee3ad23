use Rattle.std.proofs.Common.{◌≡◌, take, ◌&&◌}
use Rattle.std.specs.List.{filter}
use Rattle.dns_model.specs.Types.{type_ds}
use Rattle.dns_rules.specs.Delegations.{is_supported_ds}
use Rattle.dns_marks.specs.ZoneVerdicts.{is_record_of}
use Rattle.dns_marks.proofs.zone_verdict.supported.Given as goal

-- those of the records so far that are supported are copied
abbrev pub invariant-loop-next : goal.invariant-loop-next
invariant-loop-next g l =
    l.supported.items ≡ filter (λ r. is_record_of l.class.0 l.zone type_ds r
    && is_supported_ds (g.V.Verifier.answers l.verifier) r) (take l.next-index l.answers)
