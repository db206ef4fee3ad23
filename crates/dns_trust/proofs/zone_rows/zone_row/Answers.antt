use Rattle.std.proofs.Common.{rules, ◌≡◌, None, Some, IfOk, subst, sym, ap, ◌∙◌}
use Rattle.std.specs.List.{find}
use Rattle.std.specs.Option.{option_map}
use Rattle.dns_rules.specs.Delegations.{is_ds_set_of, verdict_without_ds, zone_verdict}
use Rattle.dns_rules.specs.ChainedSets.{ChainedSet, bare}
use Rattle.dns_trust.specs.Verdicts.{listed}
use Rattle.dns_trust.specs.ZoneRows.{row_of}
use Rattle.dns_trust.proofs.ByRow.{failed_row, found_row, without_row}
use Rattle.dns_trust.proofs.zone_rows.zone_row.Goals as goal

pub returns-in_default : goal.returns-in_default
returns-in_default g c =
    let v = g.V.Verifier.answers c.args.verifier.now in
    failed_row v c.args.class.0 c.args.zone.now
    ∙ ap (λ o. row_of (zone_verdict v c.args.class.0 c.args.zone.now (option_map bare (listed o)))) (sym c.in_default.is)

pub returns-in-Some-ds_set_of : goal.returns-in-Some-ds_set_of
returns-in-Some-ds_set_of g c =
    let v = g.V.Verifier.answers c.args.verifier.now in
    let one : find (λ (s : ChainedSet). is_ds_set_of c.args.class.0 c.args.zone.now s.judged) c.in-Some.sets.items
    ≡ Some c.in-Some-ds_set_of.found.now =
    search rules in
    c.row_by_set.ensures ∙ found_row v c.args.class.0 c.args.zone.now c.in-Some.sets.items c.in-Some-ds_set_of.found.now one
    ∙ ap (λ o. row_of (zone_verdict v c.args.class.0 c.args.zone.now (option_map bare (listed o)))) (sym c.in-Some.is)

pub returns-in-None : goal.returns-in-None
returns-in-None g c =
    let v = g.V.Verifier.answers c.args.verifier.now in
    let none : find (λ (s : ChainedSet). is_ds_set_of c.args.class.0 c.args.zone.now s.judged) c.in-Some.sets.items ≡ None = search rules in
    subst (λ w. IfOk c.row_without_ds.result (λ row. row ≡ w))
    (ap (λ xs. row_of (verdict_without_ds c.args.zone.now (bare xs))) c.deref-in-None.ensures.value
    ∙ without_row v c.args.class.0 c.args.zone.now c.in-Some.sets.items none
    ∙ ap (λ o. row_of (zone_verdict v c.args.class.0 c.args.zone.now (option_map bare (listed o)))) (sym c.in-Some.is))
    c.row_without_ds.ensures
