use Rattle.std.proofs.Common.{set, sym, ap, ◌∙◌}
use Rattle.std.proofs.lemmas.List.Edits.{map_over_more}
use Rattle.dns_model.specs.Records.{Rr}
use Rattle.dns_update.specs.Updates.{must_be}
use Rattle.dns_update.proofs.updates.require_each.Goals as goal

pub loop-required-preserved : goal.loop-required-preserved
loop-required-preserved c =
    let now = c.loop-required.records in
    let i = c.loop-required.required-index in
    ap (λ (r : Rr). set now i (must_be r)) (c.required.view_is ∙ sym c.required-item.is)
    ∙ map_over_more must_be c.args.records.now now i c.required-item.result
    c.loop-required-test.true c.loop-required.invariant c.required-item.is
