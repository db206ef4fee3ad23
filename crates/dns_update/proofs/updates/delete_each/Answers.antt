use Rattle.std.proofs.Common.{set, sym, ap, ◌∙◌}
use Rattle.std.proofs.lemmas.List.Edits.{map_over_more}
use Rattle.dns_model.specs.Records.{Rr}
use Rattle.dns_update.specs.Updates.{deletion_of}
use Rattle.dns_update.proofs.updates.delete_each.Goals as goal

pub loop-deleted-preserved : goal.loop-deleted-preserved
loop-deleted-preserved c =
    let now = c.loop-deleted.records in
    let i = c.loop-deleted.deleted-index in
    ap (λ (r : Rr). set now i (deletion_of r)) (c.deleted.view_is ∙ sym c.deleted-item.is)
    ∙ map_over_more deletion_of c.args.records.now now i c.deleted-item.result
    c.loop-deleted-test.true c.loop-deleted.invariant c.deleted-item.is
