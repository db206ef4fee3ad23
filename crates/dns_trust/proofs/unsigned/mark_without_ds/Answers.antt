use Rattle.std.proofs.Common.{◌≡◌, IfOk, subst, sym, ◌∙◌}
use Rattle.dns_trust.proofs.ByZone.{mark_shown, mark_hashed}
use Rattle.dns_trust.proofs.unsigned.mark_without_ds.Goals as goal

pub returns-then-is_insecure_without_ds : goal.returns-then-is_insecure_without_ds
returns-then-is_insecure_without_ds c =
    mark_shown c.args.zone.now c.args.sets.now (sym c.is_insecure_without_ds.ensures ∙ c.if-is_insecure_without_ds.true)

pub returns : goal.returns
returns c =
    subst (λ w. IfOk c.mark_by_hashes.result (λ mark. mark ≡ w))
    (mark_hashed c.args.zone.now c.args.sets.now (sym c.is_insecure_without_ds.ensures ∙ c.if-is_insecure_without_ds.false))
    c.mark_by_hashes.ensures
