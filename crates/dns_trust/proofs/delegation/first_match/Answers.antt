use Rattle.std.proofs.Common.{◌∙◌, sym}
use Rattle.dns_model.specs.Records.{Rr}
use Rattle.dns_model.specs.Keys.{ds_covers_key}
use Rattle.dns_trust.specs.Delegating.{shown}
use Rattle.dns_trust.proofs.Searches.{find_here, find_past}
use Rattle.dns_trust.proofs.Shown.{shown_at, shown_within}
use Rattle.dns_trust.proofs.delegation.first_match.Goals as goal

pub returns-then-is_match : goal.returns-then-is_match
returns-then-is_match g c =
    sym (find_here (λ (r : Rr). ds_covers_key (g.V.Verifier.answers c.args.verifier.now) c.args.owner.now c.args.key.now.rdata r.rdata)
    (shown c.args.records.now)
    c.loop-ds.ds-index c.ds-item.result.now (shown_within c.args.records.now c.loop-ds.ds-index c.loop-ds-test.true)
    (shown_at c.args.records.now c.loop-ds.ds-index c.ds-item.result c.ds-item.is) (sym c.is_match.ensures ∙ c.if-is_match.true))
    ∙ c.loop-ds.invariant

pub loop-ds-preserved : goal.loop-ds-preserved
loop-ds-preserved g c =
    find_past (λ (r : Rr). ds_covers_key (g.V.Verifier.answers c.args.verifier.now) c.args.owner.now c.args.key.now.rdata r.rdata)
    (shown c.args.records.now)
    c.loop-ds.ds-index c.ds-item.result.now (shown_within c.args.records.now c.loop-ds.ds-index c.loop-ds-test.true)
    (shown_at c.args.records.now c.loop-ds.ds-index c.ds-item.result c.ds-item.is) (sym c.is_match.ensures ∙ c.if-is_match.false)
    ∙ c.loop-ds.invariant
