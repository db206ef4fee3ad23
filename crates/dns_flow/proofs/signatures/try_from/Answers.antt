use Rattle.std.proofs.Common.{sym, ◌∙◌}
use Rattle.std.proofs.lemmas.Result.{IfOk-weaker}
use Rattle.dns_flow.specs.Phases.{first_signatures}
use Rattle.dns_flow.proofs.Tries.{fewer, skip_on, stops_trying, stops_marked}
use Rattle.dns_flow.proofs.signatures.try_from.Goals as goal

pub signatures-smaller : goal.signatures-smaller
signatures-smaller c =
    fewer (first_signatures c.args.placed.set) _ _ _ _ c.in_ok-push.ensures.items (sym c.skips_next.ensures ∙ c.signatures-test.true)

pub signatures-preserved : goal.signatures-preserved
signatures-preserved c =
    skip_on c.args.query.now c.args.placed _ _ c.in_ok-push.ensures.items (sym c.skips_next.ensures ∙ c.signatures-test.true)
    ∙ c.signatures.invariant

pub returns-then-has_next : goal.returns-then-has_next
returns-then-has_next c =
    stops_trying c.args.query.now c.args.placed c.signatures.verdicts.items (sym c.skips_next.ensures ∙ c.signatures-test.false)
    (sym c.has_next.ensures ∙ c.if-has_next.true)
    ∙ c.signatures.invariant

pub returns-else-has_next : goal.returns-else-has_next
returns-else-has_next c =
    let end =
    stops_marked c.args.query.now c.args.placed c.signatures.verdicts.items (sym c.skips_next.ensures ∙ c.signatures-test.false)
    (sym c.has_next.ensures ∙ c.if-has_next.false)
    ∙ c.signatures.invariant in
    IfOk-weaker c.marked_by.result _ _ (λ p is. is ∙ end) c.marked_by.ensures
