use Rattle.std.proofs.Common.{◌≡◌, take, sym, ap, ◌∙◌}
use Rattle.dns_rules.specs.ChainedSets.{bare}
use Rattle.dns_outcome.specs.Expansions.{fewer, expanded_labels}
use Rattle.dns_rules.proofs.BareLemmas.{bare_more}
use Rattle.dns_outcome.proofs.ExpansionLemmas.{fewest, fewest-push, fewest_none}
use Rattle.dns_outcome.proofs.answering.fewest_labels.Goals as goal

pub loop-set-init : goal.loop-set-init
loop-set-init c = fewest_none c.args.query.now

pub loop-set-preserved : goal.loop-set-preserved
loop-set-preserved c =
    let q = c.args.query.now in
    let sets = c.args.sets.now in
    let x = c.set-item.result in
    let met = bare (take c.loop-set.set-index sets) in
    let judged : c.set.inside.judged ≡ x.judged = ap (λ s. s.judged) c.set.view_is in
    c.fewer-fewest.ensures ∙ ap (fewer c.loop-set.fewest) (c.expanded_labels.ensures ∙ ap (expanded_labels q) judged)
    ∙ ap (λ o. fewer o (expanded_labels q x.judged)) c.loop-set.invariant ∙ sym (fewest-push q met x.judged)
    ∙ ap (fewest q) (sym (bare_more sets c.loop-set.set-index x c.loop-set-test.true c.set-item.is))
