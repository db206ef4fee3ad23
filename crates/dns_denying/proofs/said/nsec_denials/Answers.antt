use Rattle.std.proofs.Common.{◌≡◌, ◌∷◌, [], ◌++◌, take, sym, ap, ◌∙◌}
use Rattle.dns_model.specs.Types.{type_nsec}
use Rattle.dns_rules.specs.ChainedSets.{bare}
use Rattle.dns_rules.specs.Denying.{owned_nsec, denials}
use Rattle.dns_rules.proofs.BareLemmas.{bare_more}
use Rattle.dns_denying.proofs.SaidLemmas.{said-push}
use Rattle.dns_denying.proofs.said.nsec_denials.Goals as goal

pub loop-set-preserved : goal.loop-set-preserved
loop-set-preserved c =
    let sets = c.args.sets.now in
    let x = c.set-item.result in
    let met = bare (take c.loop-set.set-index sets) in
    let judged : c.set.inside.judged ≡ x.judged = ap (λ s. s.judged) c.set.view_is in
    c.in_ok-push_denials.ensures ∙ ap (λ j. c.loop-set.nsecs.items ++ denials (j ∷ [])) judged
    ∙ ap (λ l. l ++ denials (x.judged ∷ [])) c.loop-set.invariant ∙ sym (said-push type_nsec owned_nsec met x.judged)
    ∙ ap denials (sym (bare_more sets c.loop-set.set-index x c.loop-set-test.true c.set-item.is))
