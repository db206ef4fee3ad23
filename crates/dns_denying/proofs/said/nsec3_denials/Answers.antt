use Rattle.std.proofs.Common.{◌≡◌, ◌∷◌, [], ◌++◌, take, sym, ap, ◌∙◌}
use Rattle.dns_model.specs.Types.{type_nsec3}
use Rattle.dns_rules.specs.ChainedSets.{bare}
use Rattle.dns_rules.specs.Denying.{owned_nsec3, hashed_denials}
use Rattle.dns_rules.proofs.BareLemmas.{bare_more}
use Rattle.dns_denying.proofs.SaidLemmas.{said-push}
use Rattle.dns_denying.proofs.said.nsec3_denials.Goals as goal

pub loop-set-preserved : goal.loop-set-preserved
loop-set-preserved c =
    let sets = c.args.sets.now in
    let x = c.set-item.result in
    let met = bare (take c.loop-set.set-index sets) in
    let judged : c.set.inside.judged ≡ x.judged = ap (λ s. s.judged) c.set.view_is in
    c.in_ok-push_hashed_denials.ensures ∙ ap (λ j. c.loop-set.nsec3s.items ++ hashed_denials (j ∷ [])) judged
    ∙ ap (λ l. l ++ hashed_denials (x.judged ∷ [])) c.loop-set.invariant ∙ sym (said-push type_nsec3 owned_nsec3 met x.judged)
    ∙ ap hashed_denials (sym (bare_more sets c.loop-set.set-index x c.loop-set-test.true c.set-item.is))
