use Rattle.std.proofs.Common.{rules, ◌≡◌, ◌<◌, List, [], ◌∷◌, ◌++◌, length, get_or, subst, sym, ap, ◌∙◌}
use Rattle.std.specs.List.{filter_map}
use Rattle.dns_model.specs.Records.{Rr}
use Rattle.dns_model.specs.SoundAnswers.{ChainValue}
use Rattle.dns_aggressive.specs.Chains.{AreIndexed}
use Rattle.dns_aggressive.specs.Taking.{taken_as}
use Rattle.dns_aggressive.proofs.Loops.{mapped_more}
use Rattle.dns_aggressive.proofs.taking.taken.Goals as goal

pub loop-met-preserved : goal.loop-met-preserved
loop-met-preserved c =
    let chains = c.args.response.now.chains in
    let records = c.args.response.now.message.authorities in
    let x = c.met-item.result in
    let i = c.loop-met.met-index in
    let seen : c.deref-met-items.result.now ≡ records = search rules in
    let all : c.deref.result.now ≡ chains = search rules in
    let indexed : AreIndexed c.in_ok-chains.chains chains =
    subst (λ (l : List ChainValue). AreIndexed c.in_ok-chains.chains l) all c.in_ok-chains.ensures in
    c.in_ok-push_taken.ensures chains indexed
    ∙ ap (λ l. l ++ filter_map (taken_as chains c.args.now) (x ∷ [])) c.loop-met.invariant
    ∙ sym (mapped_more (taken_as chains c.args.now) records i x
    (subst (λ (l : List Rr). i < length l) seen c.loop-met-test.true)
    (c.met-item.is ∙ ap (λ l. get_or l i x) seen))
