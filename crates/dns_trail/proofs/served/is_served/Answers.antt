use Rattle.std.proofs.Common.{ap, ◌∙◌, subst}
use Rattle.dns_rules.specs.CacheKeys.{key_of}
use Rattle.dns_trust.specs.Judge.{judge_of}
use Rattle.dns_trail.specs.Indexed.{HaveKey}
use Rattle.dns_trail.proofs.ServedLemmas.{served_there}
use Rattle.dns_trail.proofs.served.is_served.Goals as goal

pub kept-init : goal.kept-init
kept-init g c =
    let j = judge_of g.V.Verifier.answers c.args.context.now.judge.now in
    let kept = c.args.context.now.cached.now in
    let there = c.places_with-left.result.now in
    let key = c.in_ok-key.ensures ∙ ap (λ p. key_of c.args.context.now.query.now p.set) c.placed.view_is in
    served_there c.args.context.now.judge.now.moment j c.args.context.now.query.now c.args.placed.now c.args.entry.now there kept
    (subst (λ k. HaveKey k there kept) key c.places_with-left.ensures)
