use Rattle.std.proofs.Common.{rules, ◌≡◌, ◌&&◌, true, false, [], sym, ap, ◌∙◌}
use Rattle.dns_model.specs.Chains.{judge}
use Rattle.dns_rules.specs.Asking.{effective}
use Rattle.dns_rules.specs.CacheEntries.{live}
use Rattle.dns_rules.specs.Derivation.{steps_hold, has_order}
use Rattle.dns_trail.proofs.OrderedLemmas.{derivation_by_order}
use Rattle.dns_trail.proofs.OkLemmas.{ok_map}
use Rattle.dns_trail.proofs.check.check_trail.Goals as goal

pub returns-then-not-is_in_order : goal.returns-then-not-is_in_order
returns-then-not-is_in_order g c =
    let j = judge (g.V.Verifier.answers c.args.verifier.now) c.args.anchors.now c.args.now in
    let t = c.args.trail.now in
    let kept = live c.args.now c.args.cached.now in
    let no : has_order t ≡ false = search rules in
    sym (derivation_by_order j c.args.limits.now kept t ∙ ap (λ b. b && steps_hold j (effective c.args.limits.now) kept [] t) no)

pub returns : goal.returns
returns g c =
    let j = judge (g.V.Verifier.answers c.args.verifier.now) c.args.anchors.now c.args.now in
    let t = c.args.trail.now in
    let kept = live c.args.now c.args.cached.now in
    let yes : has_order t ≡ true = search rules in
    ok_map c.steps_hold.result
    (λ b h.
    h ∙ ap (λ es. steps_hold j c.effective.result (live c.args.now es) [] c.deref-2.result.now) c.in_ok-kept.ensures
    ∙ ap (λ n. steps_hold j n kept [] c.deref-2.result.now) c.effective.ensures
    ∙ ap (steps_hold j (effective c.args.limits.now) kept []) (c.deref-2.ensures.value ∙ c.trail.view_is)
    ∙ sym (derivation_by_order j c.args.limits.now kept t ∙ ap (λ b. b && steps_hold j (effective c.args.limits.now) kept [] t) yes))
    c.steps_hold.ensures
