use Rattle.std.proofs.Common.{rules, ◌≡◌, ◌∷◌, length, map, None, Some, sym, ap, ◌∙◌}
use Rattle.std.specs.Option.{option_map}
use Rattle.dns_rules.specs.ChainedSets.{bare_verdicts}
use Rattle.dns_rules.specs.Derivation.{is_empty, verdicts_by}
use Rattle.dns_trust.specs.Verdicts.{verdict_value}
use Rattle.dns_trail.specs.Ended.{some_if}
use Rattle.dns_trail.specs.StepContexts.{step_context_by}
use Rattle.dns_trail.specs.Trying.{behind, tried_by}
use Rattle.dns_trail.specs.Values.{tried_value}
use Rattle.dns_trail.proofs.OkLemmas.{bare_more, no_more, seen_further}
use Rattle.dns_trail.proofs.TryLemmas.{tried_all, tried_more, tried_none, tried_proved}
use Rattle.dns_trail.proofs.verdicts.verdicts_by.Goals as goal

pub returns-in_default-2 : goal.returns-in_default-2
returns-in_default-2 g c =
    let gr = step_context_by g.V.Verifier.answers c.args.context.now in
    let done = bare_verdicts (map verdict_value c.signatures.verdicts.items) in
    let whole = verdicts_by gr c.args.set.now c.args.signatures.now c.args.asks.now in
    let first : c.signatures.signatures.now ≡ c.in-Some.signature.now ∷ c.in-Some.others.now = search rules in
    let none : tried_by gr c.args.set.now c.in-Some.signature.now c.signatures.asks.now ≡ None =
    sym c.in_ok-tried.ensures ∙ ap (option_map tried_value) c.in_default-2.is in
    tried_none gr c.args.set.now done c.signatures.signatures.now c.in-Some.signature.now c.in-Some.others.now
    c.signatures.asks.now whole c.signatures.invariant first none

pub returns-then-proved : goal.returns-then-proved
returns-then-proved g c =
    let gr = step_context_by g.V.Verifier.answers c.args.context.now in
    let done = bare_verdicts (map verdict_value c.signatures.verdicts.items) in
    let whole = verdicts_by gr c.args.set.now c.args.signatures.now c.args.asks.now in
    let first : c.signatures.signatures.now ≡ c.in-Some.signature.now ∷ c.in-Some.others.now = search rules in
    let tried : tried_by gr c.args.set.now c.in-Some.signature.now c.signatures.asks.now
    ≡ Some ((verdict_value c.in-Some-2.tried.verdict).verdict, c.in-Some-2.tried.left.now) =
    sym c.in_ok-tried.ensures ∙ ap (option_map tried_value) c.in-Some-2.is in
    let left = c.in-Some-2.tried.left.now in
    seen_further (λ v. v.items) (λ (vs : _). bare_verdicts (map verdict_value vs)) c.if_last.result
    (is_empty left) c.push.new.self.items c.if_last.ensures
    ∙ ap (λ vs. some_if (is_empty left) (bare_verdicts (map verdict_value vs))) c.in_ok-push.ensures.items
    ∙ ap (some_if (is_empty left)) (bare_more c.signatures.verdicts.items c.in-Some-2.tried.verdict)
    ∙ tried_proved gr c.args.set.now done c.signatures.signatures.now c.in-Some.signature.now c.in-Some.others.now
    c.signatures.asks.now whole
    (verdict_value c.in-Some-2.tried.verdict).verdict left c.signatures.invariant first tried (sym c.if-proved.ensures)

pub signatures-preserved : goal.signatures-preserved
signatures-preserved g c =
    let gr = step_context_by g.V.Verifier.answers c.args.context.now in
    let done = bare_verdicts (map verdict_value c.signatures.verdicts.items) in
    let whole = verdicts_by gr c.args.set.now c.args.signatures.now c.args.asks.now in
    let first : c.signatures.signatures.now ≡ c.in-Some.signature.now ∷ c.in-Some.others.now = search rules in
    let tried : tried_by gr c.args.set.now c.in-Some.signature.now c.signatures.asks.now
    ≡ Some ((verdict_value c.in-Some-2.tried.verdict).verdict, c.in-Some-2.tried.left.now) =
    sym c.in_ok-tried.ensures ∙ ap (option_map tried_value) c.in-Some-2.is in
    let left = c.in-Some-2.tried.left.now in
    let rest = verdicts_by gr c.args.set.now c.in-Some.others.now left in
    ap (λ vs. behind (bare_verdicts (map verdict_value vs)) rest) c.in_ok-push.ensures.items
    ∙ ap (λ vs. behind vs rest) (bare_more c.signatures.verdicts.items c.in-Some-2.tried.verdict)
    ∙ tried_more gr c.args.set.now done c.signatures.signatures.now c.in-Some.signature.now c.in-Some.others.now c.signatures.asks.now whole
    (verdict_value c.in-Some-2.tried.verdict).verdict left c.signatures.invariant first tried (sym c.if-proved.ensures)

pub returns : goal.returns
returns g c =
    let gr = step_context_by g.V.Verifier.answers c.args.context.now in
    let done = bare_verdicts (map verdict_value c.signatures.verdicts.items) in
    let whole = verdicts_by gr c.args.set.now c.args.signatures.now c.args.asks.now in
    let long : length c.signatures.signatures.now ≡ 0 = search rules in
    seen_further (λ v. v.items) (λ (vs : _). bare_verdicts (map verdict_value vs)) c.if_last-2.result
    (is_empty c.signatures.asks.now) c.signatures.verdicts.items c.if_last-2.ensures
    ∙ tried_all gr c.args.set.now done c.signatures.signatures.now c.signatures.asks.now whole c.signatures.invariant
    (no_more c.signatures.signatures.now long)
