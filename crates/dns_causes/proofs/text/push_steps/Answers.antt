use Rattle.std.proofs.Common.{rules, ◌≡◌, ◌+◌, ◌++◌, length, drop, ◌∷◌, sym, ap, ◌∙◌, arith}
use Rattle.std.proofs.lemmas.List.{drop_all, drop_more, nil_from_length}
use Rattle.dns_causes.specs.CausesText.{step_lines}
use Rattle.dns_causes.specs.Values.{kinds_by_step, kinds_of}
use Rattle.dns_causes.proofs.TextLemmas.{no_lists, no_steps, step_more}
use Rattle.dns_causes.proofs.text.push_steps.Goals as goal

pub returns-in_default : goal.returns-in_default
returns-in_default c =
    let empty : length c.steps.left.now ≡ 0 = search rules in
    no_lists c.steps.into.items _ c.steps.number (drop c.steps.number c.args.steps.now) (kinds_by_step c.steps.left.now)
    (ap kinds_by_step (nil_from_length c.steps.left.now empty)) c.steps.invariant

pub steps-preserved : goal.steps-preserved
steps-preserved c =
    let n = c.steps.number in
    let text = c.steps.into.items in
    let step = c.index-steps-number.result in
    let left = drop (n + 1) c.args.steps.now in
    let first : c.steps.left.now ≡ c.in-Some.found.now ∷ c.in-Some.others.now = search rules in
    let cut =
    drop_more c.args.steps.now n step c.steps-test.true ∙ ap (λ x. x ∷ left) (sym c.index-steps-number.is) in
    let pushed =
    c.in_ok-push_step.ensures
    ∙ ap (λ xs. text ++ step_lines n xs (kinds_of c.deref-in-steps.result.now))
    (c.deref.ensures.value ∙ ap (λ s. s.sets) c.step.view_is)
    ∙ ap (λ xs. text ++ step_lines n step.sets (kinds_of xs)) c.deref-in-steps.ensures.value in
    step_more text _ n c.push_step.new.into.items (drop n c.args.steps.now) left (kinds_by_step c.steps.left.now)
    (kinds_by_step c.in-Some.others.now) step (kinds_of c.in-Some.found.now.items) cut (ap kinds_by_step first) pushed
    c.steps.invariant

pub returns : goal.returns
returns c =
    no_steps c.steps.into.items _ c.steps.number (drop c.steps.number c.args.steps.now) (kinds_by_step c.steps.left.now)
    (drop_all c.steps.number c.args.steps.now (omega arith)) c.steps.invariant
