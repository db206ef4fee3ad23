use Rattle.std.proofs.Common.{◌≡◌, ◌==◌, [], ◌∷◌, Some, OnOk, sym, ap, subst, ◌∙◌}
use Rattle.std.specs.Option.{option_to_list}
use Rattle.dns_questions.specs.Gathering.{judge_by, then_once}
use Rattle.dns_questions.specs.Questions.{question_of}
use Rattle.dns_questions.proofs.OnceLemmas.{then_none}
use Rattle.dns_questions.proofs.QuestionLemmas.{keyless_none, refused_none, passed_some, never_one}
use Rattle.dns_questions.proofs.keys.add_with_key.Goals as goal

pub returns-in_default-clause-added : goal.returns-in_default-clause-added
returns-in_default-clause-added c =
    sym (ap (λ o. then_once c.args.into.now (option_to_list o))
    (keyless_none (judge_by c.args.context.now) c.args.signature.now.set.now c.args.signature.now.sig.now c.args.key.now
    c.args.signature.now.read.now c.requires.read
    (sym c.of.ensures ∙ c.in_default.is)) ∙ then_none c.args.into.now)

pub returns-then-not-passes-clause-added : goal.returns-then-not-passes-clause-added
returns-then-not-passes-clause-added c =
    sym (ap (λ o. then_once c.args.into.now (option_to_list o))
    (refused_none (judge_by c.args.context.now) c.args.signature.now.set.now c.args.signature.now.sig.now c.args.key.now
    c.args.signature.now.read.now c.in-Some.read c.requires.read
    (sym c.of.ensures ∙ c.in-Some.is) (sym c.passes.ensures ∙ c.if-not-passes.true)) ∙ then_none c.args.into.now)

pub add-requires : goal.add-requires
add-requires c =
    ap (λ q. q.algorithm == 1) c.in_ok-question.ensures.asked
    ∙ never_one c.args.context.now.verifier.now c.args.context.now.moment c.args.signature.now.set.now
    c.args.signature.now.sig.now c.args.key.now c.args.signature.now.read.now c.in-Some.read c.requires.read
    (sym c.of.ensures ∙ c.in-Some.is) (sym c.passes.ensures ∙ c.if-not-passes.false)

pub returns-clause-added : goal.returns-clause-added
returns-clause-added c =
    let j = judge_by c.args.context.now in
    let asked = passed_some (judge_by c.args.context.now) c.args.signature.now.set.now c.args.signature.now.sig.now
    c.args.key.now c.args.signature.now.read.now c.in-Some.read c.requires.read
    (sym c.of.ensures ∙ c.in-Some.is) (sym c.passes.ensures ∙ c.if-not-passes.false) in
    let e : then_once c.args.into.now (c.in_ok-question.question ∷ [])
    ≡ then_once c.args.into.now (option_to_list (question_of j c.args.signature.now.set.now c.args.signature.now.sig.now c.args.key.now)) =
    ap (λ o. then_once c.args.into.now (option_to_list o)) (ap Some c.in_ok-question.ensures.asked ∙ sym asked) in
    subst (λ t. OnOk c.add.result (c.add.new.self ≡ t)) e c.add.ensures
