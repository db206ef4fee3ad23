use Rattle.std.proofs.Common.{rules, ◌≡◌, ◌+◌, true, ◌∷◌, length, ap, ◌∙◌}
use Rattle.std.proofs.lemmas.Bool.{and_from}
use Rattle.dns_rules.specs.Delegations.{ds_question}
use Rattle.dns_rules.specs.Derivation.{is_ask, is_empty}
use Rattle.dns_trust.specs.Verdicts.{listed}
use Rattle.dns_trail.specs.StepContexts.{step_context_by}
use Rattle.dns_trail.proofs.OkLemmas.{no_more}
use Rattle.dns_trail.proofs.EntryLemmas.{ds_given}
use Rattle.dns_trail.proofs.entries.judged_by_one_ask.Goals as goal

pub returns : goal.returns
returns g c =
    let gr = step_context_by g.V.Verifier.answers c.args.context.now in
    let asked : c.args.entry.now.asked ≡ c.in-Some.ask.now ∷ c.in-Some.left.now = search rules in
    let long : length c.in-Some.left.now ≡ 0 = search rules in
    let none = no_more c.in-Some.left.now long in
    let asks : is_ask gr.limits.depth gr.earlier (gr.depth + 1) (ds_question c.args.placed.set.class c.args.placed.set.owner)
    c.in-Some.ask.now ≡ true = search rules in
    c.as_in_entry.ensures
    ∙ ds_given gr c.args.placed c.in_ok-set.set c.args.entry.now
    (listed c.answer_of-answer.result.now) c.in-Some.ask.now c.in-Some.left.now c.requires.needed
    c.in_ok-set.ensures c.answer_of-answer.ensures asked (and_from _ _ (ap is_empty none) asks)
