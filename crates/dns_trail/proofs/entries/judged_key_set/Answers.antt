use Rattle.std.proofs.Common.{rules, ◌≡◌, length, sym, ap, ◌∙◌, subst}
use Rattle.dns_rules.specs.Derivation.{is_empty}
use Rattle.dns_trust.specs.Judge.{judge_of}
use Rattle.dns_trust.specs.Steps.{IsKeysStep}
use Rattle.dns_trust.specs.declared.key_sets.KeysStep.TheVariants.{Done}
use Rattle.dns_trail.specs.StepContexts.{step_context_by}
use Rattle.dns_trail.proofs.OkLemmas.{no_more}
use Rattle.dns_trail.proofs.EntryLemmas.{keys_given}
use Rattle.dns_trail.proofs.entries.judged_key_set.Goals as goal

pub returns-then-is_empty : goal.returns-then-is_empty
returns-then-is_empty g c =
    let j = judge_of g.V.Verifier.answers c.args.context.now.judge.now in
    let gr = step_context_by g.V.Verifier.answers c.args.context.now in
    let by : IsKeysStep j c.args.placed (Done c.in-Done.set) =
    subst (λ s. IsKeysStep j c.args.placed s) c.in-Done.is c.in_ok-set.ensures in
    let long : length c.asks_of-asks.result.now ≡ 0 = search rules in
    let none = sym c.asks_of-asks.ensures ∙ no_more c.asks_of-asks.result.now long in
    c.as_in_entry.ensures ∙ keys_given gr c.args.placed c.in-Done.set c.args.entry.now by.0 by.1 (ap is_empty none)
