use Rattle.std.proofs.Common.{rules, ◌≡◌, ◌+◌, true, ◌∷◌, Some, sym, ap, ◌∙◌}
use Rattle.std.specs.Option.{option_map}
use Rattle.dns_model.specs.RecordViews.{rrsig_of}
use Rattle.dns_rules.specs.Derivation.{is_ask}
use Rattle.dns_rules.specs.DerivationParts.{is_ask_for}
use Rattle.dns_rules.specs.MarkParts.{is_skipped_read}
use Rattle.dns_rules.specs.Marks.{key_question, verdict_of}
use Rattle.dns_rules.proofs.ChainedLemmas.{chained_verdict-bare}
use Rattle.dns_trust.specs.Judge.{judge_of}
use Rattle.dns_trust.specs.Verdicts.{listed}
use Rattle.dns_trail.specs.StepContexts.{step_context_by}
use Rattle.dns_trail.proofs.TryLemmas.{tried_asked}
use Rattle.dns_trail.proofs.verdicts.try_signature.Goals as goal

pub returns : goal.returns
returns g c =
    let j = judge_of g.V.Verifier.answers c.args.context.now.judge.now in
    let gr = step_context_by g.V.Verifier.answers c.args.context.now in
    let set = c.args.set.now in
    let r = c.args.signature.now in
    let read : rrsig_of r ≡ Some c.in-Some.read = search rules in
    let first : c.args.asks.now ≡ c.in-Some-split_first.ask.now ∷ c.in-Some-split_first.left.now = search rules in
    let asks : is_ask gr.limits.depth gr.earlier (gr.depth + 1) (key_question set.class c.in-Some.read.signer)
    c.in-Some-split_first.ask.now ≡ true = search rules in
    let own =
    ap (λ o. is_ask_for gr (option_map (λ sig. key_question set.class sig.signer) o) c.in-Some-split_first.ask.now) read
    ∙ asks in
    tried_asked gr set r c.args.asks.now c.in-Some-split_first.ask.now c.in-Some-split_first.left.now _
    (ap (is_skipped_read gr.query set) read ∙ sym c.is_skipped_read.ensures ∙ c.if-is_skipped_read.false) first own
    (ap (λ w. w.verdict) c.in_ok-verdict.ensures ∙ chained_verdict-bare j set r (listed c.answer_of-answer.result.now)
    ∙ ap (verdict_of j set r) c.answer_of-answer.ensures)
