use Rattle.std.proofs.Common.{rules, ◌≡◌, length, ◌∷◌, sym, ap, subst, ◌∙◌}
use Rattle.std.proofs.lemmas.Result.{IfOk-weaker}
use Rattle.dns_model.specs.SoundAnswers.{told_by}
use Rattle.dns_cache.specs.Kinds.{kind_value}
use Rattle.dns_flow.specs.Causes.{cause_after}
use Rattle.dns_flow.specs.Leads.{got_of}
use Rattle.dns_flow.specs.Phases.{after}
use Rattle.dns_flow.specs.Values.{Keeps, need_value, phase_value}
use Rattle.dns_causes.specs.Contexts.{context_by}
use Rattle.dns_causes.proofs.LedLemmas.{ended, is_end, led_on, no_asks}
use Rattle.dns_causes.proofs.asks.+led_cause.Goals as goal

pub returns-in_default : goal.returns-in_default
returns-in_default g t c =
    let gr = context_by g.V.Verifier.answers c.args.context.now in
    let none : length c.args.asked.now ≡ 0 = search rules in
    no_asks gr (told_by c.args.message.now) c.args.asked.now (phase_value c.args.phase) (kind_value c.args.cause) none

pub returns-in-SetEnds : goal.returns-in-SetEnds
returns-in-SetEnds g t c =
    let gr = context_by g.V.Verifier.answers c.args.context.now in
    let cut : c.args.asked.now ≡ c.in-Some.made.now ∷ c.in-Some.rest.now = search rules in
    ended gr (told_by c.args.message.now) c.args.asked.now c.in-Some.made.now c.in-Some.rest.now
    (phase_value c.args.phase) _ (kind_value c.args.cause) cut c.in_ok-turn.ensures.need
    (ap (λ n. is_end (need_value n)) c.in-SetEnds.is)

pub returns-in-StepEnds : goal.returns-in-StepEnds
returns-in-StepEnds g t c =
    let gr = context_by g.V.Verifier.answers c.args.context.now in
    let cut : c.args.asked.now ≡ c.in-Some.made.now ∷ c.in-Some.rest.now = search rules in
    ended gr (told_by c.args.message.now) c.args.asked.now c.in-Some.made.now c.in-Some.rest.now
    (phase_value c.args.phase) _ (kind_value c.args.cause) cut c.in_ok-turn.ensures.need
    (ap (λ n. is_end (need_value n)) c.in-StepEnds.is)

pub returns : goal.returns
returns g t c =
    let gr = context_by g.V.Verifier.answers c.args.context.now in
    let told = told_by c.args.message.now in
    let got = got_of gr.earlier c.in-Asks.ask c.in-Some.made.now in
    let cut : c.args.asked.now ≡ c.in-Some.made.now ∷ c.in-Some.rest.now = search rules in
    let need = sym c.in_ok-turn.ensures.need ∙ ap need_value c.in-Asks.is in
    let kept = subst (Keeps c.args.phase) c.in-Asks.is c.in_ok-turn.ensures.keeps in
    let on =
    c.in_ok-phase-in-Asks.ensures.phase ∙ ap (λ p. after gr.judge gr.query told (phase_value p) got) kept in
    let to =
    c.in_ok-phase-in-Asks.ensures.cause
    ∙ ap (λ p. cause_after gr.judge (phase_value p) got (kind_value c.args.cause)) kept in
    IfOk-weaker c.led_cause.result _ _
    (λ k h. h ∙ led_on gr told c.args.asked.now c.in-Some.made.now c.in-Some.rest.now (phase_value c.args.phase)
    (phase_value c.in_ok-phase-in-Asks.phase) c.in-Asks.ask (kind_value c.args.cause)
    (kind_value c.in_ok-phase-in-Asks.cause) cut need on to)
    c.led_cause.ensures
