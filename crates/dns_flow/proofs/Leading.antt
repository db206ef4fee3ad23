-- Asks one after another: one more, and what they lead to stays when steps are added.
use Rattle.std.proofs.Common.{◌≡◌, ◌+◌, Bool, true, false, List, [], ◌∷◌, ◌++◌, map, Option, None, Some, if◌then◌else◌, ap, ◌∙◌}
use Rattle.std.specs.Option.{option_map}
use Rattle.dns_model.specs.declared.trail.AskRef.{AskRef}
use Rattle.dns_model.specs.Records.{Question}
use Rattle.dns_model.specs.SoundAnswers.{Told}
use Rattle.dns_model.specs.Trails.{AskedValue}
use Rattle.dns_model.proofs.TestLemmas.{if_some}
use Rattle.dns_rules.specs.Derivation.{StepContext, is_ask, is_plain_ask, finished_answer, probe_by}
use Rattle.dns_rules.proofs.SearchLemmas.{plain_stays}
use Rattle.dns_rules.proofs.StayLemmas.{later_step_context, ask_stays}
use Rattle.dns_flow.specs.declared.asks.Ask.{Ask}
use Rattle.dns_flow.specs.Phases.{GotValue, Answer, Probe, PhaseValue, NeedValue, SetEnds, StepEnds, Asks, turn, after}
use Rattle.dns_flow.specs.Leads.{chainless, bare_phase, is_made, got_of, led_on, leads}

-- ---- one ask more

on_more : (g : StepContext) (told : Told) (p : PhaseValue) (made : AskRef) (need : NeedValue) (rest onward : PhaseValue
    → Option PhaseValue) (r s : PhaseValue)
    → ((x : PhaseValue) → rest x ≡ Some r → onward x ≡ Some s) → led_on g told p made need rest ≡ Some r
    → led_on g told p made need onward ≡ Some s
on_more g told p made (SetEnds c) rest onward r s more h = cc
on_more g told p made (StepEnds o) rest onward r s more h = cc
on_more g told p made (Asks ask) rest onward r s more h =
    let next = bare_phase (after g.judge g.query told p (got_of g.earlier ask made)) in
    let some = if_some (is_made g ask made) (rest next) r h in
    ap (λ b. if b then onward next else None) some.0 ∙ more next some.1

-- asks lead on by one that is made next
pub leads_more : (g : StepContext) (told : Told) (asks : List AskRef) (p r : PhaseValue) (ask : Ask) (made : AskRef)
    → leads g told asks p ≡ Some r
    → turn r ≡ Asks ask → is_made g ask made ≡ true
    → leads g told (asks ++ made ∷ []) p ≡ Some (bare_phase (after g.judge g.query told r (got_of g.earlier ask made)))
unfolding leads
leads_more g told [] p r ask made h is fits =
    let same : p ≡ r = cc in
    ap (λ x. led_on g told x made (turn x) (λ y. Some y)) same ∙ ap (λ n. led_on g told r made n (λ y. Some y)) is
    ∙ ap (λ b. if b then Some (bare_phase (after g.judge g.query told r (got_of g.earlier ask made))) else None) fits
leads_more g told (first ∷ asks) p r ask made h is fits =
    on_more g told p first (turn p) (leads g told asks) (leads g told (asks ++ made ∷ [])) r
    (bare_phase (after g.judge g.query told r (got_of g.earlier ask made))) (λ x led. leads_more g told asks x r ask made led is fits) h

-- ---- further steps

pub stays_if : (g : StepContext) (more : List AskedValue) (q : Question) (judged : Bool) (made : AskRef)
    → (if judged then is_ask g.limits.depth g.earlier (g.depth + 1) q made else is_plain_ask g.earlier g.depth q made) ≡ true
    → ((if judged then is_ask g.limits.depth (g.earlier ++ more) (g.depth + 1) q made
    else is_plain_ask (g.earlier ++ more) g.depth q made) ≡ true)
    × ((if judged then Answer (option_map (map chainless) (finished_answer (g.earlier ++ more) made))
    else Probe (probe_by (g.earlier ++ more) q.owner made))
    ≡ (if judged then Answer (option_map (map chainless) (finished_answer g.earlier made)) else Probe (probe_by g.earlier q.owner made)))
stays_if g more q true made h =
    let stays = ask_stays g.limits.depth g.earlier more (g.depth + 1) q made h in
    (stays.asks, ap (λ o. Answer (option_map (map chainless) o)) stays.answer)
stays_if g more q false made h =
    let stays = plain_stays g.earlier more g.depth q q.owner made h in
    (stays.asks, ap Probe stays.sees)

on_stays : (g : StepContext) (more : List AskedValue) (told : Told) (p : PhaseValue) (made : AskRef) (need : NeedValue)
    (rest later : PhaseValue → Option PhaseValue)
    (r : PhaseValue) → ((x : PhaseValue) → rest x ≡ Some r → later x ≡ Some r) → led_on g told p made need rest ≡ Some r
    → led_on (later_step_context g more) told p made need later ≡ Some r
on_stays g more told p made (SetEnds c) rest later r stay h = cc
on_stays g more told p made (StepEnds o) rest later r stay h = cc
on_stays g more told p made (Asks ask) rest later r stay h =
    let next = λ (got : GotValue). bare_phase (after g.judge g.query told p got) in
    let some = if_some (is_made g ask made) (rest (next (got_of g.earlier ask made))) r h in
    let stays = stays_if g more ask.query ask.judged made some.0 in
    ap (λ b. if b then later (next (got_of (g.earlier ++ more) ask made)) else None) stays.0
    ∙ ap (λ got. later (next got)) stays.1 ∙ stay (next (got_of g.earlier ask made)) some.1

-- where asks led stays when steps are added
pub leads_stay : (g : StepContext) (more : List AskedValue) (told : Told) (asks : List AskRef) (p r : PhaseValue)
    → leads g told asks p ≡ Some r
    → leads (later_step_context g more) told asks p ≡ Some r
unfolding leads
leads_stay g more told [] p r h = h
leads_stay g more told (made ∷ asks) p r h =
    on_stays g more told p made (turn p) (leads g told asks) (leads (later_step_context g more) told asks) r
    (λ x led. leads_stay g more told asks x r led) h
