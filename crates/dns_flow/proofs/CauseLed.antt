-- For whoever makes the asks: the cause that goes beside a phase is the one to which the asks lead, and at the end
-- that of the row.
use Rattle.std.proofs.Common.{◌≡◌, ℕ, List, [], ◌∷◌, ◌++◌, length, Option, None, Some, slice_get, refl, sym, ap, ◌∙◌}
use Rattle.std.specs.Option.{option_and_then}
use Rattle.std.proofs.lemmas.List.{length-map}
use Rattle.dns_model.specs.declared.trail.AskRef.{AskRef}
use Rattle.dns_model.specs.Records.{RrSet, Question}
use Rattle.dns_model.specs.Chains.{Judge}
use Rattle.dns_model.specs.SoundAnswers.{Told, PlacedSet}
use Rattle.dns_model.specs.Trails.{AskedValue}
use Rattle.dns_model.proofs.TestLemmas.{if_some}
use Rattle.dns_rules.specs.Asking.{ask_of}
use Rattle.dns_rules.specs.ChainedSets.{ChainedSet}
use Rattle.dns_rules.specs.Delegations.{zone_verdict}
use Rattle.dns_rules.specs.Derivation.{StepContext}
use Rattle.dns_rules.specs.ProofErrors.{ProofErrorKindValue}
use Rattle.dns_rules.specs.Unsigned.{ns_question}
use Rattle.dns_rules.proofs.StayLemmas.{later_step_context}
use Rattle.dns_flow.specs.declared.asks.Ask.{Ask}
use Rattle.dns_flow.specs.declared.phases.Seeker.TheVariants.{Set, Ending}
use Rattle.dns_flow.specs.Phases.{GotValue, Answer, Probe, answer_in, PhaseValue, Marked, NeedsDs, Trying, AtName, AtZone, Concluded, NeedValue, SetEnds, StepEnds, Asks, first_signatures, start_set, turn, after}
use Rattle.dns_flow.specs.Leads.{bare_verdict, bare_phase, bare_need, bare_got, is_made, got_of, led_on, leads, end_of}
use Rattle.dns_flow.specs.Causes.{start_cause, keys_cause, unsigned_cause, after_try, after_seen, cause_after}
use Rattle.dns_flow.specs.CauseRows.{cause_row, caused_on, caused}
use Rattle.dns_flow.proofs.Bare.{answer_bare, probe_bare, turn_bare}
use Rattle.dns_flow.proofs.Caused.{set_caused}
use Rattle.dns_flow.proofs.Leading.{stays_if}
use Rattle.dns_flow.proofs.Led.{IsGot, Led, asks_alone, ends_as}

-- ---- no chain matters

try_bare : (cause : ProofErrorKindValue) (set : RrSet) (asked : Option Question) (got : GotValue)
    → after_try cause set asked (answer_in (bare_got got)) ≡ after_try cause set asked (answer_in got)
try_bare cause set asked (Answer None) = refl
try_bare cause set asked (Answer (Some cs)) = refl
try_bare cause set asked (Probe probe) = refl

pub cause_bare : (j : Judge) (phase : PhaseValue) (got : GotValue) (cause : ProofErrorKindValue)
    → cause_after j (bare_phase phase) (bare_got got) cause ≡ cause_after j phase got cause
unfolding cause_after
cause_bare j (Marked c) got cause = refl
cause_bare j (NeedsDs placed) got cause =
    ap (λ o. keys_cause placed.set (zone_verdict j.answers placed.set.class placed.set.owner o)) (answer_bare got)
cause_bare j (Trying placed vs) got cause =
    let asked = λ (n : ℕ). option_and_then (ask_of placed.set) (slice_get (first_signatures placed.set) n) in
    ap (λ n. after_try cause placed.set (asked n) (answer_in (bare_got got))) (length-map vs bare_verdict)
    ∙ try_bare cause placed.set (asked (length vs)) got
cause_bare j (AtName seeker class name) got cause = ap (after_seen cause (ns_question class name)) (probe_bare got)
cause_bare j (AtZone (Set placed) class zone) got cause =
    ap (λ o. unsigned_cause placed.set (zone_verdict j.answers class zone o)) (answer_bare got)
cause_bare j (AtZone Ending class zone) got cause = refl
cause_bare j (Concluded o) got cause = refl

-- ---- one ask more

module _ (g : StepContext) (told : Told) where
  on_more : (p : PhaseValue) (made : AskRef) (need : NeedValue) (c : ProofErrorKindValue) (r : PhaseValue)
      (leading : PhaseValue → Option PhaseValue) (long short : PhaseValue → ProofErrorKindValue → ProofErrorKindValue)
      (last : ProofErrorKindValue → ProofErrorKindValue)
      → ((x : PhaseValue) (d : ProofErrorKindValue) → leading x ≡ Some r → long x d ≡ last (short x d))
      → led_on g told p made need leading ≡ Some r
      → caused_on g told p made need c long ≡ last (caused_on g told p made need c short)
  on_more p made (SetEnds s) c r leading long short last more h = cc
  on_more p made (StepEnds o) c r leading long short last more h = cc
  on_more p made (Asks ask) c r leading long short last more h =
      let next = bare_phase (after g.judge g.query told p (got_of g.earlier ask made)) in
      more next (cause_after g.judge p (got_of g.earlier ask made) c)
      (if_some (is_made g ask made) (leading next) r h).1

caused_more : (g : StepContext) (told : Told) (asks : List AskRef) (p r : PhaseValue) (ask : Ask) (made : AskRef)
    (c : ProofErrorKindValue)
    → leads g told asks p ≡ Some r → turn r ≡ Asks ask
    → caused g told (asks ++ made ∷ []) p c ≡ cause_after g.judge r (got_of g.earlier ask made) (caused g told asks p c)
unfolding leads caused
caused_more g told [] p r ask made c h is =
    let same : p ≡ r = cc in
    ap (λ x. caused_on g told x made (turn x) c (λ q d. d)) same ∙ ap (λ m. caused_on g told r made m c (λ q d. d)) is
caused_more g told (first ∷ asks) p r ask made c h is =
    on_more g told p first (turn p) c r (leads g told asks) (caused g told (asks ++ made ∷ [])) (caused g told asks)
    (cause_after g.judge r (got_of g.earlier ask made)) (λ x d led. caused_more g told asks x r ask made d led is) h

-- ---- further steps

module _ (g : StepContext) (more : List AskedValue) where
  on_stays : (told : Told) (p : PhaseValue) (made : AskRef) (need : NeedValue) (c : ProofErrorKindValue)
      (r : PhaseValue)
      (leading : PhaseValue → Option PhaseValue) (late early : PhaseValue → ProofErrorKindValue → ProofErrorKindValue)
      → ((x : PhaseValue) (d : ProofErrorKindValue) → leading x ≡ Some r → late x d ≡ early x d)
      → led_on g told p made need leading ≡ Some r
      → caused_on (later_step_context g more) told p made need c late ≡ caused_on g told p made need c early
  on_stays told p made (SetEnds s) c r leading late early stay h = cc
  on_stays told p made (StepEnds o) c r leading late early stay h = cc
  on_stays told p made (Asks ask) c r leading late early stay h =
      let next = λ (got : GotValue). bare_phase (after g.judge g.query told p got) in
      let some = if_some (is_made g ask made) (leading (next (got_of g.earlier ask made))) r h in
      let stays = stays_if g more ask.query ask.judged made some.0 in
      ap (λ got. late (next got) (cause_after g.judge p got c)) stays.1
      ∙ stay (next (got_of g.earlier ask made)) (cause_after g.judge p (got_of g.earlier ask made) c) some.1

caused_stays : (g : StepContext) (more : List AskedValue) (told : Told) (asks : List AskRef) (p r : PhaseValue)
    (c : ProofErrorKindValue)
    → leads g told asks p ≡ Some r → caused (later_step_context g more) told asks p c ≡ caused g told asks p c
unfolding leads caused
caused_stays g more told [] p r c h = refl
caused_stays g more told (made ∷ asks) p r c h =
    on_stays g more told p made (turn p) c r (leads g told asks) (caused (later_step_context g more) told asks)
    (caused g told asks)
    (λ x d led. caused_stays g more told asks x r d led) h

-- ---- the cause of a set

-- asks have led a set to this cause
pub record CauseLed (g : StepContext) (told : Told) (placed : PlacedSet) (asks : List AskRef)
    (cause : ProofErrorKindValue) : Type 0 where
  pub is : caused g told asks (bare_phase (start_set g.judge g.query told placed)) (start_cause placed.set) ≡ cause

-- a set that begins
pub cause_begins : (g : StepContext) (told : Told) (placed : PlacedSet)
    → CauseLed g told placed [] (start_cause placed.set)
unfolding caused
cause_begins g told placed = record { is = refl }

-- an ask more
pub cause_goes_on : (g : StepContext) (told : Told) (placed : PlacedSet) (asks : List AskRef) (phase : PhaseValue)
    (ask : Ask) (made : AskRef) (got : GotValue)
    (cause : ProofErrorKindValue)
    → Led g told (start_set g.judge g.query told placed) asks phase → turn phase ≡ Asks ask → IsGot g ask made got
    → CauseLed g told placed asks cause
    → CauseLed g told placed (asks ++ made ∷ []) (cause_after g.judge phase got cause)
cause_goes_on g told placed asks phase ask made got cause way is one before =
    let begin = bare_phase (start_set g.judge g.query told placed) in
    record {
      is =
          caused_more g told asks begin (bare_phase phase) ask made (start_cause placed.set) way.path
          (asks_alone (turn (bare_phase phase)) ask (turn_bare phase ∙ ap bare_need is))
          ∙ ap (cause_after g.judge (bare_phase phase) (got_of g.earlier ask made)) before.is
          ∙ ap (λ x. cause_after g.judge (bare_phase phase) x cause) (sym one.same)
          ∙ cause_bare g.judge phase got cause;
    }

-- further steps
pub cause_stays : (g : StepContext) (more : List AskedValue) (told : Told) (placed : PlacedSet) (asks : List AskRef)
    (phase : PhaseValue) (cause : ProofErrorKindValue)
    → Led g told (start_set g.judge g.query told placed) asks phase → CauseLed g told placed asks cause
    → CauseLed (later_step_context g more) told placed asks cause
cause_stays g more told placed asks phase cause way before =
    let begin = bare_phase (start_set g.judge g.query told placed) in
    record { is = caused_stays g more told asks begin (bare_phase phase) (start_cause placed.set) way.path ∙ before.is }

-- at its end it is that of the row
pub cause_ends : (g : StepContext) (told : Told) (placed : PlacedSet) (asks : List AskRef) (phase : PhaseValue)
    (c : ChainedSet) (cause : ProofErrorKindValue)
    → Led g told (start_set g.judge g.query told placed) asks phase → turn phase ≡ SetEnds c
    → CauseLed g told placed asks cause
    → cause_row g placed asks ≡ Some cause
cause_ends g told placed asks phase c cause way is before =
    let end = ends_as (turn (bare_phase phase)) c (turn_bare phase ∙ ap bare_need is) in
    set_caused g told placed asks (SetEnds end.set)
    (ap (option_and_then (λ x. end_of (turn x))) way.path ∙ ap end_of end.is)
    ∙ ap Some before.is
