-- For whoever makes the asks: how far asks have led a set or an ending, and that its end is the entry, or the ending, of a trail.
use Rattle.std.proofs.Common.{◌≡◌, ◌≢◌, ◌+◌, ◌==◌, Bool, true, false, ◌&&◌, List, [], ◌∷◌, ◌++◌, map, Option, None, Some, if◌then◌else◌, refl, sym, ap, ◌∙◌, subst}
use Rattle.std.specs.Option.{option_map, option_map_or, option_and_then}
use Rattle.std.proofs.lemmas.Bool.{and_from}
use Rattle.dns_model.specs.declared.trail.AskRef.{AskRef}
use Rattle.dns_model.specs.Names.{name_eq}
use Rattle.dns_model.specs.Records.{Question}
use Rattle.dns_model.specs.SoundAnswers.{Told, PlacedSet, section_eq}
use Rattle.dns_model.specs.Trails.{AskedValue, JudgedSetValue}
use Rattle.dns_model.specs.Types.{type_dnskey}
use Rattle.dns_model.proofs.SetLemmas.{IsProper, name_refl, number_refl, section_refl}
use Rattle.dns_rules.specs.ChainedSets.{ChainedSet, bare, stands}
use Rattle.dns_rules.specs.Delegations.{ZoneVerdict}
use Rattle.dns_rules.specs.Derivation.{StepContext, is_ask, is_plain_ask, finished_answer, probe_by, zone_asked, verdicts_by, search_from, is_by_rules, entry_holds}
use Rattle.dns_rules.specs.DerivationParts.{with_entry}
use Rattle.dns_rules.specs.KeySets.{needs_ds}
use Rattle.dns_rules.specs.MarkedSets.{MarkedSet, placed_of}
use Rattle.dns_rules.specs.Outcome.{Outcome, Given, NeedsZone, Denied, outcome_of}
use Rattle.dns_rules.specs.Probes.{NsProbe}
use Rattle.dns_rules.specs.Unsigned.{set_start, question_start, needs_zone}
use Rattle.dns_rules.proofs.ChainedLemmas.{IsGoodAnswer, placed_of-judged_keys, placed_of-judged_by}
use Rattle.dns_rules.proofs.ExtendLemmas.{has_mark_from}
use Rattle.dns_rules.proofs.StayLemmas.{later_step_context}
use Rattle.dns_flow.specs.declared.asks.Ask.{Ask}
use Rattle.dns_flow.specs.declared.phases.Seeker.TheVariants.{Set, Ending}
use Rattle.dns_flow.specs.Endings.{IsStepEnd, Settled, LeftToZone}
use Rattle.dns_flow.specs.Phases.{judged_ask, plain_ask, GotValue, Answer, Probe, PhaseValue, NeedValue, SetEnds, StepEnds, Asks, first_signatures, start_set, start_ending, turn, after}
use Rattle.dns_flow.specs.Leads.{chainless, bare_set, bare_phase, bare_need, bare_got, is_made, got_of, leads, end_of, ends_with_mark, leads_to_mark, entry_of}
use Rattle.dns_flow.proofs.Bare.{after_bare, turn_bare}
use Rattle.dns_flow.proofs.Ends.{led, last_if}
use Rattle.dns_flow.proofs.Leading.{leads_more, leads_stay}
use Rattle.dns_flow.proofs.Rows.{keys_end, set_row, set_led, set_rows, ending_row, ending_led}
use Rattle.dns_flow.proofs.Searches.{zone_end}
use Rattle.dns_flow.proofs.Tries.{tried_end}
use Rattle.dns_flow.proofs.Standing.{GotStands, Stands, after_stands, set_stands, ending_stands, end_stands}
use Rattle.dns_flow.proofs.Zones.{zone_outcome}

-- ---- asks

-- what stands for an ask, and what it came to: as the trail has it, with chains that stand
pub record IsGot (g : StepContext) (ask : Ask) (made : AskRef) (got : GotValue) : Type 0 where
  pub fits : is_made g ask made ≡ true
  pub same : bare_got got ≡ got_of g.earlier ask made
  pub stand : GotStands g.judge got

as_chainless : (cs : List ChainedSet) → map bare_set cs ≡ map chainless (bare cs)
as_chainless [] = refl
as_chainless (c ∷ cs) = ap (λ xs. bare_set c ∷ xs) (as_chainless cs)

answer_chainless : (answer : Option (List ChainedSet))
    → option_map (map bare_set) answer ≡ option_map (map chainless) (option_map bare answer)
answer_chainless None = refl
answer_chainless (Some cs) = ap Some (as_chainless cs)

-- an ask whose reply was to be judged
pub got_answer : (g : StepContext) (q : Question) (made : AskRef) (answer : Option (List ChainedSet))
    → is_ask g.limits.depth g.earlier (g.depth + 1) q made ≡ true
    → option_map bare answer ≡ finished_answer g.earlier made → IsGoodAnswer g.judge answer
    → IsGot g (judged_ask q) made (Answer answer)
got_answer g q made answer fits same good = record {
  fits = fits;
  same = ap Answer (answer_chainless answer ∙ ap (option_map (map chainless)) same);
  stand = good;
}

-- a plain one
pub got_probe : (g : StepContext) (q : Question) (made : AskRef) (seen : NsProbe)
    → is_plain_ask g.earlier g.depth q made ≡ true
    → probe_by g.earlier q.owner made ≡ seen → IsGot g (plain_ask q) made (Probe seen)
got_probe g q made seen fits same = record { fits = fits; same = ap Probe (sym same); stand = tt }

-- ---- how far asks have led

-- asks have led from a phase to another, whose chains stand
pub record Led (g : StepContext) (told : Told) (begin : PhaseValue) (asks : List AskRef) (phase : PhaseValue) : Type 0 where
  pub path : leads g told asks (bare_phase begin) ≡ Some (bare_phase phase)
  pub stand : Stands g.judge g.query phase

led_nowhere : (g : StepContext) (told : Told) (phase : PhaseValue) → Stands g.judge g.query phase
    → Led g told phase [] phase
unfolding leads
led_nowhere g told phase stand = record { path = refl; stand = stand }

-- a set that begins
pub led_set : (g : StepContext) (told : Told) (placed : PlacedSet)
    → Led g told (start_set g.judge g.query told placed) [] (start_set g.judge g.query told placed)
led_set g told placed = led_nowhere g told (start_set g.judge g.query told placed) (set_stands g.judge g.query told placed)

-- an ending that begins
pub led_ending : (g : StepContext) (told : Told) (sets : List MarkedSet)
    → Led g told (start_ending g.limits g.query told sets) [] (start_ending g.limits g.query told sets)
led_ending g told sets = led_nowhere g told (start_ending g.limits g.query told sets) (ending_stands g.judge g.limits g.query told sets)

pub asks_alone : (n : NeedValue) (ask : Ask) → bare_need n ≡ Asks ask → n ≡ Asks ask
asks_alone (SetEnds c) ask h = cc
asks_alone (StepEnds o) ask h = cc
asks_alone (Asks a) ask h = h

-- an ask more
pub led_more : (g : StepContext) (told : Told) (begin : PhaseValue) (asks : List AskRef) (phase : PhaseValue)
    (ask : Ask) (made : AskRef) (got : GotValue)
    → Led g told begin asks phase → turn phase ≡ Asks ask → IsGot g ask made got
    → Led g told begin (asks ++ made ∷ []) (after g.judge g.query told phase got)
led_more g told begin asks phase ask made got way is one =
    let next = λ (x : GotValue). bare_phase (after g.judge g.query told (bare_phase phase) x) in
    record {
      path =
          leads_more g told asks (bare_phase begin) (bare_phase phase) ask made way.path
          (asks_alone (turn (bare_phase phase)) ask (turn_bare phase ∙ ap bare_need is)) one.fits
          ∙ ap (λ x. Some (next x)) (sym one.same) ∙ ap Some (after_bare g.judge g.query told phase got);
      stand = after_stands g.judge g.query told phase got way.stand one.stand;
    }

-- further steps
pub led_stays : (g : StepContext) (more : List AskedValue) (told : Told) (begin : PhaseValue) (asks : List AskRef)
    (phase : PhaseValue)
    → Led g told begin asks phase → Led (later_step_context g more) told begin asks phase
led_stays g more told begin asks phase way =
    record { path = leads_stay g more told asks (bare_phase begin) (bare_phase phase) way.path; stand = way.stand }

-- ---- the end of a set

pub record EndsAs (n : NeedValue) (judged : MarkedSet) : Type 0 where
  pub set : ChainedSet
  pub is : n ≡ SetEnds set
  pub same : set.judged ≡ judged

judged_in : MarkedSet → NeedValue → MarkedSet
judged_in other (SetEnds c) = c.judged
judged_in other (StepEnds o) = other
judged_in other (Asks ask) = other

pub ends_as : (n : NeedValue) (c : ChainedSet) → bare_need n ≡ bare_need (SetEnds c) → EndsAs n c.judged
unfolding judged_in
ends_as (SetEnds d) c h = record { set = d; is = refl; same = ap (judged_in c.judged) h }
ends_as (StepEnds o) c h = cc
ends_as (Asks ask) c h = cc

of_map : {X : Type 0} (P : NeedValue → Type 0) (end : X → NeedValue) (o : Option X) (n : NeedValue)
    → ((x : X) → P (end x)) → option_map end o ≡ Some n → P n
of_map P end None n each h = cc
of_map P end (Some x) n each h = let same : end x ≡ n = cc in subst P same (each x)

of_last : (P : NeedValue → Type 0) (asks : List AskRef) (m n : NeedValue) → P m → last_if asks m ≡ Some n → P n
of_last P [] m n one h = let same : m ≡ n = cc in subst P same one
of_last P (made ∷ asks) m n one h = cc

of_if : (P : NeedValue → Type 0) (b : Bool) (x y : Option NeedValue) (n : NeedValue) → (x ≡ Some n → P n)
    → (y ≡ Some n → P n)
    → (if b then x else y) ≡ Some n → P n
of_if P true x y n first second h = first h
of_if P false x y n first second h = second h

-- the end is one of this set
abbrev IsOf : PlacedSet → NeedValue → Type 0
IsOf placed (SetEnds c) = placed_of c.judged ≡ placed
IsOf placed (StepEnds o) = ⊥
IsOf placed (Asks ask) = ⊥

row_of : (g : StepContext) (told : Told) (placed : PlacedSet) (asks : List AskRef) (n : NeedValue)
    → set_row g told placed asks ≡ Some n → IsOf placed n
row_of g told placed asks n =
    let P = IsOf placed in
    let by_ds = option_map (λ zone. keys_end g placed (Some zone)) (zone_asked g placed.set.class placed.set.owner asks) in
    let settled = last_if asks (keys_end g placed None) in
    let by_zone = option_map (zone_end g.query told (Set placed)) (search_from g placed.set.class (set_start placed.set) asks) in
    let tried = option_map (tried_end placed) (verdicts_by g placed.set (first_signatures placed.set) asks) in
    of_if P (placed.set.rtype == type_dnskey) (if needs_ds g.judge placed.set then by_ds else settled) (if needs_zone placed.set
    then by_zone else tried) n
    (of_if P (needs_ds g.judge placed.set) by_ds settled n
    (of_map P (λ zone. keys_end g placed (Some zone)) (zone_asked g placed.set.class placed.set.owner asks) n
    (λ zone. placed_of-judged_keys g.judge placed (Some zone)))
    (of_last P asks (keys_end g placed None) n (placed_of-judged_keys g.judge placed None)))
    (of_if P (needs_zone placed.set) by_zone tried n
    (of_map P (zone_end g.query told (Set placed)) (search_from g placed.set.class (set_start placed.set) asks) n (λ zone. refl))
    (of_map P (tried_end placed) (verdicts_by g placed.set (first_signatures placed.set) asks) n (λ vs. placed_of-judged_by placed vs)))

-- the entry of a set that the rules judged
by_table : (g : StepContext) (placed : PlacedSet) (judged : MarkedSet) (asks : List AskRef) → placed_of judged ≡ placed
    → is_by_rules g placed (entry_of judged asks) ≡ true → entry_holds g placed (entry_of judged asks) ≡ true
unfolding entry_holds
by_table g placed judged asks own holds =
    let entry = entry_of judged asks in
    let section = section_eq placed.section entry.section in
    let owner = name_eq placed.set.owner entry.owner in
    let rtype = placed.set.rtype == entry.rtype in
    let rules = is_by_rules g placed entry in
    and_from section (owner && (rtype && rules)) (ap (λ p. section_eq p.section entry.section) (sym own) ∙ section_refl entry.section)
    (and_from owner (rtype && rules) (ap (λ p. name_eq p.set.owner entry.owner) (sym own) ∙ name_refl entry.owner)
    (and_from rtype rules (ap (λ p. p.set.rtype == entry.rtype) (sym own) ∙ number_refl entry.rtype) holds))

-- a set that has ended: its entry holds, and it stands where it is proper
pub record IsSetEnd (g : StepContext) (placed : PlacedSet) (c : ChainedSet) (entry : JudgedSetValue) : Type 0 where
  pub holds : entry_holds g placed entry ≡ true
  pub same : c.judged ≡ with_entry (placed, entry)
  pub stand : IsProper placed.set → stands g.judge c ≡ true

pub set_ends : (g : StepContext) (told : Told) (placed : PlacedSet) (asks : List AskRef) (phase : PhaseValue)
    (c : ChainedSet)
    → Led g told (start_set g.judge g.query told placed) asks phase → turn phase ≡ SetEnds c
    → IsSetEnd g placed c (entry_of c.judged asks)
unfolding leads_to_mark
set_ends g told placed asks phase c way is =
    let entry = entry_of c.judged asks in
    let begin = start_set g.judge g.query told placed in
    let end = ends_as (turn (bare_phase phase)) c (turn_bare phase ∙ ap bare_need is) in
    let to : led g told asks (bare_phase begin) ≡ Some (SetEnds end.set) =
    ap (option_and_then (λ x. end_of (turn x))) way.path ∙ ap end_of end.is in
    let own : placed_of c.judged ≡ placed =
    ap placed_of (sym end.same) ∙ row_of g told placed asks (SetEnds end.set) (sym (set_led g told placed asks) ∙ to) in
    let marked : leads_to_mark g told placed entry ≡ true =
    ap (λ o. option_map_or (ends_with_mark entry) o false) to
    ∙ has_mark_from end.set.judged entry (ap (λ m. m.mark) end.same) (ap (λ m. m.sig) end.same) in
    record {
      holds = by_table g placed c.judged asks own (set_rows g told placed entry ∙ marked);
      same = ap (λ p. with_entry (p, entry)) own;
      stand = λ proper. end_stands g.judge g.query phase c way.stand is (subst (λ p. IsProper p.set) (sym own) proper);
    }

-- ---- the end of a step

step_alone : (n : NeedValue) (o : Outcome) → bare_need n ≡ StepEnds o → n ≡ StepEnds o
step_alone (SetEnds c) o h = cc
step_alone (StepEnds p) o h = h
step_alone (Asks ask) o h = cc

settled_end : (g : StepContext) (told : Told) (sets : List MarkedSet) (asks : List AskRef) (w o : Outcome)
    → outcome_of g.limits g.query told sets ≡ w → w ≢ NeedsZone
    → last_if asks (StepEnds w) ≡ Some (StepEnds o) → IsStepEnd g told sets o asks
settled_end g told sets [] w o by other h =
    let same : w ≡ o = cc in
    Settled (sym same ∙ sym by) (λ left. other (same ∙ left)) refl
settled_end g told sets (made ∷ asks) w o by other h = cc

outcome_in : Outcome → NeedValue → Outcome
outcome_in other (SetEnds c) = other
outcome_in other (StepEnds o) = o
outcome_in other (Asks ask) = other

zone_ends : (g : StepContext) (told : Told) (sets : List MarkedSet) (asks : List AskRef) (found : Option ZoneVerdict)
    (o : Outcome)
    → outcome_of g.limits g.query told sets ≡ NeedsZone
    → search_from g g.query.class (question_start g.query) asks ≡ found
    → option_map (zone_end g.query told Ending) found ≡ Some (StepEnds o) → IsStepEnd g told sets o asks
unfolding outcome_in
zone_ends g told sets asks None o left by h = cc
zone_ends g told sets asks (Some zone) o left by h =
    let ends : zone_end g.query told Ending zone ≡ StepEnds o = cc in
    LeftToZone zone left by (ap (outcome_in o) (sym ends) ∙ zone_outcome g.query told zone)

row_ends : (g : StepContext) (told : Told) (sets : List MarkedSet) (asks : List AskRef) (w o : Outcome)
    → outcome_of g.limits g.query told sets ≡ w
    → ending_row g told asks w ≡ Some (StepEnds o) → IsStepEnd g told sets o asks
row_ends g told sets asks (Given denial) o by h = settled_end g told sets asks (Given denial) o by (λ no. cc) h
row_ends g told sets asks NeedsZone o by h =
    zone_ends g told sets asks (search_from g g.query.class (question_start g.query) asks) o by refl h
row_ends g told sets asks (Denied p) o by h = settled_end g told sets asks (Denied p) o by (λ no. cc) h

pub step_ends : (g : StepContext) (told : Told) (sets : List MarkedSet) (asks : List AskRef) (phase : PhaseValue)
    (o : Outcome)
    → Led g told (start_ending g.limits g.query told sets) asks phase → turn phase ≡ StepEnds o
    → IsStepEnd g told sets o asks
step_ends g told sets asks phase o way is =
    let end : turn (bare_phase phase) ≡ StepEnds o = step_alone (turn (bare_phase phase)) o (turn_bare phase ∙ ap bare_need is) in
    let to : led g told asks (bare_phase (start_ending g.limits g.query told sets)) ≡ Some (StepEnds o) =
    ap (option_and_then (λ x. end_of (turn x))) way.path ∙ ap end_of end in
    row_ends g told sets asks (outcome_of g.limits g.query told sets) o refl (sym (ending_led g told sets asks) ∙ to)

-- ---- which ends there are

-- a set never ends a step
pub set_never : (g : StepContext) (told : Told) (placed : PlacedSet) (asks : List AskRef) (phase : PhaseValue)
    (o : Outcome)
    → Led g told (start_set g.judge g.query told placed) asks phase → turn phase ≡ StepEnds o → ⊥
set_never g told placed asks phase o way is =
    let end : turn (bare_phase phase) ≡ StepEnds o = step_alone (turn (bare_phase phase)) o (turn_bare phase ∙ ap bare_need is) in
    let to : led g told asks (bare_phase (start_set g.judge g.query told placed)) ≡ Some (StepEnds o) =
    ap (option_and_then (λ x. end_of (turn x))) way.path ∙ ap end_of end in
    row_of g told placed asks (StepEnds o) (sym (set_led g told placed asks) ∙ to)

abbrev IsOfStep : NeedValue → Type 0
IsOfStep (SetEnds c) = ⊥
IsOfStep (StepEnds o) = Unit {0}
IsOfStep (Asks ask) = Unit {0}

row_of_step : (g : StepContext) (told : Told) (asks : List AskRef) (w : Outcome) (n : NeedValue)
    → ending_row g told asks w ≡ Some n → IsOfStep n
row_of_step g told asks (Given denial) n h = of_last IsOfStep asks (StepEnds (Given denial)) n tt h
row_of_step g told asks NeedsZone n h =
    of_map IsOfStep (zone_end g.query told Ending) (search_from g g.query.class (question_start g.query) asks) n (λ zone. tt) h
row_of_step g told asks (Denied p) n h = of_last IsOfStep asks (StepEnds (Denied p)) n tt h

-- and an ending never ends a set
pub ending_never : (g : StepContext) (told : Told) (sets : List MarkedSet) (asks : List AskRef) (phase : PhaseValue)
    (c : ChainedSet)
    → Led g told (start_ending g.limits g.query told sets) asks phase → turn phase ≡ SetEnds c → ⊥
ending_never g told sets asks phase c way is =
    let end = ends_as (turn (bare_phase phase)) c (turn_bare phase ∙ ap bare_need is) in
    let to : led g told asks (bare_phase (start_ending g.limits g.query told sets)) ≡ Some (SetEnds end.set) =
    ap (option_and_then (λ x. end_of (turn x))) way.path ∙ ap end_of end.is in
    row_of_step g told asks (outcome_of g.limits g.query told sets) (SetEnds end.set) (sym (ending_led g told sets asks) ∙ to)
