-- The cause to which asks lead, one ask after another; chains don't matter for it.
use Rattle.std.proofs.Common.{◌≡◌, Bool, true, false, List, [], ◌∷◌, map, length, Option, None, Some, if◌then◌else◌, refl, sym, ap, ◌∙◌}
use Rattle.std.specs.Option.{option_map}
use Rattle.std.proofs.lemmas.List.{nil_from_length}
use Rattle.dns_model.specs.declared.trail.AskRef.{AskRef}
use Rattle.dns_model.specs.SoundAnswers.{Told}
use Rattle.dns_model.specs.Trails.{AskedValue}
use Rattle.dns_rules.specs.ChainedSets.{ChainedSet}
use Rattle.dns_rules.specs.Derivation.{StepContext, finished_answer, probe_by}
use Rattle.dns_rules.specs.MarkedSets.{MarkedSet}
use Rattle.dns_rules.specs.Outcome.{Outcome}
use Rattle.dns_rules.specs.Probes.{NsProbe}
use Rattle.dns_rules.specs.ProofErrors.{ProofErrorKindValue}
use Rattle.dns_flow.specs.declared.asks.Ask.{Ask}
use Rattle.dns_flow.specs.Phases.{Answer, Probe, PhaseValue, NeedValue, SetEnds, StepEnds, Asks, turn, after}
use Rattle.dns_flow.specs.Leads.{bare_set, chainless, bare_phase, bare_need, bare_got, got_of}
use Rattle.dns_flow.specs.Causes.{cause_after}
use Rattle.dns_flow.specs.CauseRows.{caused, caused_on}
use Rattle.dns_flow.proofs.Bare.{after_bare, turn_bare}
use Rattle.dns_flow.proofs.CauseLed.{cause_bare}
use Rattle.dns_flow.proofs.Led.{asks_alone, ends_as}

-- ---- what an ask came to has no chains

sets_twice : (ms : List MarkedSet) → map bare_set (map chainless ms) ≡ map chainless ms
sets_twice [] = refl
sets_twice (m ∷ ms) = ap (λ xs. chainless m ∷ xs) (sets_twice ms)

answer_twice : (answer : Option (List MarkedSet))
    → option_map (map bare_set) (option_map (map chainless) answer) ≡ option_map (map chainless) answer
answer_twice None = refl
answer_twice (Some ms) = ap Some (sets_twice ms)

got_twice : (judged : Bool) (answer : Option (List MarkedSet)) (probe : NsProbe)
    → bare_got (if judged then Answer (option_map (map chainless) answer) else Probe probe)
    ≡ (if judged then Answer (option_map (map chainless) answer) else Probe probe)
got_twice true answer probe = ap Answer (answer_twice answer)
got_twice false answer probe = refl

pub got_bare : (earlier : List AskedValue) (ask : Ask) (made : AskRef)
    → bare_got (got_of earlier ask made) ≡ got_of earlier ask made
got_bare earlier ask made =
    got_twice ask.judged (finished_answer earlier made) (probe_by earlier ask.query.owner made)

-- ---- one ask after another

-- nothing is asked
abbrev pub is_end : NeedValue → Bool
is_end (SetEnds c) = true
is_end (StepEnds o) = true
is_end (Asks ask) = false

module _ (g : StepContext) (told : Told) where
  -- no ask is left
  pub no_asks : (asks : List AskRef) (phase : PhaseValue) (cause : ProofErrorKindValue) → length asks ≡ 0
      → cause ≡ caused g told asks (bare_phase phase) cause
  unfolding caused
  no_asks asks phase cause none =
      ap (λ xs. caused g told xs (bare_phase phase) cause) (sym (nil_from_length asks none))

  -- the set has ended
  pub set_ended : (asks : List AskRef) (made : AskRef) (rest : List AskRef) (phase : PhaseValue) (set : ChainedSet)
      (cause : ProofErrorKindValue)
      → asks ≡ made ∷ rest → turn phase ≡ SetEnds set → cause ≡ caused g told asks (bare_phase phase) cause
  unfolding caused
  set_ended asks made rest phase set cause cut is =
      let end = ends_as (turn (bare_phase phase)) set (turn_bare phase ∙ ap bare_need is) in
      sym (ap (λ xs. caused g told xs (bare_phase phase) cause) cut
      ∙ ap (λ m. caused_on g told (bare_phase phase) made m cause (caused g told rest)) end.is)

  step_alone : (n : NeedValue) (o : Outcome) → bare_need n ≡ StepEnds o → n ≡ StepEnds o
  step_alone (SetEnds c) o h = cc
  step_alone (StepEnds p) o h = h
  step_alone (Asks ask) o h = cc

  -- or the step
  pub step_ended : (asks : List AskRef) (made : AskRef) (rest : List AskRef) (phase : PhaseValue) (o : Outcome)
      (cause : ProofErrorKindValue)
      → asks ≡ made ∷ rest → turn phase ≡ StepEnds o → cause ≡ caused g told asks (bare_phase phase) cause
  unfolding caused
  step_ended asks made rest phase o cause cut is =
      let end = step_alone (turn (bare_phase phase)) o (turn_bare phase ∙ ap bare_need is) in
      sym (ap (λ xs. caused g told xs (bare_phase phase) cause) cut
      ∙ ap (λ m. caused_on g told (bare_phase phase) made m cause (caused g told rest)) end)

  -- whichever of both it is
  pub ended : (asks : List AskRef) (made : AskRef) (rest : List AskRef) (phase : PhaseValue) (need : NeedValue)
      (cause : ProofErrorKindValue)
      → asks ≡ made ∷ rest → need ≡ turn phase → is_end need ≡ true
      → cause ≡ caused g told asks (bare_phase phase) cause
  ended asks made rest phase (SetEnds c) cause cut is ends = set_ended asks made rest phase c cause cut (sym is)
  ended asks made rest phase (StepEnds o) cause cut is ends = step_ended asks made rest phase o cause cut (sym is)
  ended asks made rest phase (Asks ask) cause cut is ends = cc

  -- an ask leads on
  pub led_on : (asks : List AskRef) (made : AskRef) (rest : List AskRef) (phase next : PhaseValue) (ask : Ask)
      (cause later : ProofErrorKindValue)
      → asks ≡ made ∷ rest → turn phase ≡ Asks ask
      → next ≡ after g.judge g.query told phase (got_of g.earlier ask made)
      → later ≡ cause_after g.judge phase (got_of g.earlier ask made) cause
      → caused g told rest (bare_phase next) later ≡ caused g told asks (bare_phase phase) cause
  unfolding caused
  led_on asks made rest phase next ask cause later cut is on to =
      let begin = bare_phase phase in
      let got = got_of g.earlier ask made in
      let go = caused g told rest in
      let need : turn begin ≡ Asks ask = asks_alone (turn begin) ask (turn_bare phase ∙ ap bare_need is) in
      let bare = got_bare g.earlier ask made in
      sym (ap (λ xs. caused g told xs begin cause) cut
      ∙ ap (λ m. caused_on g told begin made m cause go) need
      ∙ ap (λ x. go (bare_phase (after g.judge g.query told begin x)) (cause_after g.judge begin x cause)) (sym bare)
      ∙ ap (λ p. go p (cause_after g.judge begin (bare_got got) cause)) (after_bare g.judge g.query told phase got)
      ∙ ap (go (bare_phase (after g.judge g.query told phase got))) (cause_bare g.judge phase got cause)
      ∙ ap (λ p. go (bare_phase p) (cause_after g.judge phase got cause)) (sym on)
      ∙ ap (go (bare_phase next)) (sym to))
