-- Where the asks that a trail names lead a set or the ending of a step, and that this is the row of the tables that a derivation has.
use Rattle.std.specs.Prelude.{◌+◌, Bool, false, List, [], ◌∷◌, map, Option, None, Some, if◌then◌else◌}
use Rattle.std.specs.Option.{option_map, option_map_or, option_and_then}
use Rattle.dns_model.specs.declared.trail.AskRef.{AskRef}
use Rattle.dns_model.specs.declared.trail.MarkOrigin.TheVariants.{Table}
use Rattle.dns_model.specs.SoundAnswers.{Told, PlacedSet}
use Rattle.dns_model.specs.Trails.{AskedValue, JudgedSetValue, EndingValue}
use Rattle.dns_rules.specs.ChainedSets.{ChainedSet, ChainedVerdict}
use Rattle.dns_rules.specs.Derivation.{StepContext, is_ask, is_plain_ask, finished_answer, probe_by, has_mark_of, ending_eq, ending_by}
use Rattle.dns_rules.specs.MarkedSets.{MarkedSet}
use Rattle.dns_flow.specs.declared.asks.Ask.{Ask}
use Rattle.dns_flow.specs.Phases.{GotValue, Answer, Probe, PhaseValue, Marked, NeedsDs, Trying, AtName, AtZone, Concluded, NeedValue, SetEnds, StepEnds, Asks, start_set, start_ending, turn, after}

-- ---- without chains, which a trail doesn't have

abbrev pub chainless : MarkedSet → ChainedSet
chainless judged = record { judged = judged; chain = [] }

abbrev pub bare_set : ChainedSet → ChainedSet
bare_set c = chainless c.judged

abbrev pub bare_verdict : ChainedVerdict → ChainedVerdict
bare_verdict v = record { verdict = v.verdict; chain = [] }

abbrev pub bare_phase : PhaseValue → PhaseValue
bare_phase (Marked c) = Marked (bare_set c)
bare_phase (NeedsDs placed) = NeedsDs placed
bare_phase (Trying placed vs) = Trying placed (map bare_verdict vs)
bare_phase (AtName seeker class name) = AtName seeker class name
bare_phase (AtZone seeker class zone) = AtZone seeker class zone
bare_phase (Concluded o) = Concluded o

abbrev pub bare_need : NeedValue → NeedValue
bare_need (SetEnds c) = SetEnds (bare_set c)
bare_need (StepEnds o) = StepEnds o
bare_need (Asks ask) = Asks ask

abbrev pub bare_got : GotValue → GotValue
bare_got (Answer answer) = Answer (option_map (map bare_set) answer)
bare_got (Probe probe) = Probe probe

-- ---- one ask

-- what stands for an ask of a step: a judged one is one deeper than the step, a plain one as deep
abbrev pub is_made : StepContext → Ask → AskRef → Bool
is_made g ask made =
    if ask.judged
    then is_ask g.limits.depth g.earlier (g.depth + 1) ask.query made
    else is_plain_ask g.earlier g.depth ask.query made

-- what an ask came to, by the steps of a trail
abbrev pub got_of : List AskedValue → Ask → AskRef → GotValue
got_of earlier ask made =
    if ask.judged
    then Answer (option_map (map chainless) (finished_answer earlier made))
    else Probe (probe_by earlier ask.query.owner made)

-- ---- asks in order

-- the first ask is what a phase needs; an end needs none
abbrev pub led_on : StepContext → Told → PhaseValue → AskRef → NeedValue → (PhaseValue → Option PhaseValue) → Option PhaseValue
led_on g told phase made (SetEnds c) rest = None
led_on g told phase made (StepEnds o) rest = None
led_on g told phase made (Asks ask) rest =
    if is_made g ask made then rest (bare_phase (after g.judge g.query told phase (got_of g.earlier ask made))) else None

-- where asks lead from a phase; none where these aren't the asks that it makes
unfoldable pub leads : StepContext → Told → List AskRef → PhaseValue → Option PhaseValue
leads g told [] phase = Some phase
leads g told (made ∷ asks) phase = led_on g told phase made (turn phase) (leads g told asks)

-- an end, and no ask
abbrev pub end_of : NeedValue → Option NeedValue
end_of (SetEnds c) = Some (SetEnds c)
end_of (StepEnds o) = Some (StepEnds o)
end_of (Asks ask) = None

-- the end to which asks lead
abbrev pub led_to : StepContext → Told → List AskRef → PhaseValue → Option NeedValue
led_to g told asks phase = option_and_then (λ p. end_of (turn p)) (leads g told asks (bare_phase phase))

-- ---- what a trail says of it

-- the entry of a set that the rules judged by these asks
abbrev pub entry_of : MarkedSet → List AskRef → JudgedSetValue
entry_of judged asked = record {
  section = judged.section;
  owner = judged.set.owner;
  rtype = judged.set.rtype;
  mark = judged.mark;
  origin = Table;
  sig = judged.sig;
  asked = asked;
}

-- the set ends with the mark of an entry
abbrev pub ends_with_mark : JudgedSetValue → NeedValue → Bool
ends_with_mark entry (SetEnds c) = has_mark_of c.judged entry
ends_with_mark entry (StepEnds o) = false
ends_with_mark entry (Asks ask) = false

-- the asks of an entry lead its set to the entry's mark
unfoldable pub leads_to_mark : StepContext → Told → PlacedSet → JudgedSetValue → Bool
leads_to_mark g told placed entry =
    option_map_or (ends_with_mark entry) (led_to g told entry.asked (start_set g.judge g.query told placed)) false

-- the step ends so
abbrev pub ends_with : EndingValue → NeedValue → Bool
ends_with ending (SetEnds c) = false
ends_with ending (StepEnds o) = ending_eq (ending_by o) ending
ends_with ending (Asks ask) = false

-- the asks that a step names for its ending lead its judged sets to this ending
unfoldable pub leads_to_ending : StepContext → Told → List MarkedSet → AskedValue → Bool
leads_to_ending g told sets step =
    option_map_or (ends_with step.ending) (led_to g told step.excuse (start_ending g.limits g.query told sets)) false
