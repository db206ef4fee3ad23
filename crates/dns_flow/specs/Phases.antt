-- What a set and the ending of a step ask, one step at a time (RFC 4035, 4.3, 5.2, 5.3 and 5.4): the phase in which each begins,
-- what a phase needs, and the phase to which an ask leads.
use Rattle.std.specs.Prelude.{ℕ, ◌+◌, true, false, ◌==◌, List, [], ◌∷◌, ◌++◌, drop, length, take, Option, None, Some, slice_get, if◌then◌else◌}
use Rattle.std.specs.Option.{option_map, option_and_then}
use Rattle.dns_model.specs.declared.proof.Proof.{Proof}
use Rattle.dns_model.specs.declared.proof.Proof.TheVariants as proof
use Rattle.dns_model.specs.Names.{Labels, parent}
use Rattle.dns_model.specs.Types.{type_dnskey}
use Rattle.dns_model.specs.Records.{Rr, RrSet, Question}
use Rattle.dns_model.specs.Chains.{Judge}
use Rattle.dns_model.specs.SoundAnswers.{Told, PlacedSet}
use Rattle.dns_rules.specs.Asking.{Limits, ask_of}
use Rattle.dns_rules.specs.ChainedSets.{ChainedSet, ChainedVerdict, bare, chained_verdict, chained_by, chained_keys}
use Rattle.dns_rules.specs.Delegations.{ds_question, zone_verdict, is_insecure}
use Rattle.dns_rules.specs.KeySets.{needs_ds}
use Rattle.dns_rules.specs.MarkedSets.{MarkedSet}
use Rattle.dns_rules.specs.Marks.{is_proved, is_skipped, most_signatures}
use Rattle.dns_rules.specs.Marks as marks
use Rattle.dns_rules.specs.Outcome.{Outcome, Given, NeedsZone, Denied, outcome_of, insecure_answer}
use Rattle.dns_rules.specs.Probes.{NsProbe}
use Rattle.dns_rules.specs.Probes as probes
use Rattle.dns_rules.specs.Unsigned.{ns_question, set_start, question_start, needs_zone, unsigned_mark}
use Rattle.dns_trust.specs.Beside.{chained_beside}
use Rattle.dns_flow.specs.declared.asks.Ask.{Ask}
use Rattle.dns_flow.specs.declared.phases.Seeker.{Seeker}
use Rattle.dns_flow.specs.declared.phases.Seeker.TheVariants.{Set, Ending}

-- ---- asks

-- an ask whose reply is judged
abbrev pub judged_ask : Question → Ask
judged_ask q = record { query = q; judged = true }

-- an ask whose reply is only seen
abbrev pub plain_ask : Question → Ask
plain_ask q = record { query = q; judged = false }

-- what an ask came to: the judged sets of its answer, where there is one, or what was seen of NS records
pub data GotValue : Type 0 where
  Answer : Option (List ChainedSet) → GotValue
  Probe : NsProbe → GotValue

-- the answer, where the ask was one whose reply is judged
abbrev pub answer_in : GotValue → Option (List ChainedSet)
answer_in (Answer answer) = answer
answer_in (Probe probe) = None

-- what was seen, where the reply was only seen
abbrev pub probe_in : GotValue → NsProbe
probe_in (Answer answer) = probes.Failed
probe_in (Probe probe) = probe

-- ---- phases

-- how far a set or an ending has come
pub data PhaseValue : Type 0 where
  -- the set has its mark
  Marked : ChainedSet → PhaseValue
  -- a key set needs the DS set of its owner
  NeedsDs : PlacedSet → PhaseValue
  -- the first signatures of a set have these verdicts, none of which proves it, and the next one asks
  Trying : PlacedSet → List ChainedVerdict → PhaseValue
  -- the search for a zone, in a class, has come to a name
  AtName : Seeker → ℕ → Labels → PhaseValue
  -- and to the zone
  AtZone : Seeker → ℕ → Labels → PhaseValue
  -- the step has its outcome
  Concluded : Outcome → PhaseValue

-- what a phase needs: it ends the set or the step, or asks
pub data NeedValue : Type 0 where
  SetEnds : ChainedSet → NeedValue
  StepEnds : Outcome → NeedValue
  Asks : Ask → NeedValue

-- ---- the search for a zone

-- an unsigned set with the mark that its zone leaves to it
abbrev pub unsigned_with : PlacedSet → Proof → ChainedSet
unsigned_with placed mark =
    record { judged = record { section = placed.section; set = placed.set; mark = mark; sig = None }; chain = [] }

-- the outcome of a step whose query's zone leaves this mark to what is unsigned
abbrev pub outcome_by_mark : Question → Told → Proof → Outcome
outcome_by_mark q told mark = if is_insecure mark then insecure_answer q told else Denied proof.Bogus

-- what the mark of a zone comes to for whoever searched it
abbrev pub found : Question → Told → Seeker → Proof → PhaseValue
found q told (Set placed) mark = Marked (unsigned_with placed mark)
found q told Ending mark = Concluded (outcome_by_mark q told mark)

-- the search at a name; at the root no zone was found
abbrev pub search_at : Question → Told → Seeker → ℕ → Labels → PhaseValue
search_at q told seeker class [] = found q told seeker proof.Bogus
search_at q told seeker class (label ∷ name) = AtName seeker class (label ∷ name)

-- from the name at which NS records were asked for
abbrev pub after_probe : Question → Told → Seeker → ℕ → Labels → NsProbe → PhaseValue
after_probe q told seeker class name probes.Found = AtZone seeker class name
after_probe q told seeker class name probes.Absent = search_at q told seeker class (parent name)
after_probe q told seeker class name probes.Failed = found q told seeker proof.Bogus

-- ---- the signatures of a set

-- the signatures that are tried
abbrev pub first_signatures : RrSet → List Rr
first_signatures set = take most_signatures set.signatures

-- the verdict of a signature that isn't asked for
abbrev pub unasked : ChainedVerdict
unasked = record { verdict = marks.Failed; chain = [] }

-- behind these verdicts the first of the signatures that are left which asks; without one the verdicts decide
unfoldable pub try_from : Question → PlacedSet → List ChainedVerdict → List Rr → PhaseValue
try_from q placed vs [] = Marked (chained_by placed vs)
try_from q placed vs (r ∷ rs) = if is_skipped q placed.set r then try_from q placed (vs ++ unasked ∷ []) rs else Trying placed vs

-- with the verdict of one signature more: nothing more is asked where it proves the set
abbrev pub after_verdict : Question → PlacedSet → List ChainedVerdict → ChainedVerdict → PhaseValue
after_verdict q placed vs v =
    if is_proved v.verdict
    then Marked (chained_by placed (vs ++ v ∷ []))
    else try_from q placed (vs ++ v ∷ []) (drop (length vs + 1) (first_signatures placed.set))

-- from the signature that asked, which is there
abbrev pub after_signature : Judge → Question → PlacedSet → List ChainedVerdict → Option (List ChainedSet) → Option Rr → PhaseValue
after_signature j q placed vs answer None = Marked (chained_by placed vs)
after_signature j q placed vs answer (Some r) = after_verdict q placed vs (chained_verdict j placed.set r answer)

abbrev pub signature_need : PlacedSet → List ChainedVerdict → Option Question → NeedValue
signature_need placed vs None = SetEnds (chained_by placed vs)
signature_need placed vs (Some q) = Asks (judged_ask q)

-- ---- the rules

-- a key set asks for the DS set of its owner exactly where it needs its verdict
abbrev pub start_keys : Judge → PlacedSet → PhaseValue
start_keys j placed = if needs_ds j placed.set then NeedsDs placed else Marked (chained_keys j placed)

-- how a set of a step with this question begins: a key set by anchors, an unsigned set by the search for its zone, and another
-- by its first signatures
unfoldable pub start_set : Judge → Question → Told → PlacedSet → PhaseValue
start_set j q told placed =
    if placed.set.rtype == type_dnskey then start_keys j placed
    else if needs_zone placed.set then search_at q told (Set placed) placed.set.class (set_start placed.set)
    else try_from q placed [] (first_signatures placed.set)

abbrev pub start_by : Question → Told → Outcome → PhaseValue
start_by q told (Given denial) = Concluded (Given denial)
start_by q told NeedsZone = search_at q told Ending q.class (question_start q)
start_by q told (Denied p) = Concluded (Denied p)

-- how the ending of a step begins, once all its sets are judged: they decide, or leave it to the zone of the question
unfoldable pub start_ending : Limits → Question → Told → List MarkedSet → PhaseValue
start_ending limits q told sets = start_by q told (outcome_of limits q told sets)

-- what a phase needs
unfoldable pub turn : PhaseValue → NeedValue
turn (Marked c) = SetEnds c
turn (NeedsDs placed) = Asks (judged_ask (ds_question placed.set.class placed.set.owner))
turn (Trying placed vs) =
    signature_need placed vs (option_and_then (ask_of placed.set) (slice_get (first_signatures placed.set) (length vs)))
turn (AtName seeker class name) = Asks (plain_ask (ns_question class name))
turn (AtZone seeker class zone) = Asks (judged_ask (ds_question class zone))
turn (Concluded o) = StepEnds o

-- the phase to which what an ask came to leads
unfoldable pub after : Judge → Question → Told → PhaseValue → GotValue → PhaseValue
after j q told (Marked c) got = Marked c
after j q told (NeedsDs placed) got = Marked (chained_beside j placed (answer_in got))
after j q told (Trying placed vs) got =
    after_signature j q placed vs (answer_in got) (slice_get (first_signatures placed.set) (length vs))
after j q told (AtName seeker class name) got = after_probe q told seeker class name (probe_in got)
after j q told (AtZone seeker class zone) got =
    found q told seeker (unsigned_mark (zone_verdict j.answers class zone (option_map bare (answer_in got)))).mark
after j q told (Concluded o) got = Concluded o
