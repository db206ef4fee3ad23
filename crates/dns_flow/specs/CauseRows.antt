-- Why a set isn't Secure, by the asks that a trail names for it, as the rows of its mark say (RFC 4035, 4.3, 5.2 and 5.3).
use Rattle.std.specs.Prelude.{Bool, true, false, not, ◌==◌, List, [], ◌∷◌, Option, Some, is_some, slice_get, if◌then◌else◌}
use Rattle.std.specs.Option.{option_map, option_map_or, option_and_then}
use Rattle.std.specs.List.{filter, find, zip}
use Rattle.dns_model.specs.declared.trail.AskRef.{AskRef}
use Rattle.dns_model.specs.declared.trail.AskRef.TheVariants.{Step, TooDeep, TooMany}
use Rattle.dns_model.specs.declared.trail.MarkOrigin.{MarkOrigin}
use Rattle.dns_model.specs.declared.trail.MarkOrigin.TheVariants.{Table}
use Rattle.dns_model.specs.Trails.{AskedValue, HeardValue, Records, Fault, EndingValue, Answered}
use Rattle.dns_model.specs.Types.{type_dnskey}
use Rattle.dns_model.specs.Records.{Rr, RrSet, Question}
use Rattle.dns_model.specs.SoundAnswers.{Told, PlacedSet}
use Rattle.dns_rules.specs.Asking.{ask_of}
use Rattle.dns_rules.specs.Derivation.{StepContext, finished_answer, zone_asked, search_from}
use Rattle.dns_rules.specs.KeySets.{needs_ds}
use Rattle.dns_rules.specs.Marks.{is_skipped}
use Rattle.dns_rules.specs.ProofErrors.{ProofErrorKindValue, RrsigsNotPresent, Net, RrsigsUnverified, DnskeyNotFound}
use Rattle.dns_rules.specs.Unsigned.{set_start, needs_zone}
use Rattle.dns_flow.specs.Causes.{keys_cause, unsigned_cause, cause_after}
use Rattle.dns_flow.specs.Phases.{PhaseValue, NeedValue, SetEnds, StepEnds, Asks, first_signatures, turn, after}
use Rattle.dns_flow.specs.Leads.{bare_phase, got_of}

-- ---- the rows

-- of a key set: the DS verdict of its owner, where anchors don't decide
abbrev pub keys_row : StepContext → PlacedSet → List AskRef → Option ProofErrorKindValue
keys_row g placed asks =
    if needs_ds g.judge placed.set
    then option_map (keys_cause placed.set) (zone_asked g placed.set.class placed.set.owner asks)
    else Some (DnskeyNotFound placed.set.owner)

-- of an unsigned set: the verdict on the zone to which the search leads
abbrev pub unsigned_row : StepContext → PlacedSet → List AskRef → Option ProofErrorKindValue
unsigned_row g placed asks = option_map (unsigned_cause placed.set) (search_from g placed.set.class (set_start placed.set) asks)

-- those of some signatures that ask, each with its ask
abbrev pub asked_for : Question → RrSet → List Rr → List AskRef → List (Rr × AskRef)
asked_for q set signatures asks = zip (filter (λ r. not (is_skipped q set r)) signatures) asks

-- the ask failed or was refused
abbrev pub is_unanswered : StepContext → Rr × AskRef → Bool
is_unanswered g tried = not (is_some (finished_answer g.earlier tried.1))

-- the question of the first such ask
abbrev pub first_failed : StepContext → RrSet → List (Rr × AskRef) → Option Question
first_failed g set tried = option_and_then (λ t. ask_of set t.0) (find (is_unanswered g) tried)

-- of a set that no signature decides: none asks; an ask failed, of which the first is told; or none proves the set
abbrev pub tried_row : StepContext → RrSet → List (Rr × AskRef) → ProofErrorKindValue
tried_row g set [] = RrsigsNotPresent set.owner set.rtype
tried_row g set (one ∷ more) = option_map_or Net (first_failed g set (one ∷ more)) (RrsigsUnverified set.owner set.rtype)

-- the cause of a set that isn't Secure and that no signature decides; none where these aren't the asks that it makes
unfoldable pub cause_row : StepContext → PlacedSet → List AskRef → Option ProofErrorKindValue
cause_row g placed asks =
    if placed.set.rtype == type_dnskey then keys_row g placed asks
    else if needs_zone placed.set then unsigned_row g placed asks
    else Some (tried_row g placed.set (asked_for g.query placed.set (first_signatures placed.set) asks))

-- ---- asks that failed

abbrev pub is_answered : EndingValue → Bool
is_answered (Answered d) = true
is_answered _ = false

abbrev pub is_fault : HeardValue → Bool
is_fault Fault = true
is_fault (Records told empty) = false

-- a judged step has no answer, or another heard nothing
abbrev pub step_failed : AskedValue → Bool
step_failed step = if step.judged then not (is_answered step.ending) else is_fault step.reply

-- an ask was refused, or its step failed
abbrev pub ask_failed : List AskedValue → AskRef → Bool
ask_failed trail (Step n) = option_map_or step_failed (slice_get trail n) true
ask_failed trail TooDeep = true
ask_failed trail TooMany = true

-- ---- origins

abbrev pub is_by_table : MarkOrigin → Bool
is_by_table Table = true
is_by_table _ = false

-- ---- as asks lead

abbrev pub caused_on : StepContext → Told → PhaseValue → AskRef → NeedValue → ProofErrorKindValue
    → (PhaseValue → ProofErrorKindValue → ProofErrorKindValue) → ProofErrorKindValue
caused_on g told phase made (SetEnds c) cause rest = cause
caused_on g told phase made (StepEnds o) cause rest = cause
caused_on g told phase made (Asks ask) cause rest =
    rest (bare_phase (after g.judge g.query told phase (got_of g.earlier ask made)))
    (cause_after g.judge phase (got_of g.earlier ask made) cause)

-- the cause to which asks lead from a phase and a cause
unfoldable pub caused : StepContext → Told → List AskRef → PhaseValue → ProofErrorKindValue → ProofErrorKindValue
caused g told [] phase cause = cause
caused g told (made ∷ asks) phase cause = caused_on g told phase made (turn phase) cause (caused g told asks)
