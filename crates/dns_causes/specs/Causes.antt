-- Why each set of a trail isn't Secure (RFC 4035, 4.3, 5.2 and 5.3), by the trail, the judge and the limits alone: the cause to
-- which the asks of its entry lead, or that of the step which found the same set before.
use Rattle.std.specs.Prelude.{ℕ, Bool, not, ◌&&◌, List, [], ◌∷◌, ◌++◌, Option, None, Some, is_some, slice_get, if◌then◌else◌}
use Rattle.std.specs.Option.{option_map_or, option_and_then}
use Rattle.dns_model.specs.declared.trail.MarkOrigin.{MarkOrigin}
use Rattle.dns_model.specs.declared.trail.MarkOrigin.TheVariants.{Table, Repeat, Cache}
use Rattle.dns_model.specs.Chains.{Judge}
use Rattle.dns_model.specs.Records.{Question, RrSet}
use Rattle.dns_model.specs.SoundAnswers.{Told, PlacedSet, is_secure}
use Rattle.dns_model.specs.Trails.{AskedValue, JudgedSetValue}
use Rattle.dns_rules.specs.Asking.{Limits, effective, judged_part}
use Rattle.dns_rules.specs.CacheKeys.{CacheKeyValue, key_eq, key_of}
use Rattle.dns_rules.specs.Derivation.{StepContext, step_context_of, told_in}
use Rattle.dns_rules.specs.ProofErrors.{ProofErrorKindValue}
use Rattle.dns_flow.specs.Causes.{is_net, start_cause}
use Rattle.dns_flow.specs.CauseRows.{caused, is_by_table}
use Rattle.dns_flow.specs.Leads.{bare_phase}
use Rattle.dns_flow.specs.Phases.{start_set}

-- ---- what a step gives to the steps after it

-- the causes that a step found, each with the key of its set, the last first
abbrev pub Given : Type 0
Given = List (CacheKeyValue × ProofErrorKindValue)

-- the last that was found of a key
abbrev pub given_for : Given → CacheKeyValue → Option ProofErrorKindValue
given_for [] key = None
given_for (p ∷ given) key = if key_eq p.0 key then Some p.1 else given_for given key

-- with one cause more; that an ask failed is found anew
abbrev pub with_cause : CacheKeyValue → Option ProofErrorKindValue → Given → Given
with_cause key None given = given
with_cause key (Some cause) given = if is_net cause then given else (key, cause) ∷ given

-- with the cause of one set more, where the rules judged it
abbrev pub with_set : Question → PlacedSet → JudgedSetValue → Option ProofErrorKindValue → Given → Given
with_set q placed entry cause given =
    if is_by_table entry.origin then with_cause (key_of q placed.set) cause given else given

-- what the step with a number gave of a set in the answer to a question
abbrev pub repeated : List Given → Question → RrSet → ℕ → Option ProofErrorKindValue
repeated given q set n = option_and_then (λ found. given_for found (key_of q set)) (slice_get given n)

-- ---- a set

-- the entry tells an error: its set isn't Secure, and no signature decided that
abbrev pub is_error : JudgedSetValue → Bool
is_error entry = not (is_secure entry.mark) && not (is_some entry.sig)

-- the cause to which these asks lead a set from where it begins
abbrev pub led_cause : StepContext → Told → PlacedSet → JudgedSetValue → ProofErrorKindValue
led_cause g told placed entry =
    caused g told entry.asked (bare_phase (start_set g.judge g.query told placed)) (start_cause placed.set)

-- by the rules; or what the step with a number gave of the same set; what was kept before the lookup has none
abbrev pub cause_by : StepContext → List Given → Told → PlacedSet → JudgedSetValue → MarkOrigin → Option ProofErrorKindValue
cause_by g given told placed entry Table = Some (led_cause g told placed entry)
cause_by g given told placed entry (Repeat n) = repeated given g.query placed.set n
cause_by g given told placed entry Cache = None

-- the cause of a set, where its entry tells an error
unfoldable pub set_cause : StepContext → List Given → Told → PlacedSet → JudgedSetValue → Option ProofErrorKindValue
set_cause g given told placed entry = if is_error entry then cause_by g given told placed entry entry.origin else None

-- ---- a step

-- the causes of sets with their entries, as long as there are both
unfoldable pub set_causes : StepContext → List Given → Told → List PlacedSet → List JudgedSetValue → List (Option ProofErrorKindValue)
set_causes g given told [] entries = []
set_causes g given told (placed ∷ rest) [] = []
set_causes g given told (placed ∷ rest) (entry ∷ entries) =
    set_cause g given told placed entry ∷ set_causes g given told rest entries

-- what they give, in front of what was given
unfoldable pub sets_give : StepContext → List Given → Told → List PlacedSet → List JudgedSetValue → Given → Given
sets_give g given told [] entries found = found
sets_give g given told (placed ∷ rest) [] found = found
sets_give g given told (placed ∷ rest) (entry ∷ entries) found =
    sets_give g given told rest entries (with_set g.query placed entry (set_cause g given told placed entry) found)

-- the causes of the sets of a step, in order; a fault has no sets
abbrev pub step_causes : StepContext → List Given → AskedValue → List (Option ProofErrorKindValue)
step_causes g given step =
    option_map_or (λ told. set_causes g given told (judged_part step.depth told) step.sets) (told_in step.reply) []

-- what a step gives
abbrev pub step_gives : StepContext → List Given → AskedValue → Given
step_gives g given step =
    option_map_or (λ told. sets_give g given told (judged_part step.depth told) step.sets []) (told_in step.reply) []

-- ---- a trail

-- the causes of steps behind others, which gave this
unfoldable pub causes_from : Judge → Limits → List Given → List AskedValue → List AskedValue → List (List (Option ProofErrorKindValue))
causes_from j limits given earlier [] = []
causes_from j limits given earlier (step ∷ steps) =
    step_causes (step_context_of j limits [] earlier step) given step
    ∷ causes_from j limits (given ++ step_gives (step_context_of j limits [] earlier step) given step ∷ []) (earlier ++ step ∷ []) steps

-- the causes of a trail's sets, step by step
abbrev pub causes : Judge → Limits → List AskedValue → List (List (Option ProofErrorKindValue))
causes j limits trail = causes_from j (effective limits) [] [] trail
