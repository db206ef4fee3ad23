-- For private functions and for proofs only: parts of the definition of a derivation, by names of their own.
use Rattle.std.specs.Prelude.{ℕ, ◌+◌, Bool, false, not, ◌==◌, ◌&&◌, nat_eq, List, [], ◌∷◌, Option, None, Some, unwrap_or, slice_get, if◌then◌else◌}
use Rattle.std.specs.Option.{option_map, option_map_or, option_and_then, option_eq}
use Rattle.std.specs.List.{filter_map, flat_map, list_all, count_by, range_with_len}
use Rattle.dns_model.specs.declared.trail.AskRef.{AskRef}
use Rattle.dns_model.specs.Names.{Labels}
use Rattle.dns_model.specs.Records.{Rr, Question, question_eq}
use Rattle.dns_model.specs.Trails.{AskedValue, JudgedSetValue, HeardValue, EndingValue, Foreign, Failed, Seen}
use Rattle.dns_model.specs.SoundAnswers.{Told, PlacedSet}
use Rattle.dns_rules.specs.Asking.{judged_part}
use Rattle.dns_rules.specs.MarkedSets.{MarkedSet}
use Rattle.dns_rules.specs.Marks.{Verdict, judged_by}
use Rattle.dns_rules.specs.Delegations.{ZoneVerdict}
use Rattle.dns_rules.specs.Unsigned.{unsigned_by}
use Rattle.dns_rules.specs.Outcome.{Outcome, outcome_of, outcome_by_zone}
pub use Rattle.dns_rules.specs.Derivation.{step_context_of}
use Rattle.dns_rules.specs.Derivation.{StepContext, probe_of, entries_hold, with_entries, is_empty, is_ask, told_in, heard_holds, ends_bare, has_mark_of, is_repeat_of, judged_sets, if_answered, ending_eq, ending_by, ending_holds}
use Rattle.dns_rules.specs.Probes.{NsProbe}
use Rattle.dns_rules.specs.Probes as probes

abbrev pub with_entry : PlacedSet × JudgedSetValue → MarkedSet
with_entry p = record { section = p.0.section; set = p.0.set; mark = p.1.mark; sig = p.1.sig }

abbrev pub answer_of : Option AskedValue → Option (List MarkedSet)
answer_of step = option_and_then (λ s. if_answered s.ending (judged_sets s)) step

-- the step judges what it hears to this question at this depth
abbrev pub is_judged_ask : ℕ → Question → Option AskedValue → Bool
is_judged_ask depth q step = option_map_or (λ s. s.judged && ((s.depth == depth) && question_eq q s.query)) step false

-- the ask of a signature is one deeper than its step
abbrev pub is_ask_for : StepContext → Option Question → AskRef → Bool
is_ask_for g question ask = option_map_or (λ q. is_ask g.limits.depth g.earlier (g.depth + 1) q ask) question false

abbrev pub after_verdict : Verdict → Option (List Verdict) → Option (List Verdict)
after_verdict v rest = option_map (λ vs. v ∷ vs) rest

-- nothing more is asked
abbrev pub if_last : List AskRef → List Verdict → Option (List Verdict)
if_last asks vs = if is_empty asks then Some vs else None

abbrev pub place_eq : Option ℕ → Option ℕ → Bool
place_eq a b = option_eq nat_eq a b

abbrev pub is_by_verdicts : PlacedSet → JudgedSetValue → Option (List Verdict) → Bool
is_by_verdicts placed entry verdicts = option_map_or (λ vs. has_mark_of (judged_by placed vs) entry) verdicts false

abbrev pub repeats_step : StepContext → PlacedSet → JudgedSetValue → Option AskedValue → Bool
repeats_step g placed entry step = option_map_or (is_repeat_of g.query placed entry) step false

abbrev pub is_foreign : Rr → EndingValue → Bool
is_foreign r ending = ending_eq (Foreign r.owner r.class r.rtype) ending

abbrev pub is_failed : EndingValue → Bool
is_failed ending = ending_eq Failed ending

abbrev pub is_seen : EndingValue → Bool
is_seen ending = ending_eq Seen ending

abbrev pub is_ending : Outcome → EndingValue → Bool
is_ending o ending = ending_eq (ending_by o) ending

-- nothing is judged
abbrev pub is_bare : AskedValue → Bool
is_bare step = is_empty step.sets && is_empty step.excuse

abbrev pub asks_of_sets : List JudgedSetValue → List AskRef
asks_of_sets sets = flat_map (λ set. set.asked) sets

abbrev pub and_then_some : {X Y : Type 0} → Option X → (X → Option Y) → Option Y
and_then_some o f = option_and_then f o

abbrev pub steps_at : List AskedValue → Option (List ℕ) → List AskedValue
steps_at trail order = filter_map (slice_get trail) (unwrap_or order [])

abbrev pub is_top : Option AskedValue → Bool
is_top step = option_map_or (λ top. top.judged && (top.depth == 0)) step false

-- each of n steps has one place in the order
abbrev pub is_each_once : ℕ → List ℕ → Bool
is_each_once n order = list_all (λ k. count_by (λ m. k == m) order == 1) (range_with_len 0 n)

abbrev pub is_each_met_once : ℕ → Option (List ℕ) → Bool
is_each_met_once n order = option_map_or (is_each_once n) order false

-- a judged step, by its first record of another class
abbrev pub judged_holds : StepContext → AskedValue → Told → Option Rr → Bool
judged_holds g step told foreign =
    option_map_or (λ r. ends_bare (Foreign r.owner r.class r.rtype) step) foreign
    (entries_hold g (judged_part step.depth told) step.sets
    && ending_holds g step told (outcome_of g.limits step.query told (with_entries (judged_part step.depth told) step.sets)))

abbrev pub step_holds_by : StepContext → AskedValue → HeardValue → Bool
step_holds_by g step heard = option_map_or (heard_holds g step) (told_in heard) (ends_bare Failed step)

-- ---- the search for a zone

-- the step only sees what it hears to this question at this depth
abbrev pub is_plain_step : ℕ → Question → Option AskedValue → Bool
is_plain_step depth q step = option_map_or (λ s. not s.judged && ((s.depth == depth) && question_eq q s.query)) step false

abbrev pub probe_at : Labels → Option AskedValue → NsProbe
probe_at name step = option_map_or (λ s. probe_of name s.reply) step probes.Failed

-- the entry has the mark by what the search for its zone came to, where it came to something
abbrev pub is_by_search : PlacedSet → JudgedSetValue → Option ZoneVerdict → Bool
is_by_search placed entry zone = option_map_or (λ z. has_mark_of (unsigned_by placed z) entry) zone false

-- the ending is that to which a search leads, where it leads to one
abbrev pub ends_by_search : AskedValue → Told → Option ZoneVerdict → Bool
ends_by_search step told zone = option_map_or (λ z. ending_eq (ending_by (outcome_by_zone step.query told z)) step.ending) zone false
