-- The machine of a validation: the steps that are open, one on top of another, and those that have ended; one turn and one reply at
-- a time (RFC 4035, 4.3 and 5).
use Rattle.std.specs.Prelude.{ℕ, ◌+◌, Bool, true, false, not, ◌&&◌, nat_eq, nat_lt, nat_le, List, [], ◌∷◌, ◌++◌, map, reverse, length, drop, Option, None, Some, Ok, Err, if◌then◌else◌}
use Rattle.std.specs.Option.{option_map, option_eq}
use Rattle.std.specs.List.{filter_map, zip}
use Rattle.dns_model.specs.declared.proof.Proof.{Proof}
use Rattle.dns_model.specs.declared.trail.MarkOrigin.{MarkOrigin}
use Rattle.dns_model.specs.declared.trail.MarkOrigin.TheVariants.{Repeat, Cache}
use Rattle.dns_model.specs.declared.trail.AskRef.{AskRef}
use Rattle.dns_model.specs.declared.trail.AskRef.TheVariants.{Step, TooDeep, TooMany}
use Rattle.dns_model.specs.Records.{Rr, Question, MessageValue}
use Rattle.dns_model.specs.Chains.{Judge}
use Rattle.dns_model.specs.SoundAnswers.{ChainValue, PlacedSet, is_secure, told_by}
use Rattle.dns_model.specs.Trails.{AskedValue, JudgedSetValue, Records, Fault, Failed, Seen}
use Rattle.dns_rules.specs.Asking.{Limits, most_sends, depth_limit, judged_part}
use Rattle.dns_rules.specs.ChainedSets.{ChainedSet, bare}
use Rattle.dns_rules.specs.CacheKeys.{CacheKeyValue, key_of, key_eq}
use Rattle.dns_rules.specs.CacheEntries.{EntryValue, Found, mark_of, sig_of}
use Rattle.dns_rules.specs.Derivation.{probe_of, proof_eq, ending_by}
use Rattle.dns_rules.specs.Outcome.{Outcome, foreign_record}
use Rattle.dns_rules.specs.Probes as probes
use Rattle.dns_rules.specs.ProofErrors.{ProofErrorKindValue}
use Rattle.dns_rules.specs.Serving.{judged_as, links_of, still_holds}
use Rattle.dns_cache.specs.Expiry.{TtlRangesValue, expires_at}
use Rattle.dns_cache.specs.declared.acceptance.Acceptance.{Acceptance}
use Rattle.dns_cache.specs.declared.acceptance.Acceptance.TheVariants.{Other}
use Rattle.dns_handle.specs.Errors as seen
use Rattle.dns_handle.specs.Errors.{Reply}
use Rattle.dns_handle.specs.Requests.{RequestValue}
use Rattle.dns_handle.specs.declared.request.DnsRequestOptions.{DnsRequestOptions}
use Rattle.dns_evidence.specs.declared.limits.IterationLimits.{IterationLimits}
use Rattle.dns_flow.specs.declared.asks.Ask.{Ask}
use Rattle.dns_flow.specs.Causes.{cause_after, found_of, is_net, start_cause}
use Rattle.dns_flow.specs.Leads.{entry_of}
use Rattle.dns_flow.specs.Phases.{PhaseValue, NeedValue, SetEnds, StepEnds, Asks, GotValue, Answer, Probe, judged_ask, start_set, start_ending, turn, after}
use Rattle.dns_validation.specs.Received.{ReceivedValue, Message, Failed as Unheard, received_value}
use Rattle.dns_validation.specs.Steps.{judged_step, plain_step, foreign_ending, given_sets, Findings, judged_answer}

-- ---- what a validation is

-- by what it judges and asks: the judge, its query, the request that it sends for that, its options, how many iterations of a hash it
-- counts, for how long what it finds is kept, and its moment in seconds
pub record Terms : Type 0 where
  pub judge : Judge
  pub query : Question
  pub request : RequestValue
  pub options : DnsRequestOptions
  pub iterations : IterationLimits
  pub ranges : TtlRangesValue
  pub now : ℕ

-- how deep its asks go
abbrev pub limit_of : Terms → ℕ
limit_of t = depth_limit t.options.max_request_depth

-- and how far it goes
abbrev pub limits_of : Terms → Limits
limits_of t = record { depth = limit_of t; soft = t.iterations.soft; hard = t.iterations.hard }

-- a step so far: its question and depth, the message that it heard and whether that said that there are no records, the sets that
-- aren't judged yet, and those that are, with their entries, and with why each isn't Secure, or none where it was served
pub record SoFar : Type 0 where
  pub query : Question
  pub depth : ℕ
  pub message : MessageValue
  pub empty : Bool
  pub left : List PlacedSet
  pub sets : List ChainedSet
  pub entries : List JudgedSetValue
  pub causes : List (Option ProofErrorKindValue)

-- an open step: what it came to so far, the asks of the set, or of the ending, that is at work, the phase of that, and the cause of the set
pub record OpenValue : Type 0 where
  pub so_far : SoFar
  pub asked : List AskRef
  pub phase : PhaseValue
  pub cause : Option ProofErrorKindValue

-- a set whose turn has come in the innermost step: what was kept of it is sought
pub record SeekingValue : Type 0 where
  pub so_far : SoFar
  pub placed : PlacedSet

-- what was given out to be kept: its key, the number of the step that found it, the mark, and the place of the signature that decided
pub record MadeValue : Type 0 where
  pub key : CacheKeyValue
  pub number : ℕ
  pub mark : Proof
  pub sig : Option ℕ

-- the steps that have ended, the open ones, the innermost first, the set that waits for what was kept of it, of a step inside all of these, the ask
-- that waits for its reply, the number of sends, what was given out to be kept, the last first, what is still to be given out, and the answer
-- with which it has come to its end
pub record StateValue : Type 0 where
  pub closed : List AskedValue
  pub steps : List OpenValue
  pub seeking : Option SeekingValue
  pub pending : Option Ask
  pub sends : ℕ
  pub made : List MadeValue
  pub kept : List EntryValue
  pub ended : Option Reply

-- it asks for its query
abbrev pub begin : Question → StateValue
begin q = record {
  closed = [];
  steps = [];
  seeking = None;
  pending = Some (judged_ask q);
  sends = 0;
  made = [];
  kept = [];
  ended = None;
}

-- ---- an open step

abbrev pub on_top : OpenValue → StateValue → StateValue
on_top f s = record s { steps = f ∷ s.steps }

abbrev pub first_left : List PlacedSet → Option PlacedSet
first_left [] = None
first_left (placed ∷ left) = Some placed

-- all sets of a step are judged, and its ending begins
abbrev pub ending_item : Terms → SoFar → OpenValue
ending_item t s = record {
  so_far = s;
  asked = [];
  phase = start_ending (limits_of t) s.query (told_by s.message) (bare s.sets);
  cause = None;
}

-- a set begins by the rules
abbrev pub set_item : Terms → SoFar → PlacedSet → OpenValue
set_item t s placed = record {
  so_far = s;
  asked = [];
  phase = start_set t.judge s.query (told_by s.message) placed;
  cause = Some (start_cause placed.set);
}

-- the next of a step's sets waits for what was kept of it, or the ending begins
abbrev pub next_in : Terms → SoFar → Option PlacedSet → StateValue → StateValue
next_in t s None state = on_top (ending_item t s) state
next_in t s (Some placed) state =
    record state { seeking = Some (record { so_far = record s { left = drop 1 s.left }; placed = placed }) }

abbrev pub went_on : Terms → SoFar → StateValue → StateValue
went_on t s state = next_in t s (first_left s.left) state

-- a step that heard a message
abbrev pub begun : Question → ℕ → MessageValue → Bool → SoFar
begun q depth message empty = record {
  query = q;
  depth = depth;
  message = message;
  empty = empty;
  left = judged_part depth (told_by message);
  sets = [];
  entries = [];
  causes = [];
}

-- a step opens
abbrev pub opened : Terms → Question → ℕ → MessageValue → Bool → StateValue → StateValue
opened t q depth message empty state = went_on t (begun q depth message empty) state

-- its set is judged, by the rules with a cause, else as it was served
abbrev pub with_set : SoFar → ChainedSet → JudgedSetValue → Option ProofErrorKindValue → SoFar
with_set s c entry cause =
    record s { sets = s.sets ++ c ∷ []; entries = s.entries ++ entry ∷ []; causes = s.causes ++ cause ∷ [] }

abbrev pub set_ended : Terms → OpenValue → ChainedSet → StateValue → StateValue
set_ended t f c state = went_on t (with_set f.so_far c (entry_of c.judged f.asked) f.cause) state

-- ---- what was kept

-- whether what was found before holds of a set, by whose acceptance its chain has: another's counts for nothing where it says Secure
abbrev pub holds_given : Acceptance → Judge → PlacedSet → EntryValue → Bool
holds_given Other j placed e = not (is_secure (mark_of e.found))
holds_given _ j placed e = still_holds j placed e

-- the entry that serves a set in the answer to a question: it was kept of the same set in such an answer, and holds of it
abbrev pub serving : Judge → Question → PlacedSet → Option (EntryValue × Acceptance) → Option EntryValue
serving j q placed None = None
serving j q placed (Some given) =
    if key_eq (key_of q placed.set) given.0.key && holds_given given.1 j placed given.0 then Some given.0 else None

-- the step that gave out its key to be kept, where it found the same; else it was kept before
abbrev pub origin_by : MadeValue → EntryValue → MarkOrigin
origin_by m e =
    if proof_eq m.mark (mark_of e.found) && option_eq nat_eq m.sig (sig_of e.found) then Repeat m.number else Cache

-- by the last step of this validation that gave the key out
unfoldable pub origin_of : List MadeValue → EntryValue → MarkOrigin
origin_of [] e = Cache
origin_of (m ∷ made) e = if key_eq m.key e.key then origin_by m e else origin_of made e

-- the set as it is served, with the chain by which it is Secure
abbrev pub served_set : PlacedSet → EntryValue → ChainedSet
served_set placed e =
    record { judged = judged_as placed e.found; chain = if is_secure (mark_of e.found) then links_of e.chain else [] }

abbrev pub served_entry : MarkOrigin → ChainedSet → JudgedSetValue
served_entry origin c = record (entry_of c.judged []) { origin = origin }

-- what was kept serves the set, or the rules begin
abbrev pub found_by_entry : Terms → SeekingValue → Option EntryValue → StateValue → StateValue
found_by_entry t seeking None state = on_top (set_item t seeking.so_far seeking.placed) state
found_by_entry t seeking (Some e) state =
    went_on t
    (with_set seeking.so_far (served_set seeking.placed e) (served_entry (origin_of state.made e) (served_set seeking.placed e)) None)
    state

abbrev pub found_in : Terms → Option (EntryValue × Acceptance) → Option SeekingValue → StateValue → StateValue
found_in t given None state = state
found_in t given (Some seeking) state =
    found_by_entry t seeking (serving t.judge seeking.so_far.query seeking.placed given) (record state { seeking = None })

-- what was kept of the set that waits for it, if anything was
abbrev pub found : Terms → Option (EntryValue × Acceptance) → StateValue → StateValue
found t given state = found_in t given state.seeking state

-- the key of the set that waits
abbrev pub sought : StateValue → Option CacheKeyValue
sought state = option_map (λ s. key_of s.so_far.query s.placed.set) state.seeking

-- ---- what is kept

-- what is found is kept, but for an ask that failed
abbrev pub is_kept : Found → Bool
is_kept (Ok proof) = true
is_kept (Err error) = not (is_net error.kind)

abbrev pub chain_of : ChainedSet → Option ChainValue
chain_of c = if is_secure c.judged.mark then Some (record { section = c.judged.section; links = c.chain }) else None

-- what is kept of a set of which this was found
abbrev pub entry_by : Terms → Question → ChainedSet → Found → EntryValue
entry_by t q c f = record {
  key = key_of q c.judged.set;
  expires = expires_at t.ranges t.now c.judged.set f (chain_of c);
  found = f;
  chain = chain_of c;
}

abbrev pub entry_if_kept : Terms → Question → ChainedSet → Found → Option EntryValue
entry_if_kept t q c f = if is_kept f then Some (entry_by t q c f) else None

-- of a judged set, unless it was served or its ask failed
abbrev pub entry_if : Terms → Question → ChainedSet × Option ProofErrorKindValue → Option EntryValue
entry_if t q (c, None) = None
entry_if t q (c, Some cause) = entry_if_kept t q c (found_of t.now c.judged cause)

-- what a step leaves to be kept, in the order of its sets
abbrev pub entries_left : Terms → SoFar → List EntryValue
entries_left t s = filter_map (entry_if t s.query) (zip s.sets s.causes)

abbrev pub made_by : ℕ → EntryValue → MadeValue
made_by number e = record { key = e.key; number = number; mark = mark_of e.found; sig = sig_of e.found }

-- an entry that the step with this number leaves, if it does
abbrev pub giving : ℕ → Option EntryValue → StateValue → StateValue
giving number None state = state
giving number (Some e) state = record state { made = made_by number e ∷ state.made; kept = state.kept ++ e ∷ [] }

-- sets of the step with this number leave what was found of them, one after another
abbrev pub leaving : Terms → ℕ → Question → List ChainedSet → List (Option ProofErrorKindValue) → StateValue → StateValue
leaving t number q [] causes state = state
leaving t number q (c ∷ sets) [] state = state
leaving t number q (c ∷ sets) (cause ∷ causes) state = leaving t number q sets causes (giving number (entry_if t q (c, cause)) state)

-- the step with this number has ended
abbrev pub keeping : Terms → ℕ → SoFar → StateValue → StateValue
keeping t number s state = record state {
  made = reverse (map (made_by number) (entries_left t s)) ++ state.made;
  kept = state.kept ++ entries_left t s;
}

-- the first that is still to be given out
abbrev pub first_kept : List EntryValue → Option EntryValue
first_kept [] = None
first_kept (e ∷ kept) = Some e

-- it is given out
abbrev pub given_out : StateValue → StateValue
given_out state = record state { kept = drop 1 state.kept }

-- ---- answers of asks

-- its ask got an answer
abbrev pub answered : Judge → AskRef → GotValue → OpenValue → OpenValue
answered j ask got f = record f {
  asked = f.asked ++ ask ∷ [];
  phase = after j f.so_far.query (told_by f.so_far.message) f.phase got;
  cause = option_map (cause_after j f.phase got) f.cause;
}

-- the innermost open step has its answer
abbrev pub give : Judge → AskRef → GotValue → List OpenValue → List OpenValue
give j ask got [] = []
give j ask got (f ∷ outer) = answered j ask got f ∷ outer

-- a step ends, and answers the one that asked for it
abbrev pub with_step : Judge → AskedValue → GotValue → StateValue → StateValue
with_step j step got s = record s { closed = s.closed ++ step ∷ []; steps = give j (Step (length s.closed)) got s.steps }

-- ---- a step ends

-- the step that an open one becomes
abbrev pub step_of : SoFar → List AskRef → Outcome → AskedValue
step_of s excuse o = judged_step s.depth s.query (Records (told_by s.message) s.empty) s.entries (ending_by o) excuse

-- what was found by the step for the query
abbrev pub findings : List AskedValue → SoFar → List AskRef → Outcome → Findings
findings closed s excuse o = record {
  message = s.message;
  empty = s.empty;
  steps = closed;
  sets = s.sets;
  entries = s.entries;
  outcome = o;
  excuse = excuse;
}

-- no step is open
abbrev pub none_open : List OpenValue → Bool
none_open [] = true
none_open (f ∷ outer) = false

-- the step for the query makes the answer
abbrev pub answered_last : ℕ → SoFar → List AskRef → Outcome → StateValue → StateValue
answered_last now s excuse o state =
    record state { closed = []; ended = Some (judged_answer now s.query (findings state.closed s excuse o)) }

-- the last open step makes the answer, and another answers the step beneath it
abbrev pub step_ended : Terms → SoFar → List AskRef → Outcome → StateValue → StateValue
step_ended t s excuse o state =
    if none_open state.steps
    then answered_last t.now s excuse o (keeping t (length state.closed) s state)
    else with_step t.judge (step_of s excuse o) (Answer (given_sets o s.sets)) (keeping t (length state.closed) s state)

-- ---- an ask

-- a judged ask is one deeper than the step that makes it
abbrev pub ask_depth : ℕ → Bool → ℕ
ask_depth depth true = depth + 1
ask_depth depth false = depth

-- what an ask gets that is refused
abbrev pub nothing_got : Bool → GotValue
nothing_got true = Answer None
nothing_got false = Probe probes.Failed

-- why an ask is refused, if it is; a plain one is as deep as its step, and never too deep
abbrev pub refusal : ℕ → ℕ → ℕ → Bool → Option AskRef
refusal limit sends depth judged =
    if judged && nat_lt limit (depth + 1) then Some TooDeep else if nat_le most_sends sends then Some TooMany else None

abbrev pub asked_by : Judge → Option AskRef → Ask → OpenValue → StateValue → StateValue
asked_by j None ask f s = record s { steps = f ∷ s.steps; pending = Some ask }
asked_by j (Some refused) ask f s = on_top (answered j refused (nothing_got ask.judged) f) s

-- ---- one turn

abbrev pub turned : Terms → OpenValue → StateValue → NeedValue → StateValue
turned t f s (SetEnds c) = set_ended t f c s
turned t f s (StepEnds o) = step_ended t f.so_far f.asked o s
turned t f s (Asks ask) = asked_by t.judge (refusal (limit_of t) s.sends f.so_far.depth ask.judged) ask f s

abbrev pub turn_in : Terms → StateValue → List OpenValue → StateValue
turn_in t s [] = s
turn_in t s (f ∷ outer) = turned t f (record s { steps = outer }) (turn f.phase)

-- one turn of the innermost open step
abbrev pub tick : Terms → StateValue → StateValue
tick t s = turn_in t s s.steps

-- ---- one reply

-- its records are of the query's class, or the first that isn't is named
abbrev pub heard_own : Terms → StateValue → Question → MessageValue → Bool → Option Rr → StateValue
heard_own t s q m empty None = opened t q 0 m empty s
heard_own t s q m empty (Some r) = record s { ended = Some (Err (seen.ForeignClassRecord r.owner r.class r.rtype)) }

-- the reply to the first ask
abbrev pub heard_first : Terms → StateValue → Question → ReceivedValue → StateValue
heard_first t s q (Unheard error) = record s { ended = Some (Err error) }
heard_first t s q (Message m empty) = heard_own t s q m empty (foreign_record q (told_by m))

-- a judged ask of a step got a message
abbrev pub heard_nested : Terms → StateValue → Question → ℕ → MessageValue → Bool → Option Rr → StateValue
heard_nested t s q depth m empty None = opened t q depth m empty s
heard_nested t s q depth m empty (Some r) =
    with_step t.judge (judged_step depth q (Records (told_by m) empty) [] (foreign_ending r) []) (Answer None) s

-- the reply to a judged ask of a step
abbrev pub heard_judged : Terms → StateValue → Question → ℕ → ReceivedValue → StateValue
heard_judged t s q depth (Unheard error) = with_step t.judge (judged_step depth q Fault [] Failed []) (Answer None) s
heard_judged t s q depth (Message m empty) = heard_nested t s q depth m empty (foreign_record q (told_by m))

-- the reply to a plain ask
abbrev pub heard_plain : Judge → StateValue → Question → ℕ → ReceivedValue → StateValue
heard_plain j s q depth (Unheard error) = with_step j (plain_step depth q Fault Failed) (Probe probes.Failed) s
heard_plain j s q depth (Message m empty) =
    with_step j (plain_step depth q (Records (told_by m) empty) Seen) (Probe (probe_of q.owner (Records (told_by m) empty))) s

-- how deep the innermost open step is
abbrev pub depth_below : List OpenValue → Option ℕ
depth_below [] = None
depth_below (f ∷ outer) = Some f.so_far.depth

abbrev pub heard_by : Terms → StateValue → Question → Bool → Option ℕ → ReceivedValue → StateValue
heard_by t s q true None received = heard_first t s q received
heard_by t s q true (Some depth) received = heard_judged t s q (depth + 1) received
heard_by t s q false None received = s
heard_by t s q false (Some depth) received = heard_plain t.judge s q depth received

-- the ask doesn't wait any more, and its send is counted
abbrev pub no_more_waiting : StateValue → StateValue
no_more_waiting s = record s { pending = None; sends = s.sends + 1 }

abbrev pub taken : StateValue → Option Ask → StateValue
taken s None = s
taken s (Some ask) = no_more_waiting s

-- the reply to the ask that waits for it; one that waits for none lets it go
abbrev pub heard_in : Terms → StateValue → ReceivedValue → Option Ask → StateValue
heard_in t s received None = s
heard_in t s received (Some ask) = heard_by t (no_more_waiting s) ask.query ask.judged (depth_below s.steps) received

abbrev pub heard : Terms → StateValue → Reply → StateValue
heard t s reply = heard_in t s (received_value reply) s.pending
