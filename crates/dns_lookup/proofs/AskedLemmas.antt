-- For how many sets a lookup has asked its cache: at most one hit each.
use Rattle.std.proofs.Common.{ℕ, ◌+◌, ◌≡◌, ◌≤◌, Bool, true, false, List, [], ◌∷◌, ◌++◌, drop, length, slice_get, Option, None, Some, Result, Ok, Err, if◌then◌else◌, refl, ap, sym, ◌∙◌, arith}
use Rattle.std.proofs.lemmas.List.{length-append}
use Rattle.std.proofs.lemmas.List.Sums.{sum_by_push}
use Rattle.std.specs.Option.{IsSome, option_and_then, option_map}
use Rattle.dns_model.specs.Counts.{one_more}
use Rattle.dns_model.specs.declared.proof.Proof.{Proof}
use Rattle.dns_model.specs.declared.proof.Proof.TheVariants as proof
use Rattle.dns_model.specs.declared.proof.Proof.TheVariants.{Bogus}
use Rattle.dns_model.specs.declared.trail.AskRef.{AskRef}
use Rattle.dns_model.specs.declared.trail.AskRef.TheVariants.{Step}
use Rattle.dns_model.specs.Names.{Labels, parent}
use Rattle.dns_model.specs.Records.{Rr, Question, MessageValue}
use Rattle.dns_model.specs.Chains.{Judge}
use Rattle.dns_model.specs.SoundAnswers.{PlacedSet, Told, told_by}
use Rattle.dns_model.specs.Trails.{AskedValue, JudgedSetValue, Answered, Denied}
use Rattle.dns_model.specs.Trails as trails
use Rattle.dns_rules.specs.CacheEntries.{EntryValue}
use Rattle.dns_rules.specs.Asking.{Limits, ask_of}
use Rattle.dns_rules.specs.ChainedSets.{ChainedSet, ChainedVerdict, chained_by, chained_verdict, bare}
use Rattle.dns_rules.specs.Delegations.{zone_verdict}
use Rattle.dns_rules.specs.Derivation.{probe_of}
use Rattle.dns_rules.specs.Marks.{is_proved, is_skipped}
use Rattle.dns_rules.specs.MarkedSets.{MarkedSet}
use Rattle.dns_rules.specs.Outcome.{Outcome, Given, NeedsZone, foreign_record, outcome_of}
use Rattle.dns_rules.specs.Outcome as outcome
use Rattle.dns_rules.specs.Probes.{NsProbe}
use Rattle.dns_rules.specs.Probes as probes
use Rattle.dns_rules.specs.Unsigned.{needs_zone, question_start, set_start, unsigned_mark}
use Rattle.dns_cache.specs.Caches.{hits_after}
use Rattle.dns_cache.specs.declared.acceptance.Acceptance.{Acceptance}
use Rattle.dns_handle.specs.Errors.{Reply, ErrorValue, Dns, Nsec}
use Rattle.dns_flow.specs.declared.asks.Ask.{Ask}
use Rattle.dns_flow.specs.declared.phases.Seeker.{Seeker}
use Rattle.dns_flow.specs.declared.phases.Seeker.TheVariants.{Set, Ending}
use Rattle.dns_flow.specs.Leads.{entry_of}
use Rattle.dns_flow.specs.Phases.{NeedValue, SetEnds, StepEnds, Asks, GotValue, Answer, Probe, PhaseValue, Marked, NeedsDs, Trying, AtName, AtZone, Concluded, turn, after, answer_in, probe_in, start_set, start_by, start_ending, start_keys, search_at, after_probe, after_signature, after_verdict, first_signatures, signature_need, try_from, unasked}
use Rattle.dns_flow.specs.Phases as phases
use Rattle.dns_validation.specs.Received.{ReceivedValue, Message, Failed, received_value}
use Rattle.dns_validation.specs.Steps.{Findings, judged_step, plain_step, foreign_ending, given_sets, answer_by, top_of}
use Rattle.dns_validation.specs.Machine.{Terms, SoFar, OpenValue, SeekingValue, StateValue, MadeValue, begin, begun, limit_of, limits_of, findings, keeping, first_left, next_in, with_set, step_of, step_ended, give, with_step, nothing_got, refusal, asked_by as asks_by, turned, turn_in, depth_below, heard_own, heard_nested, heard_by, no_more_waiting, heard_in, heard, serving, served_set, served_entry, origin_of, found_by_entry, found_in, found}
use Rattle.dns_validation.specs.Runs.{Sent, Run, Turns, Here, Onward, HasHeard, HasTaken}
use Rattle.dns_validation.proofs.RunLemmas.{run_stands, run_turns}
use Rattle.dns_validation.proofs.Stands.{Open, Ground, Above, Stand, Waits, Seeks, Moves, Done}
use Rattle.dns_lookup.specs.Caching.{all_sets}
use Rattle.dns_lookup.specs.Driving.{kept_all, is_set, works, open_asked, sought_asked, reply_asked, asked_by, asked_in}
use Rattle.dns_lookup.proofs.FirstLemmas.{moving_by}
use Rattle.dns_lookup.proofs.WorkLemmas.{unsought}

-- ---- a set stays at work until it has its mark

abbrev one_if : Bool → ℕ
one_if b = if b then 1 else 0

one_at_most : (b : Bool) → one_if b ≤ 1
one_at_most true = omega arith
one_at_most false = omega arith

found_works : (q : Question) (told : Told) (seeker : Seeker) (mark : Proof)
    → works (phases.found q told seeker mark) ≡ one_if (is_set seeker)
unfolding works is_set
found_works q told (Set placed) mark = refl
found_works q told Ending mark = refl

search_works : (q : Question) (told : Told) (seeker : Seeker) (class : ℕ) (name : Labels)
    → works (search_at q told seeker class name) ≡ one_if (is_set seeker)
unfolding works
search_works q told seeker class [] = found_works q told seeker proof.Bogus
search_works q told seeker class (label ∷ name) = refl

probe_works : (q : Question) (told : Told) (seeker : Seeker) (class : ℕ) (name : Labels) (seen : NsProbe)
    → works (after_probe q told seeker class name seen) ≡ one_if (is_set seeker)
unfolding works
probe_works q told seeker class name probes.Found = refl
probe_works q told seeker class name probes.Absent = search_works q told seeker class (parent name)
probe_works q told seeker class name probes.Failed = found_works q told seeker proof.Bogus

skips_works : (b : Bool) (x y : PhaseValue) → works x ≡ 1 → works y ≡ 1 → works (if b then x else y) ≡ 1
skips_works true x y one other = one
skips_works false x y one other = other

try_works : (q : Question) (placed : PlacedSet) (vs : List ChainedVerdict) (rs : List Rr)
    → works (try_from q placed vs rs) ≡ 1
unfolding try_from works
try_works q placed vs [] = refl
try_works q placed vs (r ∷ rs) =
    skips_works (is_skipped q placed.set r) (try_from q placed (vs ++ unasked ∷ []) rs) (Trying placed vs)
    (try_works q placed (vs ++ unasked ∷ []) rs) refl

verdict_works : (q : Question) (placed : PlacedSet) (vs : List ChainedVerdict) (v : ChainedVerdict)
    → works (after_verdict q placed vs v) ≡ 1
unfolding works
verdict_works q placed vs v =
    skips_works (is_proved v.verdict) (Marked (chained_by placed (vs ++ v ∷ [])))
    (try_from q placed (vs ++ v ∷ []) (drop (length vs + 1) (first_signatures placed.set))) refl
    (try_works q placed (vs ++ v ∷ []) (drop (length vs + 1) (first_signatures placed.set)))

signature_works : (j : Judge) (q : Question) (placed : PlacedSet) (vs : List ChainedVerdict)
    (answer : Option (List ChainedSet)) (o : Option Rr)
    → works (after_signature j q placed vs answer o) ≡ 1
unfolding works
signature_works j q placed vs answer None = refl
signature_works j q placed vs answer (Some r) = verdict_works q placed vs (chained_verdict j placed.set r answer)

after_works : (j : Judge) (q : Question) (told : Told) (phase : PhaseValue) (got : GotValue)
    → works (after j q told phase got) ≡ works phase
unfolding after works
after_works j q told (Marked c) got = refl
after_works j q told (NeedsDs placed) got = refl
after_works j q told (Trying placed vs) got =
    signature_works j q placed vs (answer_in got) (slice_get (first_signatures placed.set) (length vs))
after_works j q told (AtName seeker class name) got = probe_works q told seeker class name (probe_in got)
after_works j q told (AtZone seeker class zone) got =
    found_works q told seeker
    (unsigned_mark (zone_verdict j.answers class zone (option_map bare (answer_in got)))).mark
after_works j q told (Concluded o) got = refl

keys_works : (b : Bool) (x : PhaseValue) (placed : PlacedSet) → works x ≡ 1
    → works (if b then NeedsDs placed else x) ≡ 1
unfolding works
keys_works true x placed one = refl
keys_works false x placed one = one

start_works : (j : Judge) (q : Question) (told : Told) (placed : PlacedSet) → works (start_set j q told placed) ≡ 1
unfolding start_set works is_set
start_works j q told placed =
    skips_works _ (start_keys j placed) _ (keys_works _ (Marked _) placed refl)
    (skips_works (needs_zone placed.set)
    (search_at q told (Set placed) placed.set.class (set_start placed.set))
    (try_from q placed [] (first_signatures placed.set))
    (search_works q told (Set placed) placed.set.class (set_start placed.set))
    (try_works q placed [] (first_signatures placed.set)))

-- an ending is no set
by_works : (q : Question) (told : Told) (o : Outcome) → works (start_by q told o) ≡ 0
unfolding works is_set
by_works q told (Given denial) = refl
by_works q told NeedsZone = search_works q told Ending q.class (question_start q)
by_works q told (outcome.Denied p) = refl

ending_works : (limits : Limits) (q : Question) (told : Told) (sets : List MarkedSet)
    → works (start_ending limits q told sets) ≡ 0
unfolding start_ending
ending_works limits q told sets = by_works q told (outcome_of limits q told sets)

at_most_one : (phase : PhaseValue) → works phase ≤ 1
unfolding works
at_most_one (Marked c) = omega arith
at_most_one (NeedsDs placed) = omega arith
at_most_one (Trying placed vs) = omega arith
at_most_one (AtName seeker class name) = one_at_most (is_set seeker)
at_most_one (AtZone seeker class zone) = one_at_most (is_set seeker)
at_most_one (Concluded o) = omega arith

signed_ends : (placed : PlacedSet) (vs : List ChainedVerdict) (o : Option Question) (x : Outcome)
    → signature_need placed vs o ≡ StepEnds x → ⊥
signed_ends placed vs None x is = cc
signed_ends placed vs (Some q) x is = cc

ends_none : (phase : PhaseValue) (o : Outcome) → turn phase ≡ StepEnds o → works phase ≡ 0
unfolding turn works
ends_none (Marked c) o is = cc
ends_none (NeedsDs placed) o is = cc
ends_none (Trying placed vs) o is =
    absurd (signed_ends placed vs
    (option_and_then (ask_of placed.set) (slice_get (first_signatures placed.set) (length vs))) o is)
ends_none (AtName seeker class name) o is = cc
ends_none (AtZone seeker class zone) o is = cc
ends_none (Concluded x) o is = refl

-- ---- counts

pushed_step : (steps : List AskedValue) (step : AskedValue)
    → all_sets (steps ++ step ∷ []) ≡ all_sets steps + length step.sets
pushed_step steps step =
    let count : AskedValue → ℕ = λ s. length s.sets in
    let here = sum_by_push count steps step in
    omega (arith, here)

pushed_set : (sets : List JudgedSetValue) (set : JudgedSetValue) → length (sets ++ set ∷ []) ≡ length sets + 1
pushed_set sets set = length-append sets (set ∷ [])

-- ---- the answer

answer_asked : (now : ℕ) (q : Question) (found : Findings) (o : Outcome)
    → reply_asked (answer_by now q found o) ≡ all_sets found.steps + length found.entries
unfolding reply_asked
answer_asked now q found (Given d) =
    pushed_step found.steps (top_of q (told_by found.message) found.empty found.entries (Answered d) found.excuse)
answer_asked now q found NeedsZone =
    pushed_step found.steps (top_of q (told_by found.message) found.empty found.entries (Denied Bogus) found.excuse)
answer_asked now q found (outcome.Denied p) =
    pushed_step found.steps (top_of q (told_by found.message) found.empty found.entries (Denied p) found.excuse)

-- ---- one turn loses none

asked_none : (o : Option Reply) (n : ℕ) → o ≡ None → asked_by o n ≡ n
unfolding asked_by
asked_none None n is = refl
asked_none (Some reply) n is = cc

-- as long as there is no answer
still_asked : (s : StateValue) → s.ended ≡ None
    → asked_in s ≡ all_sets s.closed + (sought_asked s.seeking + open_asked s.steps)
unfolding asked_in
still_asked s still = asked_none s.ended (all_sets s.closed + (sought_asked s.seeking + open_asked s.steps)) still

next_asked : (t : Terms) (so_far : SoFar) (o : Option PlacedSet) (s : StateValue) → s.seeking ≡ None → s.ended ≡ None
    → asked_in (next_in t so_far o s) ≡ all_sets s.closed + (length so_far.entries + open_asked s.steps)
unfolding open_asked sought_asked
next_asked t so_far None s none still =
    let here = still_asked (next_in t so_far None s) still in
    let sought = ap sought_asked none in
    let ending = ending_works (limits_of t) so_far.query (told_by so_far.message) (bare so_far.sets) in
    omega (arith, here, sought, ending)
next_asked t so_far (Some placed) s none still =
    let here = still_asked (next_in t so_far (Some placed) s) still in omega (arith, here)

give_asked : (j : Judge) (ask : AskRef) (got : GotValue) (steps : List OpenValue)
    → open_asked (give j ask got steps) ≡ open_asked steps
unfolding open_asked
give_asked j ask got [] = refl
give_asked j ask got (f ∷ outer) =
    let same = after_works j f.so_far.query (told_by f.so_far.message) f.phase got in
    omega (arith, same)

stepped : (j : Judge) (step : AskedValue) (got : GotValue) (s : StateValue) → s.ended ≡ None
    → asked_in (with_step j step got s)
    ≡ all_sets s.closed + length step.sets + (sought_asked s.seeking + open_asked s.steps)
stepped j step got s still =
    let here = still_asked (with_step j step got s) still in
    let push = pushed_step s.closed step in
    let same = give_asked j (Step (length s.closed)) got s.steps in
    omega (arith, here, push, same)

step_asked : (t : Terms) (so_far : SoFar) (asked : List AskRef) (o : Outcome) (s : StateValue) (steps : List OpenValue)
    → s.seeking ≡ None → s.ended ≡ None
    → all_sets s.closed + (length so_far.entries + open_asked steps)
    ≤ asked_in (step_ended t so_far asked o (record s { steps = steps }))
unfolding asked_in open_asked sought_asked asked_by
step_asked t so_far asked o s [] none still =
    let answer = answer_asked t.now so_far.query (findings s.closed so_far asked o) o in
    omega (arith, answer)
step_asked t so_far asked o s (g ∷ outer) none still =
    let sought = ap sought_asked none in
    let kept = keeping t (length s.closed) so_far (record s { steps = g ∷ outer }) in
    let here =
    stepped t.judge (step_of so_far asked o) (Answer (given_sets o so_far.sets)) kept still in
    omega (arith, sought, here)

ask_asked : (j : Judge) (o : Option AskRef) (ask : Ask) (f : OpenValue) (s : StateValue) → s.seeking ≡ None
    → s.ended ≡ None
    → all_sets s.closed + (length f.so_far.entries + works f.phase + open_asked s.steps)
    ≤ asked_in (asks_by j o ask f s)
unfolding open_asked sought_asked
ask_asked j None ask f s none still =
    let here = still_asked (asks_by j None ask f s) still in
    let sought = ap sought_asked none in
    omega (arith, here, sought)
ask_asked j (Some r) ask f s none still =
    let here = still_asked (asks_by j (Some r) ask f s) still in
    let sought = ap sought_asked none in
    let same = after_works j f.so_far.query (told_by f.so_far.message) f.phase (nothing_got ask.judged) in
    omega (arith, here, sought, same)

-- only a set that is at work ends as one, and counts on; an ending is none
need_asked : (t : Terms) (f : OpenValue) (s : StateValue) (outer : List OpenValue) (need : NeedValue)
    → turn f.phase ≡ need → s.seeking ≡ None → s.ended ≡ None
    → all_sets s.closed + (length f.so_far.entries + works f.phase + open_asked outer)
    ≤ asked_in (turned t f (record s { steps = outer }) need)
need_asked t f s outer (SetEnds c) is none still =
    let so_far = with_set f.so_far c (entry_of c.judged f.asked) f.cause in
    let here = next_asked t so_far (first_left so_far.left) (record s { steps = outer }) none still in
    let more = pushed_set f.so_far.entries (entry_of c.judged f.asked) in
    let one = at_most_one f.phase in
    omega (arith, here, more, one)
need_asked t f s outer (StepEnds o) is none still =
    let here = step_asked t f.so_far f.asked o s outer none still in
    let ending = ends_none f.phase o is in
    omega (arith, here, ending)
need_asked t f s outer (Asks ask) is none still =
    ask_asked t.judge (refusal (limit_of t) s.sends f.so_far.depth ask.judged) ask f (record s { steps = outer }) none
    still

of_state : (s : StateValue) (f : OpenValue) (outer : List OpenValue) → s.steps ≡ f ∷ outer → s.seeking ≡ None
    → s.ended ≡ None
    → asked_in s ≡ all_sets s.closed + (length f.so_far.entries + works f.phase + open_asked outer)
unfolding open_asked sought_asked
of_state s f outer is none still =
    let here = still_asked s still in
    let steps = ap open_asked is in
    let sought = ap sought_asked none in
    omega (arith, here, steps, sought)

turn_asked : (t : Terms) (s : StateValue) (steps : List OpenValue) → s.steps ≡ steps → s.seeking ≡ None
    → s.ended ≡ None
    → asked_in s ≤ asked_in (turn_in t s steps)
turn_asked t s [] is none still = omega arith
turn_asked t s (f ∷ outer) is none still =
    let here = need_asked t f s outer (turn f.phase) refl none still in
    let there = of_state s f outer is none still in
    omega (arith, here, there)

turns_asked : (t : Terms) (cached : List EntryValue) (sends : List Sent) (s u : StateValue) → Run t cached sends s
    → Turns t s u → asked_in s ≤ asked_in u
turns_asked t cached sends _ _ run (Here s u is) = let same = ap asked_in is in omega (arith, same)
turns_asked t cached sends _ _ run (Onward s m u turns on is) =
    let there = run_stands t cached sends m (run_turns t cached sends s m run turns) in
    let still = moving_by t cached m.pending m.seeking m.steps m.closed m.sends sends m.made m.ended there on in
    let same = ap asked_in is in
    let one = turn_asked t m m.steps refl (unsought m on) still.0 in
    let rest = turns_asked t cached sends s m run turns in
    omega (arith, same, one, rest)

-- ---- one reply loses none

own_asked : (t : Terms) (s : StateValue) (q : Question) (m : MessageValue) (empty : Bool) (o : Option Rr)
    → s.seeking ≡ None → s.ended ≡ None → asked_in s ≡ 0
    → asked_in s ≤ asked_in (heard_own t s q m empty o)
own_asked t s q m empty o none still zero = omega (arith, zero)

step_heard : (j : Judge) (s : StateValue) (step : AskedValue) (got : GotValue) → s.ended ≡ None
    → asked_in s ≤ asked_in (with_step j step got s)
step_heard j s step got still =
    let here = stepped j step got s still in
    let before = still_asked s still in
    omega (arith, here, before)

nested_asked : (t : Terms) (s : StateValue) (q : Question) (depth : ℕ) (m : MessageValue) (empty : Bool)
    (o : Option Rr) → s.seeking ≡ None → s.ended ≡ None
    → asked_in s ≤ asked_in (heard_nested t s q depth m empty o)
unfolding sought_asked
nested_asked t s q depth m empty None none still =
    let here = next_asked t (begun q depth m empty) (first_left (begun q depth m empty).left) s none still in
    let before = still_asked s still in
    let sought = ap sought_asked none in
    omega (arith, here, before, sought)
nested_asked t s q depth m empty (Some r) none still =
    step_heard t.judge s (judged_step depth q (trails.Records (told_by m) empty) [] (foreign_ending r) [])
    (Answer None) still

-- the reply to the first ask, before which no set was asked for
reply_by : (t : Terms) (s : StateValue) (q : Question) (judged : Bool) (o : Option ℕ) (received : ReceivedValue)
    → s.seeking ≡ None → s.ended ≡ None → (o ≡ None → asked_in s ≡ 0)
    → asked_in s ≤ asked_in (heard_by t s q judged o received)
reply_by t s q true None received none still zero = let first = zero refl in omega (arith, first)
reply_by t s q true (Some depth) (Failed error) none still zero =
    step_heard t.judge s (judged_step (depth + 1) q trails.Fault [] trails.Failed []) (Answer None) still
reply_by t s q true (Some depth) (Message m empty) none still zero =
    nested_asked t s q (depth + 1) m empty (foreign_record q (told_by m)) none still
reply_by t s q false None received none still zero = omega arith
reply_by t s q false (Some depth) (Failed error) none still zero =
    step_heard t.judge s (plain_step depth q trails.Fault trails.Failed) (Probe probes.Failed) still
reply_by t s q false (Some depth) (Message m empty) none still zero =
    step_heard t.judge s (plain_step depth q (trails.Records (told_by m) empty) trails.Seen)
    (Probe (probe_of q.owner (trails.Records (told_by m) empty))) still

no_below : (steps : List OpenValue) → depth_below steps ≡ None → steps ≡ []
no_below [] is = refl
no_below (f ∷ outer) is = cc

-- with no open step only the first ask waits
module _ (t : Terms) (cached : List EntryValue) where
  ground_closed : (steps : List OpenValue) (closed : List AskedValue) (n : ℕ) (sends : List Sent)
      → Open t cached steps closed n sends → steps ≡ [] → closed ≡ []
  ground_closed _ _ _ _ Ground is = refl
  ground_closed _ _ _ _ (Above f outer below closed n m before after all first beneath top all_is) is = cc

  waits_closed : (pending : Option Ask) (seeking : Option SeekingValue) (steps : List OpenValue)
      (closed : List AskedValue) (n : ℕ) (sends : List Sent) (made : List MadeValue) (ended : Option Reply) (ask : Ask)
      → Stand t cached pending seeking steps closed n sends made ended → pending ≡ Some ask → steps ≡ [] → closed ≡ []
  waits_closed _ _ _ _ _ _ _ _ ask (Waits a steps closed n sends made beneath few awaits each) is none =
      ground_closed steps closed n sends beneath none
  waits_closed _ _ _ _ _ _ _ _ ask
      (Seeks k outer below closed n m before after all first made beneath h all_is each) is none = cc
  waits_closed _ _ _ _ _ _ _ _ ask (Moves f outer closed n sends made beneath each) is none = cc
  waits_closed _ _ _ _ _ _ _ _ ask (Done closed n sends made reply comes) is none = cc

none_asked : (s : StateValue) → s.closed ≡ [] → s.steps ≡ [] → s.seeking ≡ None → s.ended ≡ None → asked_in s ≡ 0
unfolding open_asked sought_asked
none_asked s closed steps none still =
    let here = still_asked s still in
    let sets = ap all_sets closed in
    let open_none = ap open_asked steps in
    let sought = ap sought_asked none in
    omega (arith, here, sets, open_none, sought)

waiting_same : (s : StateValue) → asked_in (no_more_waiting s) ≡ asked_in s
unfolding asked_in
waiting_same s = refl

waits_asked : (t : Terms) (s : StateValue) (o : Option Ask) (received : ReceivedValue) → s.seeking ≡ None
    → s.ended ≡ None → (IsSome o → s.steps ≡ [] → s.closed ≡ [])
    → asked_in s ≤ asked_in (heard_in t s received o)
waits_asked t s None received none still first = omega arith
waits_asked t s (Some ask) received none still first =
    let same = waiting_same s in
    let here = reply_by t (no_more_waiting s) ask.query ask.judged (depth_below s.steps) received none still
    (λ below. same ∙ none_asked s (first refl (no_below s.steps below)) (no_below s.steps below) none still) in
    omega (arith, same, here)

closed_first : (t : Terms) (cached : List EntryValue) (sends : List Sent) (s : StateValue) (o : Option Ask)
    → s.pending ≡ o → Run t cached sends s → IsSome o → s.steps ≡ [] → s.closed ≡ []
closed_first t cached sends s None waits run some none = cc
closed_first t cached sends s (Some ask) waits run some none =
    waits_closed t cached s.pending s.seeking s.steps s.closed s.sends sends s.made s.ended ask
    (run_stands t cached sends s run) waits none

pub heard_asked : (t : Terms) (cached : List EntryValue) (sends all : List Sent) (s u : StateValue) (reply : Reply)
    → s.seeking ≡ None → s.ended ≡ None → Run t cached sends s → Run t cached all (heard t s reply)
    → HasHeard t s reply u
    → asked_in s ≤ asked_in u
heard_asked t cached sends all s u reply none still before run h =
    let rest = turns_asked t cached all (heard t s reply) u run h.turns in
    let one = waits_asked t s s.pending (received_value reply) none still
    (closed_first t cached sends s s.pending refl before) in
    omega (arith, rest, one)

-- ---- one more set has been asked for

by_rules : (t : Terms) (k : SeekingValue) (s : StateValue) → s.seeking ≡ None → s.ended ≡ None
    → asked_in (found_by_entry t k None s) ≡ all_sets s.closed + (length k.so_far.entries + 1 + open_asked s.steps)
unfolding open_asked sought_asked
by_rules t k s none still =
    let here = still_asked (found_by_entry t k None s) still in
    let sought = ap sought_asked none in
    let one = start_works t.judge k.so_far.query (told_by k.so_far.message) k.placed in
    omega (arith, here, sought, one)

by_entry : (t : Terms) (k : SeekingValue) (o : Option EntryValue) (s : StateValue) → s.seeking ≡ None
    → s.ended ≡ None
    → asked_in (found_by_entry t k o s) ≡ all_sets s.closed + (length k.so_far.entries + 1 + open_asked s.steps)
by_entry t k None s none still = by_rules t k s none still
by_entry t k (Some e) s none still =
    let set = served_set k.placed e in
    let entry = served_entry (origin_of s.made e) set in
    let so_far = with_set k.so_far set entry None in
    let here = next_asked t so_far (first_left so_far.left) s none still in
    let push = pushed_set k.so_far.entries entry in
    omega (arith, here, push)

sought_is : (s : StateValue) (k : SeekingValue) → s.seeking ≡ Some k → s.ended ≡ None
    → asked_in s ≡ all_sets s.closed + (length k.so_far.entries + open_asked s.steps)
unfolding sought_asked
sought_is s k is still =
    let here = still_asked s still in let sought = ap sought_asked is in omega (arith, here, sought)

found_asked : (t : Terms) (given : Option (EntryValue × Acceptance)) (k : SeekingValue) (s : StateValue)
    (o : Option SeekingValue) → o ≡ Some k → s.seeking ≡ o → s.ended ≡ None
    → asked_in s + 1 ≤ asked_in (found_in t given o s)
found_asked t given k s None is at still = cc
found_asked t given k s (Some it) is at still =
    let here =
    by_entry t it (serving t.judge it.so_far.query it.placed given) (record s { seeking = None }) refl still in
    let there = sought_is s it at still in
    omega (arith, here, there)

pub taken_asked : (t : Terms) (cached : List EntryValue) (sends : List Sent) (s u : StateValue)
    (given : Option (EntryValue × Acceptance)) (k : SeekingValue)
    → s.seeking ≡ Some k → s.ended ≡ None → Run t cached sends (found t given s) → HasTaken t s given u
    → asked_in s + 1 ≤ asked_in u
taken_asked t cached sends s u given k is still run h =
    let rest = turns_asked t cached sends (found t given s) u run h.turns in
    let one = found_asked t given k s s.seeking is refl still in
    omega (arith, rest, one)

-- one hit more at most
pub few_given : (n m first now after : ℕ) (given : Option (EntryValue × Acceptance)) → n + 1 ≤ m → now ≤ first + n
    → after ≡ hits_after now (let r : Result (Option EntryValue) ℕ = Ok (option_map (λ p. p.0) given) in r)
    → after ≤ first + m
few_given n m first now after None more few is = omega (arith, more, few, is)
few_given n m first now after (Some p) more few is = omega (arith, more, few, is)

pub few_still : (n m first now : ℕ) → n ≤ m → now ≤ first + n → now ≤ first + m
few_still n m first now more few = omega (arith, more, few)

-- ---- what is kept, the begin and the end

pub kept_asked : (s : StateValue) → asked_in (kept_all s) ≡ asked_in s
unfolding asked_in
kept_asked s = refl

pub begun_asked : (q : Question) → asked_in (begin q) ≡ 0
unfolding asked_in asked_by sought_asked open_asked
begun_asked q = refl

-- at the end the sets of the trail
end_by : (o : Option Reply) (n : ℕ) (reply : Reply) → o ≡ Some reply → asked_by o n ≡ reply_asked reply
unfolding asked_by
end_by None n reply is = cc
end_by (Some r) n reply is = let same : r ≡ reply = cc in ap reply_asked same

pub end_asked : (s : StateValue) (reply : Reply) → s.ended ≡ Some reply → asked_in s ≡ reply_asked reply
unfolding asked_in
end_asked s reply is = end_by s.ended (all_sets s.closed + (sought_asked s.seeking + open_asked s.steps)) reply is
