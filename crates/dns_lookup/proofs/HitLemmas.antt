-- How many sets are served from a cache: each of them by one hit.
use Rattle.std.proofs.Common.{ℕ, ◌+◌, ◌≡◌, ◌≤◌, Bool, true, false, cond, List, [], ◌∷◌, ◌++◌, length, Option, None, Some, Result, Ok, Err, refl, ap, arith}
use Rattle.std.proofs.lemmas.List.Sums.{sum_by_push}
use Rattle.std.specs.Option.{option_map}
use Rattle.dns_model.specs.Counts.{RoseBy, one_more}
use Rattle.dns_model.specs.declared.proof.Proof.TheVariants.{Bogus}
use Rattle.dns_model.specs.declared.trail.AskRef.{AskRef}
use Rattle.dns_model.specs.declared.trail.AskRef.TheVariants.{Step}
use Rattle.dns_model.specs.declared.trail.MarkOrigin.{MarkOrigin}
use Rattle.dns_model.specs.declared.trail.MarkOrigin.TheVariants.{Table, Repeat, Cache}
use Rattle.dns_model.specs.Records.{Rr, Question, MessageValue}
use Rattle.dns_model.specs.Chains.{Judge}
use Rattle.dns_model.specs.SoundAnswers.{PlacedSet, told_by}
use Rattle.dns_model.specs.Trails.{AskedValue, JudgedSetValue, Answered, Denied}
use Rattle.dns_model.specs.Trails as trails
use Rattle.dns_rules.specs.CacheEntries.{EntryValue}
use Rattle.dns_rules.specs.ChainedSets.{ChainedSet}
use Rattle.dns_rules.specs.Derivation.{probe_of}
use Rattle.dns_rules.specs.Probes as probes
use Rattle.dns_rules.specs.Outcome.{Outcome, Given, NeedsZone, foreign_record}
use Rattle.dns_rules.specs.Outcome as outcome
use Rattle.dns_cache.specs.Caches.{hits_after}
use Rattle.dns_cache.specs.declared.acceptance.Acceptance.{Acceptance}
use Rattle.dns_handle.specs.Errors.{Reply, ErrorValue, Dns, Nsec}
use Rattle.dns_flow.specs.declared.asks.Ask.{Ask}
use Rattle.dns_flow.specs.Leads.{entry_of}
use Rattle.dns_flow.specs.Phases.{NeedValue, SetEnds, StepEnds, Asks, GotValue, Answer, Probe, turn}
use Rattle.dns_validation.specs.Received.{ReceivedValue, Message, Failed, received_value, received_message}
use Rattle.dns_validation.specs.Steps.{Findings, judged_step, plain_step, foreign_ending, answer_by, top_of}
use Rattle.dns_validation.specs.Machine.{Terms, SoFar, OpenValue, SeekingValue, StateValue, begin, limit_of, findings, first_left, next_in, with_set, step_of, step_ended, give, with_step, refusal, asked_by, turned, turn_in, depth_below, heard_own, heard_nested, heard_by, no_more_waiting, heard_in, heard, serving, served_set, served_entry, origin_of, found_by_entry, found_in, found, begun}
use Rattle.dns_validation.specs.Runs.{Turns, Here, Onward, HasHeard, HasTaken}
use Rattle.dns_lookup.specs.Caching.{served_sets, was_kept}
use Rattle.dns_lookup.specs.Driving.{kept_all, from_cache, open_served, sought_served, reply_served, ended_served, served_in}
use Rattle.dns_lookup.proofs.ComesLemmas.{silent}
use Rattle.dns_lookup.proofs.WorkLemmas.{unsought}

-- ---- counts

pub rose_fewer : (n m a b : ℕ) → m ≤ n → RoseBy n a b → RoseBy m a b
rose_fewer n m a b less rose = omega (arith, less, rose)

pub rose_none : (a : ℕ) → RoseBy 0 a a
rose_none a = omega arith

pub rose_more : (n m a b c : ℕ) → m ≤ n + 1 → RoseBy n a b → c ≡ one_more b → RoseBy m a c
rose_more n m a b c less rose is = omega (arith, less, rose, is)

abbrev of_cache : JudgedSetValue → ℕ
of_cache set = cond (was_kept set.origin) 1 0

pushed_entry : (sets : List JudgedSetValue) (set : JudgedSetValue)
    → from_cache (sets ++ set ∷ []) ≡ from_cache sets + of_cache set
pushed_entry sets set =
    let here = sum_by_push of_cache sets set in
    omega (arith, here)

pushed_step : (steps : List AskedValue) (step : AskedValue)
    → served_sets (steps ++ step ∷ []) ≡ served_sets steps + from_cache step.sets
pushed_step steps step =
    let count : AskedValue → ℕ = λ s. from_cache s.sets in
    let here = sum_by_push count steps step in
    omega (arith, here)

table_none : (sets : List JudgedSetValue) (c : ChainedSet) (asked : List AskRef)
    → from_cache (sets ++ entry_of c.judged asked ∷ []) ≡ from_cache sets
table_none sets c asked = let here = pushed_entry sets (entry_of c.judged asked) in omega (arith, here)

-- ---- the answer

answer_served : (now : ℕ) (q : Question) (found : Findings) (o : Outcome)
    → reply_served (answer_by now q found o) ≡ served_sets found.steps + from_cache found.entries
unfolding reply_served
answer_served now q found (Given d) =
    pushed_step found.steps (top_of q (told_by found.message) found.empty found.entries (Answered d) found.excuse)
answer_served now q found NeedsZone =
    pushed_step found.steps (top_of q (told_by found.message) found.empty found.entries (Denied Bogus) found.excuse)
answer_served now q found (outcome.Denied p) =
    pushed_step found.steps (top_of q (told_by found.message) found.empty found.entries (Denied p) found.excuse)

-- ---- one turn

next_served : (t : Terms) (so_far : SoFar) (o : Option PlacedSet) (s : StateValue) → s.seeking ≡ None
    → served_in
    (next_in t so_far o s) ≡ served_sets s.closed + (from_cache so_far.entries + open_served s.steps) + ended_served
    s.ended
unfolding served_in open_served sought_served
next_served t so_far None s none = let sought = ap sought_served none in omega (arith, sought)
next_served t so_far (Some placed) s none = omega arith

give_served : (j : Judge) (ask : AskRef) (got : GotValue) (steps : List OpenValue)
    → open_served (give j ask got steps) ≡ open_served steps
unfolding open_served
give_served j ask got [] = refl
give_served j ask got (f ∷ outer) = refl

step_served : (t : Terms) (so_far : SoFar) (asked : List AskRef) (o : Outcome) (s : StateValue) (steps : List OpenValue)
    → s.seeking ≡ None
    → served_in (step_ended t so_far asked o (record s { steps = steps }))
    ≤ served_sets s.closed + (from_cache so_far.entries + open_served steps) + ended_served s.ended
unfolding served_in open_served sought_served ended_served
step_served t so_far asked o s [] none =
    let sought = ap sought_served none in
    let answer = answer_served t.now so_far.query (findings s.closed so_far asked o) o in
    omega (arith, sought, answer)
step_served t so_far asked o s (g ∷ outer) none =
    let sought = ap sought_served none in
    let push = pushed_step s.closed (step_of so_far asked o) in
    omega (arith, sought, push)

ask_served : (j : Judge) (o : Option AskRef) (ask : Ask) (f : OpenValue) (s : StateValue) → s.seeking ≡ None
    → served_in
    (asked_by j o ask f s) ≤ served_sets s.closed + (from_cache f.so_far.entries + open_served s.steps)
    + ended_served s.ended
unfolding served_in open_served sought_served
ask_served j None ask f s none = let sought = ap sought_served none in omega (arith, sought)
ask_served j (Some r) ask f s none = let sought = ap sought_served none in omega (arith, sought)

need_served : (t : Terms) (f : OpenValue) (s : StateValue) (outer : List OpenValue) (need : NeedValue)
    → s.seeking ≡ None
    → served_in (turned t f (record s { steps = outer }) need)
    ≤ served_sets s.closed + (from_cache f.so_far.entries + open_served outer) + ended_served s.ended
need_served t f s outer (SetEnds c) none =
    let so_far = with_set f.so_far c (entry_of c.judged f.asked) f.cause in
    let here = next_served t so_far (first_left so_far.left) (record s { steps = outer }) none in
    let same = table_none f.so_far.entries c f.asked in
    omega (arith, here, same)
need_served t f s outer (StepEnds o) none = step_served t f.so_far f.asked o s outer none
need_served t f s outer (Asks ask) none =
    ask_served t.judge (refusal (limit_of t) s.sends f.so_far.depth ask.judged) ask f (record s { steps = outer }) none

of_state : (s : StateValue) (f : OpenValue) (outer : List OpenValue) → s.steps ≡ f ∷ outer
    → served_sets s.closed + (from_cache f.so_far.entries + open_served outer) + ended_served s.ended ≤ served_in s
unfolding served_in open_served sought_served
of_state s f outer is = let steps = ap open_served is in omega (arith, steps)

turn_served : (t : Terms) (s : StateValue) (steps : List OpenValue) → s.steps ≡ steps → s.seeking ≡ None
    → served_in (turn_in t s steps) ≤ served_in s
turn_served t s [] is none = omega arith
turn_served t s (f ∷ outer) is none =
    let here = need_served t f s outer (turn f.phase) none in
    let there = of_state s f outer is in
    omega (arith, here, there)

turns_served : (t : Terms) (s u : StateValue) → Turns t s u → served_in u ≤ served_in s
turns_served t _ _ (Here s u is) = let same = ap served_in is in omega (arith, same)
turns_served t _ _ (Onward s m u turns on is) =
    let same = ap served_in is in
    let one = turn_served t m m.steps refl (unsought m on) in
    let rest = turns_served t s m turns in
    omega (arith, same, one, rest)

-- ---- one reply

own_served : (t : Terms) (s : StateValue) (q : Question) (m : MessageValue) (empty : Bool) (o : Option Rr)
    → s.seeking ≡ None → s.ended ≡ None
    → served_in (heard_own t s q m empty o) ≤ served_in s
unfolding served_in open_served sought_served ended_served reply_served
own_served t s q m empty None none still =
    let here = next_served t (begun q 0 m empty) (first_left (begun q 0 m empty).left) s none in
    omega (arith, here)
own_served t s q m empty (Some r) none still = omega arith

step_heard : (t : Terms) (s : StateValue) (step : AskedValue) (got : GotValue) → step.sets ≡ []
    → served_in (with_step t.judge step got s) ≤ served_in s
unfolding served_in
step_heard t s step got none =
    let push = pushed_step s.closed step in
    let sets = ap from_cache none in
    let same = give_served t.judge (Step (length s.closed)) got s.steps in
    omega (arith, push, sets, same)

nested_served : (t : Terms) (s : StateValue) (q : Question) (depth : ℕ) (m : MessageValue) (empty : Bool)
    (o : Option Rr) → s.seeking ≡ None
    → served_in (heard_nested t s q depth m empty o) ≤ served_in s
unfolding served_in
nested_served t s q depth m empty None none =
    let here = next_served t (begun q depth m empty) (first_left (begun q depth m empty).left) s none in
    omega (arith, here)
nested_served t s q depth m empty (Some r) none =
    step_heard t s (judged_step depth q (trails.Records (told_by m) empty) [] (foreign_ending r) []) (Answer None) refl

error_none : (error : ErrorValue) → received_message (Err error) ≡ None → reply_served (Err error) ≡ 0
unfolding reply_served
error_none (Dns (Nsec asked response proof)) silent = cc
error_none error silent = refl

failed_served : (s : StateValue) (error : ErrorValue) → received_message (Err error) ≡ None
    → served_in (record s { ended = Some (Err error) }) ≤ served_in s
unfolding served_in ended_served
failed_served s error silent = let none = error_none error silent in omega (arith, none)

reply_by : (t : Terms) (s : StateValue) (q : Question) (judged : Bool) (o : Option ℕ) (reply : Reply)
    (received : ReceivedValue) → received_value reply ≡ received
    → s.seeking ≡ None → s.ended ≡ None → served_in (heard_by t s q judged o received) ≤ served_in s
reply_by t s q true None reply (Failed error) is none still = failed_served s error ((silent reply error is).none)
reply_by t s q true None reply (Message m empty) is none still =
    own_served t s q m empty (foreign_record q (told_by m)) none still
reply_by t s q true (Some depth) reply (Failed error) is none still =
    step_heard t s (judged_step (depth + 1) q trails.Fault [] trails.Failed []) (Answer None) refl
reply_by t s q true (Some depth) reply (Message m empty) is none still =
    nested_served t s q (depth + 1) m empty (foreign_record q (told_by m)) none
reply_by t s q false None reply received is none still = omega arith
reply_by t s q false (Some depth) reply (Failed error) is none still =
    step_heard t s (plain_step depth q trails.Fault trails.Failed) (Probe probes.Failed) refl
reply_by t s q false (Some depth) reply (Message m empty) is none still =
    step_heard t s (plain_step depth q (trails.Records (told_by m) empty) trails.Seen)
    (Probe (probe_of q.owner (trails.Records (told_by m) empty))) refl

waiting_none : (s : StateValue) → served_in (no_more_waiting s) ≡ served_in s
unfolding served_in
waiting_none s = refl

waits_same : (t : Terms) (s : StateValue) (ask : Ask) (received : ReceivedValue)
    → served_in (heard_by t (no_more_waiting s) ask.query ask.judged (depth_below s.steps) received) ≤ served_in
    (no_more_waiting s)
    → served_in (heard_by t (no_more_waiting s) ask.query ask.judged (depth_below s.steps) received) ≤ served_in s
waits_same t s ask received h = let same = waiting_none s in omega (arith, h, same)

waiting_served : (t : Terms) (s : StateValue) (o : Option Ask) (reply : Reply) → s.seeking ≡ None → s.ended ≡ None
    → served_in (heard_in t s (received_value reply) o) ≤ served_in s
waiting_served t s None reply none still = omega arith
waiting_served t s (Some ask) reply none still =
    waits_same t s ask (received_value reply)
    (reply_by t (no_more_waiting s) ask.query ask.judged (depth_below s.steps) reply
    (received_value reply) refl none still)

-- a reply serves none
pub heard_served : (t : Terms) (s u : StateValue) (reply : Reply) → s.seeking ≡ None → s.ended ≡ None
    → HasHeard t s reply u → served_in u ≤ served_in s
heard_served t s u reply none still h =
    let rest = turns_served t (heard t s reply) u h.turns in
    let one = waiting_served t s s.pending reply none still in
    omega (arith, rest, one)

-- ---- what was kept

-- one, where there is an entry
pub given_one : Option (EntryValue × Acceptance) → ℕ
given_one None = 0
given_one (Some p) = 1

served_once : (o : MarkOrigin) → cond (was_kept o) 1 0 ≤ 1
served_once Table = omega arith
served_once (Repeat n) = omega arith
served_once Cache = omega arith

rules_served : (t : Terms) (k : SeekingValue) (s : StateValue) → s.seeking ≡ None
    → served_in
    (found_by_entry t k None s) ≤ served_sets s.closed + (from_cache k.so_far.entries + open_served s.steps)
    + ended_served s.ended
unfolding served_in open_served sought_served
rules_served t k s none = let sought = ap sought_served none in omega (arith, sought)

entry_served : (t : Terms) (k : SeekingValue) (o : Option EntryValue) (s : StateValue) → s.seeking ≡ None → (n : ℕ)
    → (o ≡ None → 0 ≤ n) → ((e : EntryValue) → o ≡ Some e → 1 ≤ n)
    → served_in
    (found_by_entry t k o s) ≤ served_sets s.closed + (from_cache k.so_far.entries + open_served s.steps)
    + ended_served s.ended + n
entry_served t k None s none n least one = let here = rules_served t k s none in omega (arith, here)
entry_served t k (Some e) s none n least one =
    let set = served_set k.placed e in
    let origin = origin_of s.made e in
    let so_far = with_set k.so_far set (served_entry origin set) None in
    let here = next_served t so_far (first_left so_far.left) s none in
    let push = pushed_entry k.so_far.entries (served_entry origin set) in
    let once = served_once origin in
    let some = one e refl in
    omega (arith, here, push, once, some)

serving_one : (t : Terms) (k : SeekingValue) (given : Option (EntryValue × Acceptance)) (e : EntryValue)
    → serving t.judge k.so_far.query k.placed given ≡ Some e → 1 ≤ given_one given
unfolding given_one
serving_one t k None e is = cc
serving_one t k (Some p) e is = omega arith

sought_is : (s : StateValue) (k : SeekingValue) → s.seeking ≡ Some k
    → served_sets s.closed + (from_cache k.so_far.entries + open_served s.steps) + ended_served s.ended ≤ served_in s
unfolding served_in sought_served
sought_is s k is = let sought = ap sought_served is in omega (arith, sought)

found_served : (t : Terms) (given : Option (EntryValue × Acceptance)) (o : Option SeekingValue) (s : StateValue)
    → s.seeking ≡ o
    → served_in (found_in t given o s) ≤ served_in s + given_one given
found_served t given None s is = omega arith
found_served t given (Some k) s is =
    let here =
    entry_served t k (serving t.judge k.so_far.query k.placed given) (record s { seeking = None }) refl (given_one given)
    (λ none. omega arith)
    (λ e some. serving_one t k given e some) in
    let there = sought_is s k is in
    omega (arith, here, there)

-- one more at the most, where it was given one
pub taken_served : (t : Terms) (s u : StateValue) (given : Option (EntryValue × Acceptance)) → HasTaken t s given u
    → served_in u ≤ served_in s + given_one given
taken_served t s u given h =
    let rest = turns_served t (found t given s) u h.turns in
    let one = found_served t given s.seeking s refl in
    omega (arith, rest, one)

-- and a hit is counted where an entry is given
pub rose_given : (n m first now after : ℕ) (given : Option (EntryValue × Acceptance)) → m ≤ n + given_one given
    → RoseBy n first now
    → after ≡ hits_after now (let r : Result (Option EntryValue) ℕ = Ok (option_map (λ p. p.0) given) in r)
    → RoseBy m first after
unfolding given_one
rose_given n m first now after None less rose is =
    let h = rose_fewer n m first now (omega (arith, less)) rose in omega (arith, h, is)
rose_given n m first now after (Some p) less rose is = rose_more n m first now after less rose is

-- what is kept serves none
pub kept_served : (s : StateValue) → served_in (kept_all s) ≡ served_in s
unfolding served_in
kept_served s = refl

pub begun_served : (q : Question) → served_in (begin q) ≡ 0
unfolding served_in sought_served open_served ended_served
begun_served q = refl

-- at the end the sets of the trail
pub end_served : (s : StateValue) (reply : Reply) → s.ended ≡ Some reply → reply_served reply ≤ served_in s
unfolding served_in ended_served
end_served s reply is = let ended = ap ended_served is in omega (arith, ended)
