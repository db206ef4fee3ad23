-- How many turns an open step has left, where its asks are refused: each turn leaves fewer.
use Rattle.std.proofs.Common.{ℕ, suc, zero, ◌+◌, ◌-◌, ◌*◌, ◌≡◌, ◌≤◌, ◌<◌, Bool, true, false, not, ◌&&◌, List, [], ◌∷◌, ◌++◌, length, take, drop, Option, None, Some, slice_get, if◌then◌else◌, refl, sym, ap, subst, arith}
use Rattle.std.specs.Option.{option_and_then}
use Rattle.std.proofs.lemmas.List.{length_push}
use Rattle.dns_model.specs.declared.trail.AskRef.{AskRef}
use Rattle.dns_model.specs.declared.trail.AskRef.TheVariants.{Step}
use Rattle.dns_model.specs.declared.proof.Proof.{Proof}
use Rattle.dns_model.specs.Names.{Labels}
use Rattle.dns_model.specs.Records.{Rr, Question}
use Rattle.dns_model.specs.Chains.{Judge}
use Rattle.dns_model.specs.SoundAnswers.{Told, PlacedSet, told_by}
use Rattle.dns_model.specs.Trails.{AskedValue, JudgedSetValue}
use Rattle.dns_rules.specs.Asking.{Limits, ask_of}
use Rattle.dns_rules.specs.CacheEntries.{EntryValue}
use Rattle.dns_rules.specs.ChainedSets.{ChainedSet, ChainedVerdict, bare, chained_verdict}
use Rattle.dns_rules.specs.MarkedSets.{MarkedSet}
use Rattle.dns_rules.specs.Marks.{is_proved, is_skipped}
use Rattle.dns_rules.specs.ProofErrors.{ProofErrorKindValue}
use Rattle.dns_rules.specs.Outcome.{Outcome, Given, NeedsZone, Denied, outcome_of}
use Rattle.dns_rules.specs.Unsigned.{question_start}
use Rattle.dns_handle.specs.Errors.{Reply}
use Rattle.dns_flow.specs.declared.asks.Ask.{Ask}
use Rattle.dns_flow.specs.declared.phases.Seeker.{Seeker}
use Rattle.dns_flow.specs.declared.phases.Seeker.TheVariants.{Set, Ending}
use Rattle.dns_flow.specs.Leads.{entry_of}
use Rattle.dns_flow.specs.Phases.{PhaseValue, Marked, NeedsDs, Trying, AtName, AtZone, Concluded, NeedValue, SetEnds, StepEnds, Asks, GotValue, Answer, found, search_at, first_signatures, unasked, try_from, after_signature, signature_need, start_by, start_ending, turn, after}
use Rattle.dns_validation.specs.Machine.{Terms, OpenValue, SeekingValue, MadeValue, StateValue, limit_of, limits_of, first_left, next_in, with_set, answered, give, none_open, step_ended, nothing_got, refusal, asked_by, turned, tick}
use Rattle.dns_validation.specs.Steps.{given_sets}
use Rattle.dns_validation.specs.Runs.{is_none, moves}

-- ---- a phase

seeker_work : Seeker → ℕ
seeker_work (Set placed) = 3
seeker_work Ending = 1

pub phase_work : PhaseValue → ℕ
phase_work (Marked c) = 3
phase_work (NeedsDs placed) = 4
phase_work (Trying placed vs) = 4 + (length (first_signatures placed.set) - length vs)
phase_work (AtName seeker class name) = 1 + seeker_work seeker
phase_work (AtZone seeker class zone) = 1 + seeker_work seeker
phase_work (Concluded o) = 1

take_short : {X : Type 0} (n : ℕ) (xs : List X) → length (take n xs) ≤ n
take_short zero xs = omega arith
take_short (suc n) [] = omega arith
take_short (suc n) (x ∷ xs) = let h = take_short n xs in omega arith

little_seeker : (seeker : Seeker) → 1 + seeker_work seeker ≤ 12
unfolding seeker_work
little_seeker (Set placed) = omega arith
little_seeker Ending = omega arith

little : (p : PhaseValue) → phase_work p ≤ 12
unfolding phase_work
little (Marked c) = omega arith
little (NeedsDs placed) = omega arith
little (Trying placed vs) = let short = take_short 8 placed.set.signatures in omega arith
little (AtName seeker class name) = little_seeker seeker
little (AtZone seeker class zone) = little_seeker seeker
little (Concluded o) = omega arith

found_work : (q : Question) (told : Told) (seeker : Seeker) (mark : Proof)
    → phase_work (found q told seeker mark) < 1 + seeker_work seeker
unfolding phase_work seeker_work
found_work q told (Set placed) mark = omega arith
found_work q told Ending mark = omega arith

-- ---- the ending is the last item

search_work : (q : Question) (told : Told) (class : ℕ) (name : Labels)
    → phase_work (search_at q told Ending class name) ≤ 2
unfolding phase_work seeker_work
search_work q told class [] = omega arith
search_work q told class (label ∷ name) = omega arith

start_work : (q : Question) (told : Told) (o : Outcome) → phase_work (start_by q told o) ≤ 2
unfolding phase_work
start_work q told (Given denial) = omega arith
start_work q told NeedsZone = search_work q told q.class (question_start q)
start_work q told (Denied p) = omega arith

ending_work : (limits : Limits) (q : Question) (told : Told) (sets : List MarkedSet)
    → phase_work (start_ending limits q told sets) ≤ 2
unfolding start_ending
ending_work limits q told sets = start_work q told (outcome_of limits q told sets)

set_work : (p : PhaseValue) (c : ChainedSet) → turn p ≡ SetEnds c → 2 < phase_work p
unfolding turn phase_work
set_work (Marked d) c ends = omega arith
set_work (NeedsDs placed) c ends = cc
set_work (Trying placed vs) c ends = omega arith
set_work (AtName seeker class name) c ends = cc
set_work (AtZone seeker class zone) c ends = cc
set_work (Concluded o) c ends = cc

-- ---- a refused ask

try_work : (q : Question) (placed : PlacedSet) (vs : List ChainedVerdict) (rs : List Rr)
    → phase_work (try_from q placed vs rs) ≤ 4 + (length (first_signatures placed.set) - length vs)
unfolding try_from phase_work
try_work q placed vs [] = omega arith
try_work q placed vs (r ∷ rs) =
    either q placed vs rs (is_skipped q placed.set r) (try_work q placed (vs ++ unasked ∷ []) rs)
  where
    either : (q : Question) (placed : PlacedSet) (vs : List ChainedVerdict) (rs : List Rr) (b : Bool)
        → phase_work
        (try_from q placed (vs ++ unasked ∷ []) rs) ≤ 4
        + (length (first_signatures placed.set) - length (vs ++ unasked ∷ []))
        → phase_work
        (if b then try_from q placed (vs ++ unasked ∷ []) rs else Trying placed vs) ≤ 4
        + (length (first_signatures placed.set) - length vs)
    either q placed vs rs true h = let one = length_push vs unasked in omega arith
    either q placed vs rs false h = omega arith

verdict_work : (q : Question) (placed : PlacedSet) (vs : List ChainedVerdict) (v : ChainedVerdict) (b : Bool)
    (p : PhaseValue)
    → phase_work p ≤ 4 + (length (first_signatures placed.set) - length (vs ++ v ∷ []))
    → length vs < length (first_signatures placed.set)
    → (c : ChainedSet) → phase_work (if b then Marked c else p) < 4 + (length (first_signatures placed.set) - length vs)
unfolding phase_work
verdict_work q placed vs v true p h within c = omega arith
verdict_work q placed vs v false p h within c = let one = length_push vs v in omega arith

slice_get_within : {X : Type 0} (xs : List X) (n : ℕ) (x : X) → slice_get xs n ≡ Some x → n < length xs
slice_get_within [] n x h = cc
slice_get_within (y ∷ xs) zero x h = omega arith
slice_get_within (y ∷ xs) (suc n) x h = let k = slice_get_within xs n x h in omega arith

signature_work : (j : Judge) (q : Question) (placed : PlacedSet) (vs : List ChainedVerdict)
    (answer : Option (List ChainedSet)) (o : Option Rr) (ask : Ask)
    → slice_get (first_signatures placed.set) (length vs) ≡ o
    → signature_need placed vs (option_and_then (ask_of placed.set) o) ≡ Asks ask
    → phase_work (after_signature j q placed vs answer o) < 4 + (length (first_signatures placed.set) - length vs)
signature_work j q placed vs answer None ask is asks = cc
signature_work j q placed vs answer (Some r) ask is asks =
    let v = chained_verdict j placed.set r answer in
    verdict_work q placed vs v (is_proved v.verdict)
    (try_from q placed (vs ++ v ∷ []) (drop (length vs + 1) (first_signatures placed.set)))
    (try_work q placed (vs ++ v ∷ []) (drop (length vs + 1) (first_signatures placed.set)))
    (slice_get_within (first_signatures placed.set) (length vs) r is) _

judged_is : (ask : Ask) (b : Bool) (q : Question) → (let a : Ask = record { query = q; judged = b } in a) ≡ ask
    → nothing_got ask.judged ≡ nothing_got b
judged_is ask b q is = ap (λ (a : Ask). nothing_got a.judged) (sym is)

asks_same : (a b : Ask) → Asks a ≡ Asks b → a ≡ b
asks_same a b h = cc

pub refused_work : (j : Judge) (q : Question) (told : Told) (p : PhaseValue) (ask : Ask) → turn p ≡ Asks ask
    → phase_work (after j q told p (nothing_got ask.judged)) < phase_work p
unfolding turn after phase_work
refused_work j q told (Marked c) ask asks = cc
refused_work j q told (NeedsDs placed) ask asks = omega arith
refused_work j q told (Trying placed vs) ask asks =
    signature_work j q placed vs _ (slice_get (first_signatures placed.set) (length vs)) ask refl asks
refused_work j q told (AtName seeker class name) ask asks =
    let no = judged_is ask false _ (asks_same _ ask asks) in
    subst (λ got. phase_work (after j q told (AtName seeker class name) got) < 1 + seeker_work seeker) (sym no)
    (found_work q told seeker _)
refused_work j q told (AtZone seeker class zone) ask asks = found_work q told seeker _
refused_work j q told (Concluded o) ask asks = cc

-- ---- an open step

pub step_work : OpenValue → ℕ
step_work f = 13 * (length f.so_far.left + 1) + phase_work f.phase

pub steps_work : List OpenValue → ℕ
steps_work [] = 0
steps_work (f ∷ outer) = step_work f + steps_work outer

pub work : StateValue → ℕ
work s = steps_work s.steps + (if is_none s.pending then 1 else 0)

answered_more : (j : Judge) (made : AskRef) (got : GotValue) (f : OpenValue)
    → step_work (answered j made got f) ≤ step_work f + 12
unfolding step_work
answered_more j made got f = let a = little (answered j made got f).phase in omega arith

given_more : (j : Judge) (made : AskRef) (got : GotValue) (steps : List OpenValue)
    → steps_work (give j made got steps) ≤ steps_work steps + 12
unfolding steps_work
given_more j made got [] = omega arith
given_more j made got (f ∷ outer) = let a = answered_more j made got f in omega arith

some_work : (f : OpenValue) → 13 ≤ step_work f
unfolding step_work
some_work f = omega arith

refused_less : (j : Judge) (made : AskRef) (ask : Ask) (f : OpenValue) → turn f.phase ≡ Asks ask
    → step_work (answered j made (nothing_got ask.judged) f) < step_work f
unfolding step_work
refused_less j made ask f asks =
    let a = refused_work j f.so_far.query (told_by f.so_far.message) f.phase ask asks in omega arith

-- ---- a turn

abbrev resting : List AskedValue → List OpenValue → ℕ → List MadeValue → List EntryValue → Option Reply → StateValue
resting closed steps n made kept ended = record {
  closed = closed;
  steps = steps;
  seeking = None;
  pending = None;
  sends = n;
  made = made;
  kept = kept;
  ended = ended;
}

module _ (t : Terms) (f : OpenValue) (outer : List OpenValue) (closed : List AskedValue) (n : ℕ) (made : List MadeValue)
    (kept : List EntryValue) (e : Option Reply) (c : ChainedSet) (entry : JudgedSetValue)
    (cause : Option ProofErrorKindValue) where
  -- a set ends: the next one waits, or the ending begins, which has less to do than a set
  next_less : (left : List PlacedSet) → turn f.phase ≡ SetEnds c
      → work (next_in t (with_set f.so_far c entry cause) (first_left left) (resting closed outer n made kept e))
      < work (resting closed (f ∷ outer) n made kept e)
  unfolding work steps_work step_work
  next_less [] ends =
      let a = ending_work (limits_of t) f.so_far.query (told_by f.so_far.message) (bare (f.so_far.sets ++ c ∷ [])) in
      let b = set_work f.phase c ends in omega arith
  next_less (placed ∷ left) ends = omega arith

ended_less : (t : Terms) (f : OpenValue) (outer : List OpenValue) (closed : List AskedValue) (n : ℕ)
    (made : List MadeValue) (kept : List EntryValue)
    (e : Option Reply) (o : Outcome)
    → work (step_ended t f.so_far f.asked o (resting closed outer n made kept e)) < work
    (resting closed (f ∷ outer) n made kept e)
unfolding work steps_work
ended_less t f [] closed n made kept e o = let a = some_work f in omega arith
ended_less t f (g ∷ outer) closed n made kept e o =
    let a = some_work f in
    let b = answered_more t.judge (Step (length closed)) (Answer (given_sets o f.so_far.sets)) g in omega arith

module _ (t : Terms) (f : OpenValue) (outer : List OpenValue) (closed : List AskedValue) (n : ℕ) (made : List MadeValue)
    (kept : List EntryValue) (e : Option Reply) where
  asked_less : (o : Option AskRef) (ask : Ask) → turn f.phase ≡ Asks ask
      → work (asked_by t.judge o ask f (resting closed outer n made kept e)) < work
      (resting closed (f ∷ outer) n made kept e)
  unfolding work steps_work
  asked_less None ask asks = omega arith
  asked_less (Some r) ask asks = let a = refused_less t.judge r ask f asks in omega arith

need_less : (t : Terms) (f : OpenValue) (outer : List OpenValue) (closed : List AskedValue) (n : ℕ)
    (made : List MadeValue) (kept : List EntryValue)
    (e : Option Reply) (need : NeedValue) → turn f.phase ≡ need
    → work (turned t f (resting closed outer n made kept e) need) < work (resting closed (f ∷ outer) n made kept e)
need_less t f outer closed n made kept e (SetEnds c) is =
    next_less t f outer closed n made kept e c (entry_of c.judged f.asked) f.cause f.so_far.left is
need_less t f outer closed n made kept e (StepEnds o) is = ended_less t f outer closed n made kept e o
need_less t f outer closed n made kept e (Asks ask) is =
    asked_less t f outer closed n made kept e (refusal (limit_of t) n f.so_far.depth ask.judged) ask is

module _ (t : Terms) where
  turn_less : (pending : Option Ask) (seeking : Option SeekingValue) (steps : List OpenValue)
      (closed : List AskedValue) (n : ℕ)
      (made : List MadeValue) (kept : List EntryValue) (e : Option Reply)
      → (is_none pending && (is_none seeking && not (none_open steps))) ≡ true
      → (let s : StateValue =
      record {
        closed =
            closed;
        steps = steps;
        seeking = seeking;
        pending = pending;
        sends = n;
        made = made;
        kept = kept;
        ended = e;
      } in
      work (tick t s) < work s)
  turn_less None None [] closed n made kept e on = cc
  turn_less None None (f ∷ outer) closed n made kept e on = need_less t f outer closed n made kept e (turn f.phase) refl
  turn_less None (Some k) steps closed n made kept e on = cc
  turn_less (Some ask) seeking steps closed n made kept e on = cc

pub less_tick : (t : Terms) (s : StateValue) → moves s ≡ true → work (tick t s) < work s
less_tick t s on = turn_less t s.pending s.seeking s.steps s.closed s.sends s.made s.kept s.ended on
