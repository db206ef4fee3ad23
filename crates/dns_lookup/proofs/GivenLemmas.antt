-- What a lookup puts into its cache: what each step found of its sets, in the order of the trail.
use Rattle.std.proofs.Common.{ℕ, ◌+◌, ◌≡◌, Bool, true, false, not, ◌&&◌, List, [], ◌∷◌, ◌++◌, map, Option, None, Some, Ok, Err, append_assoc, append-nil, refl, sym, ap, subst, ◌∙◌}
use Rattle.std.specs.List.{filter, flat_map, zip}
use Rattle.std.specs.Option.{option_map, option_map_or}
use Rattle.std.proofs.lemmas.List.Concat.{flat_map-append}
use Rattle.dns_model.specs.declared.proof.Proof.TheVariants.{Bogus}
use Rattle.dns_model.specs.declared.trail.AskRef.{AskRef}
use Rattle.dns_model.specs.Records.{Rr, Question, MessageValue}
use Rattle.dns_model.specs.Chains.{Judge}
use Rattle.dns_model.specs.SoundAnswers.{PlacedSet, Told, told_by}
use Rattle.dns_model.specs.Trails.{AskedValue, JudgedSetValue, EndingValue, Answered, Denied}
use Rattle.dns_model.specs.Trails as trails
use Rattle.dns_rules.specs.Asking.{judged_part}
use Rattle.dns_rules.specs.CacheEntries.{EntryValue}
use Rattle.dns_rules.specs.CacheKeys.{CacheKeyValue}
use Rattle.dns_rules.specs.Derivation.{probe_of, told_in}
use Rattle.dns_rules.specs.Outcome.{Outcome, Given, NeedsZone, foreign_record}
use Rattle.dns_rules.specs.Outcome as outcome
use Rattle.dns_rules.specs.Probes as probes
use Rattle.dns_cache.specs.CacheLists.{CacheList, after_get, after_insert}
use Rattle.dns_cache.specs.declared.acceptance.Acceptance.{Acceptance}
use Rattle.dns_handle.specs.Errors as seen
use Rattle.dns_handle.specs.Errors.{Reply, Dns, Nsec}
use Rattle.dns_flow.specs.declared.asks.Ask.{Ask}
use Rattle.dns_flow.specs.Leads.{entry_of}
use Rattle.dns_flow.specs.Phases.{NeedValue, SetEnds, StepEnds, Asks, GotValue, Answer, Probe, turn}
use Rattle.dns_validation.specs.KeptSets.{AreOfSets, FoundSet, found_in_step, found_of_told, found_set, found_sets}
use Rattle.dns_validation.specs.LastKept.{is_found}
use Rattle.dns_validation.specs.Received.{ReceivedValue, Message, Failed, received_value}
use Rattle.dns_validation.specs.Steps.{Findings, answer_by, foreign_ending, given_sets, judged_answer, judged_step, plain_step, top_of, trail_of}
use Rattle.dns_validation.specs.Machine.{Terms, SoFar, MadeValue, OpenValue, SeekingValue, StateValue, asked_by, begin, begun, depth_below, entries_left, findings, first_left, found, found_by_entry, found_in, heard, heard_by, heard_in, heard_nested, heard_own, keeping, limit_of, next_in, no_more_waiting, none_open, origin_of, refusal, served_entry, served_set, set_ended, serving, step_ended, step_of, tick, turned, with_set, with_step}
use Rattle.dns_validation.specs.Runs.{Sent, sent_now, Run, Turns, Here, Onward, HasHeard, HasTaken, is_none, moves}
use Rattle.dns_validation.proofs.FoundLemmas.{no_truth}
use Rattle.dns_validation.proofs.LeftSets.{of_append, step_leaves}
use Rattle.dns_validation.proofs.RunLemmas.{run_stands, run_turns}
use Rattle.dns_validation.proofs.Stands.{Open, Ground, Above, Stand, Waits, Seeks, Moves, Done, at_rest}
use Rattle.dns_lookup.specs.Answering.{call_by}
use Rattle.dns_lookup.specs.Caching.{PutIn, Rests, Gets, Puts, PutsAll, PutsEach}
use Rattle.dns_lookup.specs.Driving.{CacheState, GaveOf, HasGiven, PutsTold, after_inserts, kept_all, use_between}
use Rattle.dns_lookup.specs.LookupAnswers.{OfAnswer}
use Rattle.dns_lookup.proofs.ComesLemmas.{silent}
use Rattle.dns_lookup.proofs.LookupAnswerLemmas.{silent_error}

-- ---- steps

-- one step more
found_more : (trail closed : List AskedValue) (step : AskedValue)
    → found_sets trail (closed ++ step ∷ []) ≡ found_sets trail closed ++ found_in_step trail step
found_more trail closed step =
    flat_map-append (found_in_step trail) closed (step ∷ [])
    ∙ ap (λ xs. found_sets trail closed ++ xs) (append-nil (found_in_step trail step))

none_paired : (ps : List PlacedSet) (sets : List JudgedSetValue) → sets ≡ [] → zip ps sets ≡ []
none_paired [] sets is = refl
none_paired (p ∷ ps) [] is = refl
none_paired (p ∷ ps) (s ∷ sets) is = cc

bare_told : (trail : List AskedValue) (step : AskedValue) (o : Option Told) → step.sets ≡ []
    → option_map_or (found_of_told trail step) o [] ≡ []
bare_told trail step None is = refl
bare_told trail step (Some told) is =
    ap (λ xs. map (found_set step.query) (filter (λ (p : PlacedSet × JudgedSetValue). is_found trail p.1) xs))
    (none_paired (judged_part step.depth told) step.sets is)

-- a step without sets finds nothing
bare_found : (trail : List AskedValue) (step : AskedValue) → step.sets ≡ [] → found_in_step trail step ≡ []
bare_found trail step is = bare_told trail step (told_in step.reply) is

-- ---- what stays

next_gave : (t : Terms) (so_far : SoFar) (o : Option PlacedSet) (s : StateValue) (out : List EntryValue)
    → HasGiven t s out
    → HasGiven t (next_in t so_far o s) out
next_gave t so_far None s out h = h
next_gave t so_far (Some placed) s out h = h

ask_gave : (t : Terms) (o : Option AskRef) (ask : Ask) (f : OpenValue) (s : StateValue) (out : List EntryValue)
    → HasGiven t s out
    → HasGiven t (asked_by t.judge o ask f s) out
ask_gave t None ask f s out h = h
ask_gave t (Some r) ask f s out h = h

-- ---- a step ends

-- the sets of one more step, behind those before
more_given : (t : Terms) (trail closed : List AskedValue) (step : AskedValue) (out kept left : List EntryValue)
    → AreOfSets t (found_sets trail closed) (out ++ kept)
    → AreOfSets t (found_in_step trail step) left
    → AreOfSets t (found_sets trail (closed ++ step ∷ [])) (out ++ (kept ++ left))
more_given t trail closed step out kept left before here =
    subst (AreOfSets t (found_sets trail (closed ++ step ∷ []))) (append_assoc out kept left)
    (subst (λ xs. AreOfSets t xs ((out ++ kept) ++ left)) (sym (found_more trail closed step))
    (of_append t (found_sets trail closed) (found_in_step trail step) (out ++ kept) left before here))

abbrev GaveBefore : Terms → List AskedValue → List EntryValue → Type 0
GaveBefore t closed given = (more : List AskedValue) → AreOfSets t (found_sets (closed ++ more) closed) given

module _ (t : Terms) (cached : List EntryValue) where
  -- the last one, whatever its ending
  top_gave : (f : OpenValue) (closed : List AskedValue) (n : ℕ) (sends : List Sent) (out kept : List EntryValue)
      (o : Outcome) (ending : EndingValue)
      → Open t cached (f ∷ []) closed n sends → turn f.phase ≡ StepEnds o → GaveBefore t closed (out ++ kept)
      → (let trail = trail_of f.so_far.query (findings closed f.so_far f.asked o) ending in
      AreOfSets t (found_sets trail trail) (out ++ (kept ++ entries_left t f.so_far)))
  top_gave f closed n sends out kept o ending (Above _ _ _ _ _ _ _ after _ first Ground h all) ends gave =
      let s = f.so_far in
      let found = findings closed s f.asked o in
      let top = top_of s.query (told_by s.message) s.empty s.entries ending f.asked in
      let trail = closed ++ top ∷ [] in
      let here =
      subst (λ d. AreOfSets t
      (map (found_set s.query)
      (filter (λ (x : PlacedSet × JudgedSetValue). is_found trail x.1)
      (zip (judged_part d (told_by s.message)) s.entries)))
      (entries_left t s))
      h.deep (step_leaves t cached closed (top ∷ []) f o h.judging ends) in
      more_given t trail closed top out kept (entries_left t s) (gave (top ∷ [])) here

  answer_gave : (f : OpenValue) (closed : List AskedValue) (n : ℕ) (sends : List Sent) (out kept : List EntryValue)
      (o x : Outcome)
      → Open t cached (f ∷ []) closed n sends → turn f.phase ≡ StepEnds o → GaveBefore t closed (out ++ kept)
      → OfAnswer (answer_by t.now f.so_far.query (findings closed f.so_far f.asked o) x)
      (λ a ending. AreOfSets t (found_sets a.trail a.trail) (out ++ (kept ++ entries_left t f.so_far)))
  answer_gave f closed n sends out kept o (Given d) beneath ends gave =
      top_gave f closed n sends out kept o (Answered d) beneath ends gave
  answer_gave f closed n sends out kept o NeedsZone beneath ends gave =
      top_gave f closed n sends out kept o (Denied Bogus) beneath ends gave
  answer_gave f closed n sends out kept o (outcome.Denied p) beneath ends gave =
      top_gave f closed n sends out kept o (Denied p) beneath ends gave

  -- one that another asked for
  nested_gave : (f g : OpenValue) (outer : List OpenValue) (closed : List AskedValue) (n : ℕ) (sends : List Sent)
      (out kept : List EntryValue) (o : Outcome)
      → Open t cached (f ∷ g ∷ outer) closed n sends → turn f.phase ≡ StepEnds o → GaveBefore t closed (out ++ kept)
      → GaveBefore t (closed ++ step_of f.so_far f.asked o ∷ []) (out ++ (kept ++ entries_left t f.so_far))
  nested_gave f g outer closed n sends out kept o (Above _ _ _ _ _ _ _ after _ first beneath h all) ends gave = λ more.
      let s = f.so_far in
      let step = step_of s f.asked o in
      let same : (closed ++ step ∷ []) ++ more ≡ closed ++ step ∷ more = append_assoc closed (step ∷ []) more in
      subst (λ trail. AreOfSets t (found_sets trail (closed ++ step ∷ [])) (out ++ (kept ++ entries_left t s))) (sym same)
      (more_given t (closed ++ step ∷ more) closed step out kept (entries_left t s) (gave (step ∷ more))
      (step_leaves t cached closed (step ∷ more) f o h.judging ends))

  step_gave : (f : OpenValue) (outer : List OpenValue) (closed : List AskedValue) (n : ℕ) (sends : List Sent)
      (made : List MadeValue) (out kept : List EntryValue) (o : Outcome)
      → Open t cached (f ∷ outer) closed n sends → turn f.phase ≡ StepEnds o → GaveBefore t closed (out ++ kept)
      → HasGiven t (step_ended t f.so_far f.asked o (at_rest closed outer n made kept)) out
  step_gave f [] closed n sends made out kept o beneath ends gave =
      answer_gave f closed n sends out kept o o beneath ends gave
  step_gave f (g ∷ outer) closed n sends made out kept o beneath ends gave =
      nested_gave f g outer closed n sends out kept o beneath ends gave

  -- ---- turns

  need_gave : (f : OpenValue) (outer : List OpenValue) (closed : List AskedValue) (n : ℕ) (sends : List Sent)
      (made : List MadeValue) (out kept : List EntryValue) (need : NeedValue)
      → Open t cached (f ∷ outer) closed n sends → turn f.phase ≡ need → GaveBefore t closed (out ++ kept)
      → HasGiven t (turned t f (at_rest closed outer n made kept) need) out
  need_gave f outer closed n sends made out kept (SetEnds c) beneath is gave =
      let so_far = with_set f.so_far c (entry_of c.judged f.asked) f.cause in
      next_gave t so_far (first_left so_far.left) (at_rest closed outer n made kept) out gave
  need_gave f outer closed n sends made out kept (StepEnds o) beneath is gave =
      step_gave f outer closed n sends made out kept o beneath is gave
  need_gave f outer closed n sends made out kept (Asks ask) beneath is gave =
      ask_gave t (refusal (limit_of t) n f.so_far.depth ask.judged) ask f (at_rest closed outer n made kept) out gave

  turn_gave : (pending : Option Ask) (seeking : Option SeekingValue) (steps : List OpenValue) (closed : List AskedValue)
      (n : ℕ) (sends : List Sent) (made : List MadeValue) (out kept : List EntryValue) (ended : Option Reply)
      → Stand t cached pending seeking steps closed n sends made ended
      → (is_none pending && (is_none seeking && not (none_open steps))) ≡ true
      → GaveOf t ended closed (out ++ kept)
      → (let s : StateValue = record {
        closed = closed;
        steps = steps;
        seeking = seeking;
        pending = pending;
        sends = n;
        made = made;
        kept = kept;
        ended = ended;
      } in HasGiven t (tick t s) out)
  turn_gave _ _ _ _ _ _ _ out kept _ (Waits ask steps closed n sends made beneath few awaits each) on gave =
      absurd (no_truth on)
  turn_gave _ _ _ _ _ _ _ out kept _
      (Seeks k outer below closed n m before after all first made beneath h is each) on gave = absurd (no_truth on)
  turn_gave _ _ _ _ _ _ _ out kept _ (Moves f outer closed n sends made beneath each) on gave =
      need_gave f outer closed n sends made out kept (turn f.phase) beneath refl gave
  turn_gave _ _ _ _ _ _ _ out kept _ (Done closed n sends made answer comes) on gave = absurd (no_truth on)

turns_gave : (t : Terms) (cached : List EntryValue) (sends : List Sent) (s u : StateValue) (out : List EntryValue)
    → Run t cached sends s → Turns t s u → HasGiven t s out → HasGiven t u out
turns_gave t cached sends _ _ out run (Here s u is) h = subst (λ x. HasGiven t x out) (sym is) h
turns_gave t cached sends _ _ out run (Onward s m u turns on is) h =
    let there = run_stands t cached sends m (run_turns t cached sends s m run turns) in
    subst (λ x. HasGiven t x out) (sym is)
    (turn_gave t cached m.pending m.seeking m.steps m.closed m.sends sends m.made out m.kept m.ended there on
    (turns_gave t cached sends s m out run turns h))

-- ---- a reply

-- as long as there is no answer
still_gave : (t : Terms) (s : StateValue) (out : List EntryValue) → s.ended ≡ None → HasGiven t s out
    → GaveBefore t s.closed (out ++ s.kept)
still_gave t s out still h = subst (λ o. GaveOf t o s.closed (out ++ s.kept)) still h

gave_still : (t : Terms) (s : StateValue) (out : List EntryValue) → s.ended ≡ None
    → GaveBefore t s.closed (out ++ s.kept) → HasGiven t s out
gave_still t s out still h = subst (λ o. GaveOf t o s.closed (out ++ s.kept)) (sym still) h

-- a step without sets
bare_gave : (t : Terms) (j : Judge) (s : StateValue) (step : AskedValue) (got : GotValue) (out : List EntryValue)
    → step.sets ≡ [] → s.ended ≡ None → HasGiven t s out
    → HasGiven t (with_step j step got s) out
bare_gave t j s step got out bare still h =
    gave_still t (with_step j step got s) out still (λ more.
    let same : (s.closed ++ step ∷ []) ++ more ≡ s.closed ++ step ∷ more = append_assoc s.closed (step ∷ []) more in
    subst (λ trail. AreOfSets t (found_sets trail (s.closed ++ step ∷ [])) (out ++ s.kept)) (sym same)
    (subst (λ xs. AreOfSets t xs (out ++ s.kept))
    (sym (found_more (s.closed ++ step ∷ more) s.closed step
    ∙ ap (λ xs. found_sets (s.closed ++ step ∷ more) s.closed ++ xs) (bare_found (s.closed ++ step ∷ more) step bare)
    ∙ append-nil (found_sets (s.closed ++ step ∷ more) s.closed)))
    (still_gave t s out still h (step ∷ more))))

own_gave : (t : Terms) (s : StateValue) (q : Question) (m : MessageValue) (empty : Bool) (o : Option Rr)
    (out : List EntryValue) → HasGiven t s out
    → HasGiven t (heard_own t s q m empty o) out
own_gave t s q m empty None out h =
    next_gave t (begun q 0 m empty) (first_left (begun q 0 m empty).left) s out h
own_gave t s q m empty (Some r) out h = tt

heard_nested_gave : (t : Terms) (s : StateValue) (q : Question) (depth : ℕ) (m : MessageValue) (empty : Bool)
    (o : Option Rr) (out : List EntryValue) → s.ended ≡ None → HasGiven t s out
    → HasGiven t (heard_nested t s q depth m empty o) out
heard_nested_gave t s q depth m empty None out still h =
    next_gave t (begun q depth m empty) (first_left (begun q depth m empty).left) s out h
heard_nested_gave t s q depth m empty (Some r) out still h =
    bare_gave t t.judge s (judged_step depth q (trails.Records (told_by m) empty) [] (foreign_ending r) [])
    (Answer None) out refl still h

reply_gave : (t : Terms) (s : StateValue) (q : Question) (judged : Bool) (o : Option ℕ) (reply : Reply)
    (received : ReceivedValue) (out : List EntryValue)
    → received_value reply ≡ received → s.ended ≡ None → HasGiven t s out
    → HasGiven t (heard_by t s q judged o received) out
reply_gave t s q true None reply (Failed error) out is still h =
    silent_error (λ a ending. AreOfSets t (found_sets a.trail a.trail) (out ++ s.kept)) error
    ((silent reply error is).none)
reply_gave t s q true None reply (Message m empty) out is still h =
    own_gave t s q m empty (foreign_record q (told_by m)) out h
reply_gave t s q true (Some depth) reply (Failed error) out is still h =
    bare_gave t t.judge s (judged_step (depth + 1) q trails.Fault [] trails.Failed []) (Answer None) out refl still h
reply_gave t s q true (Some depth) reply (Message m empty) out is still h =
    heard_nested_gave t s q (depth + 1) m empty (foreign_record q (told_by m)) out still h
reply_gave t s q false None reply received out is still h = h
reply_gave t s q false (Some depth) reply (Failed error) out is still h =
    bare_gave t t.judge s (plain_step depth q trails.Fault trails.Failed) (Probe probes.Failed) out refl still h
reply_gave t s q false (Some depth) reply (Message m empty) out is still h =
    bare_gave t t.judge s (plain_step depth q (trails.Records (told_by m) empty) trails.Seen)
    (Probe (probe_of q.owner (trails.Records (told_by m) empty))) out refl still h

waits_gave : (t : Terms) (s : StateValue) (o : Option Ask) (reply : Reply) (out : List EntryValue) → s.ended ≡ None
    → HasGiven t s out
    → HasGiven t (heard_in t s (received_value reply) o) out
waits_gave t s None reply out still h = h
waits_gave t s (Some ask) reply out still h =
    reply_gave t (no_more_waiting s) ask.query ask.judged (depth_below s.steps) reply (received_value reply) out refl
    still h

pub heard_gave : (t : Terms) (cached : List EntryValue) (sends : List Sent) (s u : StateValue) (reply : Reply)
    (out : List EntryValue) → s.ended ≡ None → Run t cached sends (heard t s reply) → HasHeard t s reply u
    → HasGiven t s out → HasGiven t u out
heard_gave t cached sends s u reply out still run h gave =
    turns_gave t cached sends (heard t s reply) u out run h.turns (waits_gave t s s.pending reply out still gave)

-- ---- what was kept of a set

entry_gave : (t : Terms) (k : SeekingValue) (o : Option EntryValue) (s : StateValue) (out : List EntryValue)
    → HasGiven t s out
    → HasGiven t (found_by_entry t k o s) out
entry_gave t k None s out h = h
entry_gave t k (Some e) s out h =
    let set = served_set k.placed e in
    let so_far = with_set k.so_far set (served_entry (origin_of s.made e) set) None in
    next_gave t so_far (first_left so_far.left) s out h

found_gave : (t : Terms) (given : Option (EntryValue × Acceptance)) (o : Option SeekingValue) (s : StateValue)
    (out : List EntryValue) → HasGiven t s out
    → HasGiven t (found_in t given o s) out
found_gave t given None s out h = h
found_gave t given (Some k) s out h =
    entry_gave t k (serving t.judge k.so_far.query k.placed given) (record s { seeking = None }) out h

pub taken_gave : (t : Terms) (cached : List EntryValue) (sends : List Sent) (s u : StateValue)
    (given : Option (EntryValue × Acceptance)) (out : List EntryValue) → Run t cached sends (found t given s)
    → HasTaken t s given u → HasGiven t s out → HasGiven t u out
taken_gave t cached sends s u given out run h gave =
    turns_gave t cached sends (found t given s) u out run h.turns (found_gave t given s.seeking s out gave)

-- ---- what is given out

pub kept_gave : (t : Terms) (s : StateValue) (out : List EntryValue) → HasGiven t s out
    → HasGiven t (kept_all s) (out ++ s.kept)
kept_gave t s out h = subst (GaveOf t s.ended s.closed) (sym (append-nil (out ++ s.kept))) h

pub begun_gave : (t : Terms) (s : StateValue) → s ≡ begin t.query → HasGiven t s []
begun_gave t s is = subst (λ x. HasGiven t x []) (sym is) (λ more. tt)

-- ---- the cache

pub puts_begun : (now : ℕ) (o : Option CacheList) → PutsTold now o [] o
puts_begun now None = tt
puts_begun now (Some list) = Rests list refl

pub puts_got : (now : ℕ) (before old new : Option CacheList) (out : List EntryValue) (key : CacheKeyValue)
    → new ≡ option_map (after_get key now) old → PutsTold now before out old → PutsTold now before out new
puts_got now None old new out key is h = tt
puts_got now (Some from) None new out key is h = subst (PutsTold now (Some from) out) (sym is) tt
puts_got now (Some from) (Some list) new out key is h =
    subst (PutsTold now (Some from) out) (sym is) (Gets out list (after_get key now list) key h refl)

put_all : (now : ℕ) (from list : CacheList) (out kept : List EntryValue) → PutIn now from out list
    → PutIn now from (out ++ kept) (after_inserts kept list)
put_all now from list out [] h = subst (λ xs. PutIn now from xs list) (sym (append-nil out)) h
put_all now from list out (e ∷ kept) h =
    subst (λ xs. PutIn now from xs (after_inserts kept (after_insert e list))) (append_assoc out (e ∷ []) kept)
    (put_all now from (after_insert e list) (out ++ e ∷ []) kept
    (Puts out (out ++ e ∷ []) list (after_insert e list) e h refl refl))

pub puts_kept : (now : ℕ) (before old new : Option CacheList) (out kept : List EntryValue)
    → new ≡ option_map (after_inserts kept) old → PutsTold now before out old → PutsTold now before (out ++ kept) new
puts_kept now None old new out kept is h = tt
puts_kept now (Some from) None new out kept is h = subst (PutsTold now (Some from) (out ++ kept)) (sym is) tt
puts_kept now (Some from) (Some list) new out kept is h =
    subst (PutsTold now (Some from) (out ++ kept)) (sym is) (put_all now from list out kept h)

-- ---- the end

told_put : (now : ℕ) (before after : Option CacheList) (out : List EntryValue) (from to : CacheList)
    → before ≡ Some from → after ≡ Some to → PutsTold now before out after → PutIn now from out to
told_put now before after out from to is was h =
    subst (λ o. PutsTold now (Some from) out o) was (subst (λ o. PutsTold now o out after) is h)

trail_puts : {H : Type 0} (t : Terms) (before now : CacheState) (old new : H) (trail : List AskedValue)
    (out : List EntryValue)
    → AreOfSets t (found_sets trail trail) out → PutsTold t.now before.told out now.told
    → PutsAll (call_by t (use_between before now) old new) trail
trail_puts t before now old new trail out are puts = λ from to is was. record {
  entries = out;
  through = told_put t.now before.told now.told out from to is was puts;
  are = are;
}

reply_puts : {H : Type 0} (t : Terms) (before now : CacheState) (old new : H) (reply : Reply) (out : List EntryValue)
    → OfAnswer reply (λ a ending. AreOfSets t (found_sets a.trail a.trail) out)
    → PutsTold t.now before.told out now.told
    → OfAnswer reply (λ a ending. PutsAll (call_by t (use_between before now) old new) a.trail)
reply_puts t before now old new (Ok a) out are puts = trail_puts t before now old new a.trail out are puts
reply_puts t before now old new (Err (Dns (Nsec asked a proof))) out are puts =
    trail_puts t before now old new a.trail out are puts
reply_puts t before now old new (Err error) out are puts = tt

pub end_puts : {H : Type 0} (t : Terms) (before now : CacheState) (old new : H) (m : StateValue) (reply : Reply)
    (out : List EntryValue) → m.kept ≡ [] → m.ended ≡ Some reply → HasGiven t m out
    → PutsTold t.now before.told out now.told
    → OfAnswer reply (λ a ending. PutsAll (call_by t (use_between before now) old new) a.trail)
end_puts t before now old new m reply out rests ended gave puts =
    let all : out ++ m.kept ≡ out = ap (λ xs. out ++ xs) rests ∙ append-nil out in
    reply_puts t before now old new reply out
    (subst (λ o. GaveOf t o m.closed out) ended (subst (GaveOf t m.ended m.closed) all gave)) puts
