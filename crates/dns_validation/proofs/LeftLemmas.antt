-- What a run gives out to be kept is what its steps found of the sets that they heard.
use Rattle.std.proofs.Common.{ℕ, ◌≡◌, Bool, true, false, not, ◌&&◌, ◌+◌, List, [], ◌∷◌, ◌++◌, drop, Option, None, Some, map, refl, sym, ap, subst, ◌∙◌, inl, inr}
use Rattle.std.specs.List.{AllByRecursion, zip}
use Rattle.std.specs.Option.{IfSome}
use Rattle.dns_model.specs.declared.trail.AskRef.{AskRef}
use Rattle.dns_model.specs.Records.{Rr, Question, MessageValue}
use Rattle.dns_model.specs.SoundAnswers.{PlacedSet, Told, told_by}
use Rattle.dns_model.specs.Trails.{AskedValue, JudgedSetValue}
use Rattle.dns_model.proofs.EachLemmas.{each_append, each_more}
use Rattle.dns_rules.specs.Asking.{judged_part}
use Rattle.dns_rules.specs.CacheEntries.{EntryValue}
use Rattle.dns_rules.specs.ChainedSets.{ChainedSet, stands}
use Rattle.dns_rules.specs.Derivation.{StepContext, with_entries}
use Rattle.dns_rules.specs.MarkedSets.{MarkedSet, placed_of}
use Rattle.dns_rules.specs.Outcome.{Outcome, foreign_record}
use Rattle.dns_rules.specs.ProofErrors.{ProofErrorKindValue}
use Rattle.dns_rules.specs.Serving.{has_place}
use Rattle.dns_handle.specs.Errors.{Reply}
use Rattle.dns_cache.specs.declared.acceptance.Acceptance.{Acceptance}
use Rattle.dns_flow.specs.declared.asks.Ask.{Ask}
use Rattle.dns_flow.specs.Causes.{found_of}
use Rattle.dns_flow.specs.Phases.{NeedValue, SetEnds, StepEnds, Asks, turn}
use Rattle.dns_validation.specs.Received.{ReceivedValue, Message, Failed, received_value}
use Rattle.dns_validation.specs.Left.{IsLeft}
use Rattle.dns_validation.specs.Machine.{Terms, SoFar, OpenValue, SeekingValue, MadeValue, StateValue, asked_by, depth_below, entries_left, entry_by, first_kept, found_by_entry, found_in, heard_by, heard_in, heard_nested, heard_own, limit_of, next_in, no_more_waiting, none_open, opened, refusal, serving, step_ended, tick, turned}
use Rattle.dns_validation.specs.Runs.{Sent, sent_now, Run, Begun, Ticked, Heard, Sought, Given, IsIn, is_none}
use Rattle.dns_validation.proofs.CausedSets.{AreCaused, HasCause}
use Rattle.dns_validation.proofs.FoundLemmas.{IsLeftOf, each_in, front_in, head_same, left_each, map_in, middle_in, tail_same}
use Rattle.dns_validation.proofs.GotLemmas.{context_at}
use Rattle.dns_validation.proofs.Judgings.{step_judging}
use Rattle.dns_validation.proofs.RunLemmas.{run_stands}
use Rattle.dns_validation.proofs.Stands.{IsOnTop, Open, Above, Stand, Waits, Seeks, Moves, Done}

abbrev AreLeft : Terms → List Sent → List EntryValue → Type 0
AreLeft t sends kept = AllByRecursion (IsLeft t sends) kept

-- further sends
left_more : (t : Terms) (sends more : List Sent) (e : EntryValue) → IsLeft t sends e → IsLeft t (sends ++ more) e
left_more t sends more e h = record {
  sent = h.sent;
  among = front_in h.sent sends more h.among;
  judged = h.judged;
  message = h.message;
  empty = h.empty;
  received = h.received;
  set = h.set;
  placed = h.placed;
  stand = h.stand;
  place = h.place;
  cause = h.cause;
  kept = h.kept;
  is = h.is;
}

-- ---- a step ends

placed_in : (ps : List PlacedSet) (es : List JudgedSetValue) (judged : MarkedSet) → IsIn judged (with_entries ps es)
    → IsIn (placed_of judged) ps
placed_in [] es judged is = absurd is
placed_in (p ∷ ps) [] judged is = absurd is
placed_in (p ∷ ps) (e ∷ es) judged (inl same) = inl (ap placed_of same)
placed_in (p ∷ ps) (e ∷ es) judged (inr is) = inr (placed_in ps es judged is)

-- a set beside which a cause stands names the place of one of its signatures
has_own : (g : StepContext) (told : Told) (ps : List PlacedSet) (es : List JudgedSetValue)
    (os : List (Option ProofErrorKindValue)) (cs : List ChainedSet) (c : ChainedSet) (cause : ProofErrorKindValue)
    → AreCaused g told ps es os → map (λ (x : ChainedSet). x.judged) cs ≡ with_entries ps es
    → IsIn (c, Some cause) (zip cs os)
    → has_place c.judged.set c.judged.sig ≡ true
has_own g told ps es os [] c cause are same is = absurd is
has_own g told ps es [] (d ∷ cs) c cause are same is = absurd is
has_own g told [] [] (o ∷ os) (d ∷ cs) c cause are same is = absurd are
has_own g told [] (e ∷ es) (o ∷ os) (d ∷ cs) c cause are same is = absurd are
has_own g told (p ∷ ps) [] (o ∷ os) (d ∷ cs) c cause are same is = absurd are
has_own g told (p ∷ ps) (e ∷ es) (o ∷ os) (d ∷ cs) c cause are same (inl first) =
    let caused = subst (HasCause g told p e) (sym (ap (λ x. x.1) first)) are.0 in
    let own = ap (λ x. x.judged) (ap (λ x. x.0) first) ∙ head_same same in
    ap (λ (x : MarkedSet). has_place x.set x.sig) own ∙ caused.1.0
has_own g told (p ∷ ps) (e ∷ es) (o ∷ os) (d ∷ cs) c cause are same (inr is) =
    has_own g told ps es os cs c cause are.1 (tail_same same) is

module _ (t : Terms) (cached : List EntryValue) (f : OpenValue) (outer : List OpenValue)
    (below closed : List AskedValue) (n m : ℕ) (before after all : List Sent) (first : Sent) where
  left_step : (o : Outcome) → IsOnTop t cached f outer below closed n m first after
      → all ≡ before ++ first ∷ after
      → turn f.phase ≡ StepEnds o → (e : EntryValue) → IsLeftOf t f.so_far.query f.so_far.sets f.so_far.causes e → IsLeft t all e
  left_step o h is ends e left =
      let s = f.so_far in
      let done = step_judging t cached closed f o h.judging ends in
      let query : s.query ≡ first.ask.query = ap (λ (a : Ask). a.query) (sym h.heard.ask) in
      record {
        sent = first;
        among = subst (IsIn first) (sym is) (middle_in before first after);
        judged = ap (λ (a : Ask). a.judged) h.heard.ask;
        message = s.message;
        empty = s.empty;
        received = h.heard.received;
        set = left.set;
        placed =
            subst (λ d. IsIn (placed_of left.set.judged) (judged_part d (told_by s.message))) (sym h.heard.depth)
            (placed_in (judged_part s.depth (told_by s.message)) s.entries left.set.judged
            (subst (IsIn left.set.judged) done.judged.same
            (map_in (λ (c : ChainedSet). c.judged) left.set s.sets left.among)));
        stand = each_in (λ c. stands t.judge c ≡ true) left.set s.sets done.judged.stand left.among;
        place =
            has_own (context_at t cached closed s) (told_by s.message) (judged_part s.depth (told_by s.message))
            s.entries s.causes s.sets left.set left.cause done.caused done.judged.same left.beside;
        cause = left.cause;
        kept = left.kept;
        is = subst (λ q. e ≡ entry_by t q left.set (found_of t.now left.set.judged left.cause)) query left.is;
      }

abbrev resting : List AskedValue → List OpenValue → ℕ → List MadeValue → List EntryValue → Option Reply → StateValue
resting closed steps n made kept ended = record {
  closed = closed;
  steps = steps;
  seeking = None;
  pending = None;
  sends = n;
  made = made;
  kept = kept;
  ended = ended;
}

next_keeps : (t : Terms) (s : SoFar) (o : Option PlacedSet) (state : StateValue)
    → (next_in t s o state).kept ≡ state.kept
next_keeps t s None state = refl
next_keeps t s (Some placed) state = refl

ended_keeps : (t : Terms) (f : OpenValue) (outer : List OpenValue) (closed : List AskedValue) (n : ℕ)
    (made : List MadeValue) (kept : List EntryValue)
    (e : Option Reply) (o : Outcome)
    → (step_ended t f.so_far f.asked o (resting closed outer n made kept e)).kept ≡ kept ++ entries_left t f.so_far
ended_keeps t f [] closed n made kept e o = refl
ended_keeps t f (g ∷ outer) closed n made kept e o = refl

asked_keeps : (t : Terms) (f : OpenValue) (o : Option AskRef) (ask : Ask) (state : StateValue)
    → (asked_by t.judge o ask f state).kept ≡ state.kept
asked_keeps t f None ask state = refl
asked_keeps t f (Some r) ask state = refl

module _ (t : Terms) (cached : List EntryValue) (f : OpenValue) (outer : List OpenValue) (closed : List AskedValue)
    (n : ℕ) (sends : List Sent) (made : List MadeValue) (kept : List EntryValue) where
  left_need : (need : NeedValue) → Open t cached (f ∷ outer) closed n sends
      → turn f.phase ≡ need
      → AreLeft t sends kept → AreLeft t sends (turned t f (resting closed outer n made kept None) need).kept
  left_need (SetEnds c) beneath is each =
      subst (AreLeft t sends) (sym (next_keeps t _ _ (resting closed outer n made kept None))) each
  left_need (StepEnds o)
      (Above _ _ below _ k _ before after _ first beneath h all) is each =
      let s = f.so_far in
      subst (AreLeft t sends) (sym (ended_keeps t f outer closed n made kept None o))
      (each_append (IsLeft t sends) kept (entries_left t s) each
      (each_more (IsLeftOf t s.query s.sets s.causes) (IsLeft t sends)
      (left_step t cached f outer below closed k n before after sends first o h all is)
      (entries_left t s) (left_each t s.query s.sets s.causes)))
  left_need (Asks ask) beneath is each =
      subst (AreLeft t sends)
      (sym (asked_keeps t f (refusal (limit_of t) n f.so_far.depth ask.judged) ask
      (resting closed outer n made kept None))) each

module _ (t : Terms) (cached : List EntryValue) where
  left_turn : (pending : Option Ask) (seeking : Option SeekingValue)
      (steps : List OpenValue) (closed : List AskedValue) (n : ℕ)
      (sends : List Sent) (made : List MadeValue) (kept : List EntryValue) (ended : Option Reply)
      → Stand t cached pending seeking steps closed n sends made ended
      → (is_none pending && (is_none seeking && not (none_open steps))) ≡ true
      → AreLeft t sends kept
      → (let s : StateValue =
      record {
        closed =
            closed;
        steps =
            steps;
        seeking = seeking;
        pending = pending;
        sends = n;
        made = made;
        kept = kept;
        ended = ended;
      } in
      AreLeft t sends (tick t s).kept)
  left_turn _ _ _ _ _ _ _ kept _ (Waits ask steps closed n sends made beneath few awaits is_made) on each = cc
  left_turn _ _ _ _ _ _ _ kept _
      (Seeks k outer below closed n m before after all first made beneath h is is_made) on each = cc
  left_turn _ _ _ _ _ _ _ kept _ (Moves f outer closed n sends made beneath is_made) on each =
      left_need t cached f outer closed n sends made kept (turn f.phase) beneath refl each
  left_turn _ _ _ _ _ _ _ kept _ (Done closed n sends made reply comes) on each = cc

-- ---- a reply, and what was kept of a set, leave nothing

opened_keeps : (t : Terms) (q : Question) (depth : ℕ) (m : MessageValue) (empty : Bool) (s : StateValue)
    → (opened t q depth m empty s).kept ≡ s.kept
opened_keeps t q depth m empty s = next_keeps t _ _ s

own_keeps : (t : Terms) (s : StateValue) (q : Question) (m : MessageValue) (empty : Bool) (o : Option Rr)
    → (heard_own t s q m empty o).kept ≡ s.kept
own_keeps t s q m empty None = opened_keeps t q 0 m empty s
own_keeps t s q m empty (Some r) = refl

nested_keeps : (t : Terms) (s : StateValue) (q : Question) (depth : ℕ) (m : MessageValue) (empty : Bool) (o : Option Rr)
    → (heard_nested t s q depth m empty o).kept ≡ s.kept
nested_keeps t s q depth m empty None = opened_keeps t q depth m empty s
nested_keeps t s q depth m empty (Some r) = refl

by_keeps : (t : Terms) (s : StateValue) (q : Question) (judged : Bool) (o : Option ℕ) (received : ReceivedValue)
    → (heard_by t s q judged o received).kept ≡ s.kept
by_keeps t s q true None (Failed error) = refl
by_keeps t s q true None (Message m empty) = own_keeps t s q m empty (foreign_record q (told_by m))
by_keeps t s q true (Some depth) (Failed error) = refl
by_keeps t s q true (Some depth) (Message m empty) =
    nested_keeps t s q (depth + 1) m empty (foreign_record q (told_by m))
by_keeps t s q false None received = refl
by_keeps t s q false (Some depth) (Failed error) = refl
by_keeps t s q false (Some depth) (Message m empty) = refl

heard_keeps : (t : Terms) (s : StateValue) (received : ReceivedValue) (o : Option Ask)
    → (heard_in t s received o).kept ≡ s.kept
heard_keeps t s received None = refl
heard_keeps t s received (Some ask) = by_keeps t (no_more_waiting s) ask.query ask.judged (depth_below s.steps) received

entry_keeps : (t : Terms) (k : SeekingValue) (o : Option EntryValue) (s : StateValue)
    → (found_by_entry t k o s).kept ≡ s.kept
entry_keeps t k None s = refl
entry_keeps t k (Some e) s = next_keeps t _ _ s

found_keeps : (t : Terms) (given : Option (EntryValue × Acceptance)) (o : Option SeekingValue) (s : StateValue)
    → (found_in t given o s).kept ≡ s.kept
found_keeps t given None s = refl
found_keeps t given (Some k) s = entry_keeps t k (serving t.judge k.so_far.query k.placed given) (record s { seeking = None })

-- ---- a run

left_rest : (t : Terms) (sends : List Sent) (kept : List EntryValue) → AreLeft t sends kept
    → AreLeft t sends (drop 1 kept)
left_rest t sends [] each = tt
left_rest t sends (e ∷ kept) each = each.1

pub run_left : (t : Terms) (cached : List EntryValue) (sends : List Sent) (s : StateValue) → Run t cached sends s
    → AreLeft t sends s.kept
run_left t cached _ _ (Begun s is) = subst (λ (x : StateValue). AreLeft t [] x.kept) (sym is) tt
run_left t cached _ _ (Ticked sends s u run on is) =
    subst (λ (x : StateValue). AreLeft t sends x.kept) (sym is)
    (left_turn t cached s.pending s.seeking s.steps s.closed s.sends sends s.made s.kept s.ended
    (run_stands t cached sends s run) on
    (run_left t cached sends s run))
run_left t cached _ _ (Heard sends all s u ask reply run waits kept more is) =
    let one = sent_now t s ask reply ∷ [] in
    subst (λ (x : StateValue). AreLeft t all x.kept) (sym is)
    (subst (AreLeft t all) (sym (heard_keeps t s (received_value reply) s.pending))
    (subst (λ xs. AreLeft t xs s.kept) (sym more)
    (each_more (IsLeft t sends) (IsLeft t (sends ++ one)) (left_more t sends one) s.kept
    (run_left t cached sends s run))))
run_left t cached _ _ (Sought sends s u k given run waits among is) =
    subst (λ (x : StateValue). AreLeft t sends x.kept) (sym is)
    (subst (AreLeft t sends) (sym (found_keeps t given s.seeking s)) (run_left t cached sends s run))
run_left t cached _ _ (Given sends s u run is) =
    subst (λ (x : StateValue). AreLeft t sends x.kept) (sym is)
    (left_rest t sends s.kept (run_left t cached sends s run))

-- the first that is given out
pub first_is_left : (t : Terms) (s : StateValue) (o : Option EntryValue) → o ≡ first_kept s.kept
    → IfSome o (λ e. (cached : List EntryValue) (sends : List Sent) → Run t cached sends s → IsLeft t sends e)
first_is_left t s o is =
    subst (λ x. IfSome x
    (λ e. (cached : List EntryValue) (sends : List Sent) → Run t cached sends s → IsLeft t sends e)) (sym is)
    (first_by t s s.kept refl)
  where
    first_by : (t : Terms) (s : StateValue) (kept : List EntryValue) → s.kept ≡ kept
        → IfSome (first_kept kept)
        (λ e. (cached : List EntryValue) (sends : List Sent) → Run t cached sends s → IsLeft t sends e)
    first_by t s [] same = tt
    first_by t s (e ∷ kept) same = λ cached sends run. (subst (AreLeft t sends) same (run_left t cached sends s run)).0
