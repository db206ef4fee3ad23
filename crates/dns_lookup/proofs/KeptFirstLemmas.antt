-- What was found last stands first in the cache, once all that is to be kept is kept.
use Rattle.std.proofs.Common.{ℕ, ◌+◌, ◌≡◌, Bool, true, false, List, [], ◌∷◌, ◌++◌, Option, None, Some, Ok, Err, refl, sym, ap, subst, ◌∙◌}
use Rattle.std.specs.Option.{option_map}
use Rattle.dns_model.specs.declared.proof.Proof.TheVariants.{Bogus}
use Rattle.dns_model.specs.Records.{Rr, Question, MessageValue}
use Rattle.dns_model.specs.SoundAnswers.{PlacedSet, Told, placed_sets, told_by}
use Rattle.dns_model.specs.Trails.{AskedValue, JudgedSetValue, EndingValue, Answered, Denied}
use Rattle.dns_rules.specs.Asking.{judged_part}
use Rattle.dns_rules.specs.CacheEntries.{EntryValue}
use Rattle.dns_rules.specs.Derivation.{told_in}
use Rattle.dns_rules.specs.Outcome.{Outcome, Given, NeedsZone, foreign_record}
use Rattle.dns_rules.specs.Outcome as outcome
use Rattle.dns_rules.proofs.ChainedLemmas.{judged_part-top}
use Rattle.dns_rules.proofs.DerivationLemmas.{top_step_is}
use Rattle.dns_cache.specs.CacheLists.{CacheList}
use Rattle.dns_cache.specs.declared.acceptance.Acceptance.{Acceptance}
use Rattle.dns_handle.specs.Errors as seen
use Rattle.dns_handle.specs.Errors.{Reply, Dns, Nsec}
use Rattle.dns_flow.specs.declared.asks.Ask.{Ask}
use Rattle.dns_validation.specs.LastKept.{last_found, IsKeptLast, LeavesLast}
use Rattle.dns_validation.specs.Received.{ReceivedValue, Message, Failed, received_value}
use Rattle.dns_validation.specs.Steps.{Findings, answer_by, top_of, trail_of}
use Rattle.dns_validation.specs.Machine.{Terms, SoFar, SeekingValue, StateValue, begin, begun, depth_below, first_left, found, found_in, heard, heard_by, heard_in, heard_nested, heard_own, next_in, no_more_waiting}
use Rattle.dns_validation.specs.Runs.{Sent, sent_now, Run, Turns, Here, Onward, HasHeard, HasTaken, moves}
use Rattle.dns_validation.proofs.LastLemmas.{turns_leave_last}
use Rattle.dns_validation.proofs.RunLemmas.{run_stands}
use Rattle.dns_lookup.specs.Answering.{call_by}
use Rattle.dns_lookup.specs.Caching.{KeepsLast}
use Rattle.dns_lookup.specs.Driving.{CacheState, use_between, after_inserts, kept_all, front_entry, TopKept, FirstKept, LastKept}
use Rattle.dns_lookup.specs.LookupAnswers.{OfAnswer}
use Rattle.dns_lookup.proofs.ComesLemmas.{silent}
use Rattle.dns_lookup.proofs.FirstLemmas.{moving_by, waiting_still}
use Rattle.dns_lookup.proofs.FoundFirstLemmas.{over_found, over_next}
use Rattle.dns_lookup.proofs.ListedLemmas.{front_last, inserts_first, room_inserts}
use Rattle.dns_lookup.proofs.LookupAnswerLemmas.{silent_error}

reply_same : (a b : Reply) → Some a ≡ Some b → a ≡ b
reply_same a b h = cc

no_reply : (o : Option Reply) (reply : Reply) → o ≡ None → o ≡ Some reply → ⊥
no_reply o reply none some = cc

-- ---- what the last step gives out last

step_same : (a b : AskedValue) → Some a ≡ Some b → a ≡ b
step_same a b h = cc

told_same : (a b : Told) → Some a ≡ Some b → a ≡ b
told_same a b h = cc

-- the last set of which the last step found anything is that of the entry that comes to the front
top_kept : (t : Terms) (q : Question) (found : Findings) (ending : EndingValue) (kept entries : List EntryValue)
    → ((more : List AskedValue) (placed : PlacedSet) (set : JudgedSetValue)
    → last_found (found.steps ++ more) (judged_part 0 (told_by found.message)) found.entries ≡ Some (placed, set)
    → IsKeptLast t t.query placed set kept)
    → TopKept t (trail_of q found ending) (front_entry kept entries)
top_kept t q found ending kept entries last = λ top told placed set is heard is_last.
    let step = top_of q (told_by found.message) found.empty found.entries ending found.excuse in
    let trail = found.steps ++ step ∷ [] in
    let same : step ≡ top = step_same step top (sym (top_step_is found.steps step) ∙ is) in
    let tells : told_by found.message ≡ told =
    told_same (told_by found.message) told (ap (λ (s : AskedValue). told_in s.reply) same ∙ heard) in
    let part : judged_part 0 (told_by found.message) ≡ placed_sets told =
    judged_part-top (told_by found.message) ∙ ap placed_sets tells in
    let here : last_found trail (judged_part 0 (told_by found.message)) found.entries ≡ Some (placed, set) =
    ap (λ ps. last_found trail ps found.entries) part
    ∙ ap (λ (s : AskedValue). last_found trail (placed_sets told) s.sets) same
    ∙ is_last in
    let h = last (step ∷ []) placed set here in
    record {
      entry = h.entry;
      first = ap (λ xs. front_entry xs entries) h.last ∙ front_last [] h.front h.entry entries;
      of = h.of;
    }

answer_kept : (t : Terms) (now : ℕ) (q : Question) (found : Findings) (o : Outcome) (kept entries : List EntryValue)
    → ((more : List AskedValue) (placed : PlacedSet) (set : JudgedSetValue)
    → last_found (found.steps ++ more) (judged_part 0 (told_by found.message)) found.entries ≡ Some (placed, set)
    → IsKeptLast t t.query placed set kept)
    → OfAnswer (answer_by now q found o) (λ a ending. TopKept t a.trail (front_entry kept entries))
answer_kept t now q found (Given d) kept entries last = top_kept t q found (Answered d) kept entries last
answer_kept t now q found NeedsZone kept entries last = top_kept t q found (Denied Bogus) kept entries last
answer_kept t now q found (outcome.Denied p) kept entries last = top_kept t q found (Denied p) kept entries last

leaves_kept : (t : Terms) (reply : Reply) (kept : List EntryValue) (now : Option CacheList) → LeavesLast t reply kept
    → FirstKept t reply kept now
leaves_kept t reply kept None h = tt
leaves_kept t reply kept (Some list) h = λ some.
    subst (λ r. OfAnswer r (λ a ending. TopKept t a.trail (front_entry kept list.entries))) (sym h.is)
    (answer_kept t t.now t.query h.found h.found.outcome kept list.entries h.last)

-- a reply that is no answer
quiet_kept : (t : Terms) (reply : Reply) (kept : List EntryValue) (now : Option CacheList)
    → ((Fact : List AskedValue → Type 0) → OfAnswer reply (λ a ending. Fact a.trail)) → FirstKept t reply kept now
quiet_kept t reply kept None h = tt
quiet_kept t reply kept (Some list) h = λ some. h (λ trail. TopKept t trail (front_entry kept list.entries))

-- ---- turns

-- a state that has an answer doesn't turn
turns_over : (t : Terms) (cached : List EntryValue) (sends : List Sent) (s u : StateValue) (reply : Reply)
    → Run t cached sends s
    → s.ended ≡ Some reply → Turns t s u → u ≡ s
turns_over t cached sends _ _ reply run ended (Here s u is) = is
turns_over t cached sends _ _ reply run ended (Onward s m u turns on is) =
    let same = turns_over t cached sends s m reply run ended turns in
    let still =
    moving_by t cached s.pending s.seeking s.steps s.closed s.sends sends s.made s.ended
    (run_stands t cached sends s run)
    (subst (λ x. moves x ≡ true) same on) in
    absurd (no_reply s.ended reply still.0 ended)

turns_kept : (t : Terms) (cached : List EntryValue) (sends : List Sent) (s u : StateValue) (now : Option CacheList)
    (o : Option Reply)
    → Run t cached sends s → s.ended ≡ o → Turns t s u → LastKept t s now → LastKept t u now
turns_kept t cached sends s u now None run none turns last = λ reply ends.
    leaves_kept t reply u.kept now (turns_leave_last t cached sends s u reply run none turns ends)
turns_kept t cached sends s u now (Some reply) run ended turns last =
    subst (λ x. LastKept t x now) (sym (turns_over t cached sends s u reply run ended turns)) last

-- ---- a reply

-- what a reply ends at once is no answer
module _ (Fact : List AskedValue → Type 0) where
  abbrev Quiet : StateValue → Type 0
  Quiet s = (reply : Reply) → s.ended ≡ Some reply → OfAnswer reply (λ a ending. Fact a.trail)

  quiet_none : (s : StateValue) → s.ended ≡ None → Quiet s
  quiet_none s none = λ reply ended. absurd (no_reply s.ended reply none ended)

  quiet_next : (t : Terms) (so_far : SoFar) (s : StateValue) → s.ended ≡ None
      → Quiet (next_in t so_far (first_left so_far.left) s)
  quiet_next t so_far s none =
      let o = first_left so_far.left in
      quiet_none (next_in t so_far o s) (over_next t so_far o s ∙ none)

  quiet_own : (t : Terms) (s : StateValue) (q : Question) (m : MessageValue) (empty : Bool) (o : Option Rr)
      → s.ended ≡ None
      → Quiet (heard_own t s q m empty o)
  quiet_own t s q m empty None none = quiet_next t (begun q 0 m empty) s none
  quiet_own t s q m empty (Some r) none = λ reply ended.
      let foreign : Reply = Err (seen.ForeignClassRecord r.owner r.class r.rtype) in
      subst (λ x. OfAnswer x (λ a ending. Fact a.trail)) (reply_same foreign reply ended) tt

  quiet_nested : (t : Terms) (s : StateValue) (q : Question) (depth : ℕ) (m : MessageValue) (empty : Bool) (o : Option Rr)
      → s.ended ≡ None
      → Quiet (heard_nested t s q depth m empty o)
  quiet_nested t s q depth m empty None none = quiet_next t (begun q depth m empty) s none
  quiet_nested t s q depth m empty (Some r) none = quiet_none (heard_nested t s q depth m empty (Some r)) none

  quiet_by : (t : Terms) (s : StateValue) (q : Question) (judged : Bool) (o : Option ℕ) (reply : Reply)
      (received : ReceivedValue)
      → received_value reply ≡ received → s.ended ≡ None → Quiet (heard_by t s q judged o received)
  quiet_by t s q true None reply (Failed error) is none = λ r ended.
      subst (λ x. OfAnswer x (λ a ending. Fact a.trail)) (reply_same (Err error) r ended)
      (silent_error (λ a ending. Fact a.trail) error ((silent reply error is).none))
  quiet_by t s q true None reply (Message m empty) is none = quiet_own t s q m empty (foreign_record q (told_by m)) none
  quiet_by t s q true (Some depth) reply (Failed error) is none =
      quiet_none (heard_by t s q true (Some depth) (Failed error)) none
  quiet_by t s q true (Some depth) reply (Message m empty) is none =
      quiet_nested t s q (depth + 1) m empty (foreign_record q (told_by m)) none
  quiet_by t s q false None reply received is none = quiet_none s none
  quiet_by t s q false (Some depth) reply (Failed error) is none =
      quiet_none (heard_by t s q false (Some depth) (Failed error)) none
  quiet_by t s q false (Some depth) reply (Message m empty) is none =
      quiet_none (heard_by t s q false (Some depth) (Message m empty)) none

  quiet_waiting : (t : Terms) (s : StateValue) (reply : Reply) (o : Option Ask) → s.ended ≡ None
      → Quiet (heard_in t s (received_value reply) o)
  quiet_waiting t s reply None none = quiet_none s none
  quiet_waiting t s reply (Some ask) none =
      quiet_by t (no_more_waiting s) ask.query ask.judged (depth_below s.steps) reply (received_value reply) refl none

pub heard_kept : (t : Terms) (cached : List EntryValue) (sends : List Sent) (s u : StateValue) (now : Option CacheList)
    (ask : Ask) (reply : Reply)
    → Run t cached sends s → Run t cached (sends ++ sent_now t s ask reply ∷ []) (heard t s reply)
    → s.pending ≡ Some ask
    → HasHeard t s reply u → LastKept t u now
heard_kept t cached sends s u now ask reply run heard_run waits h =
    let still = waiting_still t cached sends s ask run waits in
    let m = heard t s reply in
    turns_kept t cached (sends ++ sent_now t s ask reply ∷ []) m u now m.ended heard_run refl h.turns
    (λ r ended. quiet_kept t r m.kept now (λ Fact. quiet_waiting Fact t s reply s.pending still.1 r ended))

-- ---- what was kept of a set

over_given : (t : Terms) (given : Option (EntryValue × Acceptance)) (o : Option SeekingValue) (s : StateValue)
    → (found_in t given o s).ended ≡ s.ended
over_given t given None s = refl
over_given t given (Some k) s = over_found t k _ (record s { seeking = None })

pub taken_kept : (t : Terms) (cached : List EntryValue) (sends : List Sent) (s u : StateValue) (now : Option CacheList)
    (given : Option (EntryValue × Acceptance)) → Run t cached sends (found t given s) → s.ended ≡ None
    → HasTaken t s given u → LastKept t u now
taken_kept t cached sends s u now given run none h =
    let m = found t given s in
    let over : m.ended ≡ None = over_given t given s.seeking s ∙ none in
    turns_kept t cached sends m u now None run over h.turns (λ r ended. absurd (no_reply m.ended r over ended))

-- ---- all is kept

first_kept : (t : Terms) (reply : Reply) (kept : List EntryValue) (now : Option CacheList) → FirstKept t reply kept now
    → FirstKept t reply [] (option_map (after_inserts kept) now)
unfolding front_entry
first_kept t reply kept None h = tt
first_kept t reply kept (Some list) h = λ some.
    let here : list.capacity ≡ 0 → ⊥ = λ none. some (room_inserts kept list ∙ none) in
    subst (λ o. OfAnswer reply (λ a ending. TopKept t a.trail o)) (sym (inserts_first kept list here)) (h here)

pub all_kept : (t : Terms) (s : StateValue) (now after : Option CacheList) → LastKept t s now
    → after ≡ option_map (after_inserts s.kept) now
    → LastKept t (kept_all s) after
all_kept t s now after last left = λ reply ended.
    subst (FirstKept t reply []) (sym left) (first_kept t reply s.kept now (last reply ended))

-- ---- the begin

pub begun_kept : (t : Terms) (s : StateValue) (now : Option CacheList) → s ≡ begin t.query → LastKept t s now
begun_kept t s now is = λ reply ended. absurd (no_reply s.ended reply (ap (λ (x : StateValue). x.ended) is) ended)

-- ---- the end

trail_keeps : {H : Type 0} (t : Terms) (before now : CacheState) (old new : H) (trail : List AskedValue)
    → ((list : CacheList) → now.told ≡ Some list → (list.capacity ≡ 0 → ⊥)
    → TopKept t trail (front_entry [] list.entries))
    → KeepsLast (call_by t (use_between before now) old new) trail
unfolding front_entry
trail_keeps t before now old new trail top = λ list step told placed set is some last heard is_last.
    let h = top list is some step told placed set last heard is_last in
    record {
      entry = h.entry;
      first = h.first;
      key = h.of.key;
      mark = h.of.mark;
      sig = h.of.sig;
      expires = h.of.expires;
      holds = h.of.holds;
    }

first_keeps : {H : Type 0} (t : Terms) (before now : CacheState) (old new : H) (reply : Reply)
    → FirstKept t reply [] now.told
    → OfAnswer reply (λ a ending. KeepsLast (call_by t (use_between before now) old new) a.trail)
first_keeps t before now old new (Ok a) first =
    trail_keeps t before now old new a.trail (λ list is some. subst (FirstKept t (Ok a) []) is first some)
first_keeps t before now old new (Err (Dns (Nsec asked a proof))) first =
    trail_keeps t before now old new a.trail
    (λ list is some. subst (FirstKept t (Err (Dns (Nsec asked a proof))) []) is first some)
first_keeps t before now old new (Err error) first = tt

pub keeps_last : {H : Type 0} (t : Terms) (before now : CacheState) (old new : H) (m : StateValue) (reply : Reply)
    → m.kept ≡ []
    → m.ended ≡ Some reply → LastKept t m now.told
    → OfAnswer reply (λ a ending. KeepsLast (call_by t (use_between before now) old new) a.trail)
keeps_last t before now old new m reply rests ended last =
    first_keeps t before now old new reply (subst (λ kept. FirstKept t reply kept now.told) rests (last reply ended))
