-- Each reply keeps where a validation stands.
use Rattle.std.proofs.Common.{ℕ, ◌+◌, ◌≡◌, ◌<◌, Bool, true, false, List, [], ◌∷◌, ◌++◌, length, Option, None, Some, Err, refl, sym, ap, subst, arith}
use Rattle.dns_model.specs.declared.trail.AskRef.TheVariants.{Step}
use Rattle.dns_model.specs.Records.{Rr, Question, MessageValue}
use Rattle.dns_model.specs.SoundAnswers.{told_by}
use Rattle.dns_model.specs.Trails.{AskedValue, Records, Fault, Failed, Seen}
use Rattle.dns_rules.specs.Asking.{most_sends, judged_part}
use Rattle.dns_rules.specs.CacheEntries.{EntryValue}
use Rattle.dns_rules.specs.Derivation.{step_holds, probe_of, asks_of}
use Rattle.dns_rules.specs.Outcome.{foreign_record}
use Rattle.dns_rules.specs.Probes as probes
use Rattle.dns_handle.specs.Errors as seen
use Rattle.dns_handle.specs.Errors.{Reply, ErrorValue}
use Rattle.dns_flow.specs.declared.asks.Ask.{Ask}
use Rattle.dns_flow.specs.Phases.{GotValue, Answer, Probe, judged_ask, plain_ask}
use Rattle.dns_flow.proofs.Led.{IsGot}
use Rattle.dns_validation.specs.Received.{ReceivedValue, Message, Failed as Unheard, received_value, is_out_of_memory}
use Rattle.dns_validation.specs.Steps.{judged_step, plain_step, foreign_ending}
use Rattle.dns_validation.specs.Machine.{Terms, OpenValue, SeekingValue, MadeValue, StateValue, begun, opened, answered, heard_first, heard_own, heard_judged, heard_nested, heard_plain, heard, limits_of}
use Rattle.dns_validation.specs.Runs.{Sent, request_in, depth_in, sent_now}
use Rattle.dns_validation.specs.Comes.{IsFirst, IsStepOf, Passes, Names}
use Rattle.dns_validation.proofs.Parts.{Part, none_more, step_more}
use Rattle.dns_validation.proofs.StepLines.{fault_holds, plain_fault_holds, plain_holds, foreign_holds}
use Rattle.dns_validation.proofs.GotLemmas.{context_at, step_answers, step_shows}
use Rattle.dns_validation.proofs.Judgings.{next_opened}
use Rattle.dns_validation.proofs.MadeLemmas.{AreMade, made_stay}
use Rattle.dns_validation.proofs.Replies.{heard_message, heard_fault}
use Rattle.dns_validation.proofs.Stands.{Awaited, Awaits, Open, Ground, Stand, Waits, Seeks, Moves, Done, Stands, at_rest, stand_next, open_answered}

-- the send of a judged ask
abbrev sent_judged : Terms → List OpenValue → Question → Reply → Sent
sent_judged t steps q reply =
    record {
      ask =
          judged_ask q;
      request = request_in t steps (judged_ask q);
      depth = depth_in steps true;
      reply = reply;
    }

-- ---- a step opens

module _ (t : Terms) (cached : List EntryValue) (steps : List OpenValue) (closed : List AskedValue) (n depth : ℕ)
    (sends : List Sent) (q : Question) (reply : Reply) (m : MessageValue) (empty : Bool) (made : List MadeValue) where
  stand_opened : (store : List EntryValue) → Open t cached steps closed n sends → n < most_sends
      → AreMade closed made
      → Awaits t steps (judged_ask q) → is_out_of_memory reply ≡ false → depth ≡ depth_in steps true
      → received_value reply ≡ Message m empty → foreign_record q (told_by m) ≡ None
      → Stands t cached (opened t q depth m empty (at_rest closed steps (n + 1) made store))
      (sends ++ sent_judged t steps q reply ∷ [])
  stand_opened store beneath few each awaits kept deep received
      own =
      stand_next t cached (begun q depth m empty) steps closed closed n (n + 1) sends []
      (sends ++ sent_judged t steps q reply ∷ [])
      (sent_judged t steps q reply) made store (judged_part depth (told_by m)) refl beneath
      (record {
        part = none_more t cached closed (n + 1);
        few = few;
        most = omega arith;
        judging = next_opened t cached closed q depth m empty own;
        heard = record { ask = refl; depth = sym deep; received = received; kept = kept };
        request = refl;
        awaited = awaits;
        deep = deep;
      }) refl each

-- ---- the first reply

none_open : (t : Terms) (cached : List EntryValue) (closed : List AskedValue) (n : ℕ) (sends : List Sent)
    → Open t cached [] closed n sends → sends ≡ []
none_open t cached _ _ _ Ground = refl

first_of : (t : Terms) (q : Question) (reply : Reply) → judged_ask q ≡ judged_ask t.query
    → is_out_of_memory reply ≡ false → IsFirst t (sent_judged t [] q reply)
first_of t q reply same kept = record { ask = same; request = refl; depth = refl; kept = kept }

module _ (t : Terms) (cached : List EntryValue) (closed : List AskedValue) (n : ℕ) (sends : List Sent) (q : Question)
    (reply : Reply) where
  stand_own : (m : MessageValue) (empty : Bool) (o : Option Rr)
      (made : List MadeValue) (store : List EntryValue) → Open t cached [] closed n sends → n < most_sends
      → AreMade closed made → judged_ask q ≡ judged_ask t.query → is_out_of_memory reply ≡ false
      → received_value reply ≡ Message m empty → foreign_record q (told_by m) ≡ o
      → Stands t cached (heard_own t (at_rest closed [] (n + 1) made store) q m empty o)
      (sends ++ sent_judged t [] q reply ∷ [])
  stand_own m empty None made store beneath few each same kept received own =
      stand_opened t cached [] closed n 0 sends q reply m empty made store beneath few each same kept refl received own
  stand_own m empty (Some r) made store beneath few each same kept received found =
      let sent = sent_judged t [] q reply in
      let one : sends ++ sent ∷ [] ≡ sent ∷ [] =
      ap (λ xs. xs ++ sent ∷ []) (none_open t cached closed n sends beneath) in
      let query : q ≡ t.query = ap (λ (a : Ask). a.query) same in
      Done closed (n + 1) (sends ++ sent ∷ []) made (Err (seen.ForeignClassRecord r.owner r.class r.rtype))
      (Names (Err (seen.ForeignClassRecord r.owner r.class r.rtype)) sent m r one
      (first_of t q reply same kept) empty received
      (subst (λ x. foreign_record x (told_by m) ≡ Some r) query found) refl)

  stand_first : (received : ReceivedValue)
      (made : List MadeValue) (store : List EntryValue) → Open t cached [] closed n sends → n < most_sends
      → AreMade closed made → judged_ask q ≡ judged_ask t.query → is_out_of_memory reply ≡ false
      → received_value reply ≡ received
      → Stands t cached (heard_first t (at_rest closed [] (n + 1) made store) q received)
      (sends ++ sent_judged t [] q reply ∷ [])
  stand_first (Unheard error) made store beneath few each same kept is =
      let sent = sent_judged t [] q reply in
      let one : sends ++ sent ∷ [] ≡ sent ∷ [] =
      ap (λ xs. xs ++ sent ∷ []) (none_open t cached closed n sends beneath) in
      Done closed (n + 1) (sends ++ sent ∷ []) made (Err error)
      (Passes error sent one (first_of t q reply same kept) is)
  stand_first (Message m empty) made store beneath few each same kept is =
      stand_own m empty
      (foreign_record q (told_by m)) made store beneath few each same kept is refl

-- ---- the reply to an ask of a step, which ends a step at once

module _ (t : Terms) (cached : List EntryValue) (f : OpenValue) (outer : List OpenValue) (closed : List AskedValue)
    (n : ℕ) (sends : List Sent) where
  stand_bare : (ask : Ask) (sent : Sent) (step : AskedValue) (got : GotValue)
      (made : List MadeValue) → Open t cached (f ∷ outer) closed n sends → n < most_sends → AreMade closed made
      → Awaited t f ask → IsStepOf t step sent
      → asks_of step ≡ [] → step_holds t.judge (limits_of t) cached closed step ≡ true
      → IsGot (context_at t cached (closed ++ step ∷ []) f.so_far) ask (Step (length closed)) got
      → Stand t cached None None (answered t.judge (Step (length closed)) got f ∷ outer) (closed ++ step ∷ []) (n + 1)
      (sends ++ sent ∷ []) made None
  stand_bare ask sent step got made beneath few each awaited of none holds is =
      let nothing : Part t cached closed closed (asks_of step) (n + 1) (n + 1) [] =
      subst (λ xs. Part t cached closed closed xs (n + 1) (n + 1) []) (sym none) (none_more t cached closed (n + 1)) in
      Moves (answered t.judge (Step (length closed)) got f) outer (closed ++ step ∷ []) (n + 1)
      (sends ++ sent ∷ []) made
      (open_answered t cached f outer closed (closed ++ step ∷ []) n (n + 1) sends (sent ∷ []) ask
      (Step (length closed)) got beneath
      (step_more t cached closed closed step n (n + 1) sent [] of nothing few holds) (omega arith) awaited.asks is)
      (made_stay closed (step ∷ []) made each)

  stand_nested : (q : Question) (reply : Reply) (m : MessageValue)
      (empty : Bool) (o : Option Rr) (made : List MadeValue) (store : List EntryValue)
      → Open t cached (f ∷ outer) closed n sends → n < most_sends → AreMade closed made → Awaited t f (judged_ask q)
      → is_out_of_memory reply ≡ false
      → received_value reply ≡ Message m empty → foreign_record q (told_by m) ≡ o
      → Stands t cached
      (heard_nested t (at_rest closed (f ∷ outer) (n + 1) made store) q (f.so_far.depth + 1) m empty o)
      (sends ++ sent_judged t (f ∷ outer) q reply ∷ [])
  stand_nested q reply m empty None made store beneath few each awaited kept received
      own =
      stand_opened t cached (f ∷ outer) closed n
      (f.so_far.depth + 1) sends q reply m empty made store beneath few each awaited kept refl received own
  stand_nested q reply m empty
      (Some r) made store beneath few each awaited kept received found =
      let depth = f.so_far.depth + 1 in
      let step = judged_step depth q (Records (told_by m) empty) [] (foreign_ending r) [] in
      stand_bare (judged_ask q) (sent_judged t (f ∷ outer) q reply) step
      (Answer None) made beneath few each awaited
      (record {
        query =
            refl;
        judged =
            refl;
        request = refl;
        depth = refl;
        heard = sym (heard_message reply m empty received);
        kept = kept;
      }) refl
      (foreign_holds t.judge (limits_of t) cached closed depth q (told_by m) empty r found)
      (step_answers t cached closed f.so_far q depth (Records (told_by m) empty) [] (foreign_ending r) [] None refl
      (awaited.shallow refl) refl tt)

  stand_judged : (q : Question) (reply : Reply) (received : ReceivedValue)
      (made : List MadeValue) (store : List EntryValue) → Open t cached (f ∷ outer) closed n sends → n < most_sends
      → AreMade closed made → Awaited t f (judged_ask q) → is_out_of_memory reply ≡ false
      → received_value reply ≡ received
      → Stands t cached (heard_judged t (at_rest closed (f ∷ outer) (n + 1) made store) q (f.so_far.depth + 1) received)
      (sends ++ sent_judged t (f ∷ outer) q reply ∷ [])
  stand_judged q reply (Unheard error) made store beneath few each awaited kept is =
      let depth = f.so_far.depth + 1 in
      let step = judged_step depth q Fault [] Failed [] in
      stand_bare (judged_ask q) (sent_judged t (f ∷ outer) q reply) step
      (Answer None) made beneath few each awaited
      (record {
        query =
            refl;
        judged = refl;
        request = refl;
        depth = refl;
        heard = sym (heard_fault reply error is);
        kept = kept;
      }) refl
      (fault_holds t.judge (limits_of t) cached closed depth q)
      (step_answers t cached closed f.so_far q depth Fault [] Failed [] None refl (awaited.shallow refl) refl tt)
  stand_judged q reply (Message m empty) made store beneath few each awaited kept is =
      stand_nested q reply m empty
      (foreign_record q (told_by m)) made store beneath few each awaited kept is refl

-- ---- the reply to a plain ask

abbrev sent_plain : Terms → OpenValue → List OpenValue → Question → Reply → Sent
sent_plain t f outer q reply =
    record {
      ask =
          plain_ask q;
      request =
          request_in t (f ∷ outer) (plain_ask q);
      depth = depth_in (f ∷ outer) false;
      reply = reply;
    }

module _ (t : Terms) (cached : List EntryValue) (f : OpenValue) (outer : List OpenValue) (closed : List AskedValue)
    (n : ℕ) (sends : List Sent) (q : Question) (reply : Reply) where
  stand_plain : (received : ReceivedValue)
      (made : List MadeValue) (store : List EntryValue) → Open t cached (f ∷ outer) closed n sends → n < most_sends
      → AreMade closed made → Awaited t f (plain_ask q) → is_out_of_memory reply ≡ false
      → received_value reply ≡ received
      → Stands t cached (heard_plain t.judge (at_rest closed (f ∷ outer) (n + 1) made store) q f.so_far.depth received)
      (sends ++ sent_plain t f outer q reply ∷ [])
  stand_plain (Unheard error) made store beneath few each awaited kept is =
      let step = plain_step f.so_far.depth q Fault Failed in
      stand_bare t cached f outer closed n sends (plain_ask q) (sent_plain t f outer q reply) step
      (Probe probes.Failed) made beneath few each awaited
      (record {
        query =
            refl;
        judged = refl;
        request = refl;
        depth = refl;
        heard = sym (heard_fault reply error is);
        kept = kept;
      }) refl
      (plain_fault_holds t.judge (limits_of t) cached closed f.so_far.depth q)
      (step_shows t cached closed f.so_far q Fault Failed)
  stand_plain (Message m empty) made store beneath few each awaited kept is =
      let step = plain_step f.so_far.depth q (Records (told_by m) empty) Seen in
      stand_bare t cached f outer closed n sends (plain_ask q) (sent_plain t f outer q reply) step
      (Probe (probe_of q.owner (Records (told_by m) empty))) made beneath few each awaited
      (record {
        query =
            refl;
        judged = refl;
        request = refl;
        depth = refl;
        heard = sym (heard_message reply m empty is);
        kept = kept;
      })
      refl
      (plain_holds t.judge (limits_of t) cached closed f.so_far.depth q (told_by m) empty)
      (step_shows t cached closed f.so_far q (Records (told_by m) empty) Seen)

-- ---- a reply

abbrev waiting : List AskedValue → List OpenValue → Ask → ℕ → List MadeValue → List EntryValue → StateValue
waiting closed steps ask n made store = record {
  closed = closed;
  steps = steps;
  seeking = None;
  pending = Some ask;
  sends = n;
  made = made;
  kept = store;
  ended = None;
}

module _ (t : Terms) (cached : List EntryValue) where
  stand_reply : (steps : List OpenValue) (closed : List AskedValue) (n : ℕ)
      (sends : List Sent) (q : Question) (judged : Bool) (reply : Reply)
      (made : List MadeValue) (store : List EntryValue) → Open t cached steps closed n sends → n < most_sends
      → AreMade closed made
      → Awaits t steps (record { query = q; judged = judged }) → is_out_of_memory reply ≡ false
      → Stands t cached (heard t (waiting closed steps (record { query = q; judged = judged }) n made store) reply)
      (sends ++ sent_now t (waiting closed steps (record { query = q; judged = judged }) n made store)
      (record { query = q; judged = judged }) reply ∷ [])
  stand_reply [] closed n sends q true reply made store beneath few each awaits kept =
      stand_first t cached closed n sends q reply (received_value reply) made store beneath few each awaits kept refl
  stand_reply [] closed n sends q false reply made store beneath few each awaits kept =
      let no : false ≡ true = ap (λ (a : Ask). a.judged) awaits in cc
  stand_reply (f ∷ outer) closed n sends q true reply made store beneath few each awaits kept =
      stand_judged t cached f outer closed n sends q reply
      (received_value reply) made store beneath few each awaits kept refl
  stand_reply (f ∷ outer) closed n sends q false reply made store beneath few each awaits kept =
      stand_plain t cached f outer closed n sends q reply
      (received_value reply) made store beneath few each awaits kept refl

module _ (t : Terms) (cached : List EntryValue) where
  stand_waiting : (pending : Option Ask) (seeking : Option SeekingValue)
      (steps : List OpenValue) (closed : List AskedValue) (n : ℕ)
      (sends : List Sent) (made : List MadeValue) (store : List EntryValue) (ended : Option Reply) (ask : Ask)
      (reply : Reply)
      → Stand t cached pending seeking steps closed n sends made ended → pending ≡ Some ask
      → is_out_of_memory reply ≡ false
      → (let s : StateValue =
      record {
        closed =
            closed;
        steps =
            steps;
        seeking = seeking;
        pending = pending;
        sends = n;
        made = made;
        kept = store;
        ended = ended;
      } in
      Stands t cached (heard t s reply) (sends ++ sent_now t s ask reply ∷ []))
  stand_waiting _ _ _ _ _ _ _ store _ ask reply
      (Waits q steps closed n sends made beneath few awaits each) is kept =
      let same : q ≡ ask = cc in
      let s = waiting closed steps q n made store in
      subst (λ a. Stands t cached (heard t s reply) (sends ++ sent_now t s a reply ∷ [])) same
      (stand_reply t cached steps closed n sends q.query q.judged reply made store beneath few each awaits kept)
  stand_waiting _ _ _ _ _ _ _ store _ ask reply
      (Seeks k outer below closed n m before after all first made beneath h same each) is kept = cc
  stand_waiting _ _ _ _ _ _ _ store _ ask reply (Moves f outer closed n sends made beneath each) is kept = cc
  stand_waiting _ _ _ _ _ _ _ store _ ask reply (Done closed n sends made answer comes) is kept = cc

pub stand_heard : (t : Terms) (cached : List EntryValue) (s : StateValue) (sends : List Sent) (ask : Ask)
    (reply : Reply) → Stands t cached s sends
    → s.pending ≡ Some ask → is_out_of_memory reply ≡ false
    → Stands t cached (heard t s reply) (sends ++ sent_now t s ask reply ∷ [])
stand_heard t cached s sends ask reply h is kept =
    stand_waiting t cached s.pending s.seeking s.steps s.closed s.sends sends s.made s.kept s.ended ask reply h is kept
