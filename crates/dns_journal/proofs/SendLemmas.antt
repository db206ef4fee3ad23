-- A send that the multiplexer answers: the ids that are kept are those that it drew, and its refusals are those of a
-- multiplexer.
use Rattle.std.proofs.Common.{◌≡◌, ℕ, zero, suc, ◌+◌, ◌≤◌, ◌<◌, Bool, true, false, List, [], ◌∷◌, ◌++◌, length, append-nil, append_assoc, length-append, Option, None, Some, Result, Ok, Err, refl, sym, ap, ◌∙◌, subst, arith, if◌then◌else◌, inl, inr, ◌⊎◌, ⊎_elim}
use Rattle.std.specs.Prelude.{is_ok, nat_le, nat_lt}
use Rattle.std.proofs.lemmas.Bool.{false≢true, leb-true}
use Rattle.std.specs.declared.net.socket_addr.SocketAddr.{SocketAddr}
use Rattle.dns_handle.specs.declared.error.ProtoError.TheVariants as proto
use Rattle.dns_handle.specs.declared.notice.Notice.{Notice}
use Rattle.dns_handle.specs.declared.notice.Notice.TheVariants as notices
use Rattle.dns_handle.specs.Errors as seen
use Rattle.dns_handle.specs.Errors.{ErrorValue}
use Rattle.dns_multiplexer.specs.Events as mux
use Rattle.dns_multiplexer.specs.Events.{last_drawn}
use Rattle.dns_multiplexer.specs.History.{put_out}
use Rattle.dns_multiplexer.specs.Machine.{Settings, State, are_drawn, drawing_fits, is_busy, is_taken_id, most_draws, queue_reply, send_reply}
use Rattle.dns_multiplexer.specs.Brought.{TracedCore, brought_by_send}
use Rattle.dns_multiplexer.specs.Draws.{CoreValue, Drawn, IsSend, Plays}
use Rattle.dns_journal.specs.declared.recorded_draws.RecordedDraws.{RecordedDraws}
use Rattle.dns_journal.specs.declared.entry.SendRefusal.{SendRefusal}
use Rattle.dns_journal.specs.declared.entry.SendRefusal.TheVariants.{Busy, IdSpaceExhausted, TooLong, QueueFull, NoConnections}
use Rattle.dns_journal.specs.Entries.{refusal_of}
use Rattle.dns_journal.specs.Limits.{kept_in}
use Rattle.dns_journal.specs.Replays.{IdListValue, IsDrawKept, IsPlayedSend, IsUnplayedSend, refusal_in}
use Rattle.dns_journal.proofs.ReplayLemmas.{moved_by}

-- ---- the ids

abbrev pub RecordedDraw : {R : Type 0} → (R → ℕ → R → Type 0) → RecordedDraws R → ℕ → RecordedDraws R → Type 0
RecordedDraw draw old id new = draw old.draws id new.draws × IsDrawKept old.ids id new.ids

-- the generator inside drew the same
pub walk_inside : {R : Type 0} (draw : R → ℕ → R → Type 0) (from to : RecordedDraws R) (drawn : List ℕ)
    → Drawn (RecordedDraw draw) from drawn to → Drawn draw from.draws drawn to.draws
walk_inside {R} draw from to [] walked = ap (λ (r : RecordedDraws R). r.draws) walked
walk_inside draw from to (id ∷ drawn) walked =
    (walked.0.draws, walked.1.0, walk_inside draw walked.0 to drawn walked.2)

-- where there is memory for them, the ids are kept
pub ids_kept : {R : Type 0} (draw : R → ℕ → R → Type 0) (from to : RecordedDraws R) (drawn : List ℕ)
    → Drawn (RecordedDraw draw) from drawn to → length from.ids.ids + length drawn ≤ from.ids.capacity
    → to.ids.ids ≡ from.ids.ids ++ drawn
ids_kept {R} draw from to [] walked room =
    sym (ap (λ (r : RecordedDraws R). r.ids.ids) walked) ∙ sym (append-nil from.ids.ids)
ids_kept {R} draw from to (id ∷ drawn) walked room =
    let mid : RecordedDraws R = walked.0 in
    let kept : mid.ids ≡ record from.ids { ids = from.ids.ids ++ id ∷ [] } = walked.1.1 (omega (arith, room)) in
    let some : length mid.ids.ids + length drawn ≤ mid.ids.capacity =
    subst (λ (l : IdListValue). length l.ids + length drawn ≤ l.capacity) (sym kept)
    (omega (arith, room, length-append from.ids.ids (id ∷ []))) in
    ids_kept draw mid to drawn walked.2 some
    ∙ ap (λ (l : IdListValue). l.ids ++ drawn) kept
    ∙ append_assoc from.ids.ids (id ∷ []) drawn

few-case : (left : ℕ) (taken : ℕ → Bool) (id next : ℕ) (rest : List ℕ) (b : Bool)
    → (if b then are_drawn left taken (next ∷ rest) else false) ≡ true
    → (are_drawn left taken (next ∷ rest) ≡ true → length (next ∷ rest) ≤ left) → length (id ∷ next ∷ rest) ≤ suc left
few-case left taken id next rest true drawn few = let below = few drawn in omega arith
few-case left taken id next rest false drawn few = absurd (false≢true drawn)

-- a hundred ids at most
few_drawn : (left : ℕ) (taken : ℕ → Bool) (drawn : List ℕ) → are_drawn left taken drawn ≡ true → length drawn ≤ left
unfolding are_drawn
few_drawn zero taken [] is = omega arith
few_drawn zero taken (id ∷ drawn) is = absurd (false≢true is)
few_drawn (suc left) taken [] is = absurd (false≢true is)
few_drawn (suc left) taken (id ∷ []) is = omega arith
few_drawn (suc left) taken (id ∷ next ∷ rest) is =
    few-case left taken id next rest (taken id) is (few_drawn left taken (next ∷ rest))

drawing-case : (state : State) (drawn : List ℕ) (b : Bool)
    → (if b then nat_le (length drawn) 0 else are_drawn most_draws (is_taken_id state.requests) drawn) ≡ true
    → length drawn ≤ 100
drawing-case state drawn true is = let none = leb-true (length drawn) 0 is in omega arith
drawing-case state drawn false is = few_drawn 100 (is_taken_id state.requests) drawn is

pub hundred_drawn : (settings : Settings) (state : State) (drawn : List ℕ) → drawing_fits settings state drawn ≡ true
    → length drawn ≤ 100
hundred_drawn settings state drawn is = drawing-case state drawn (is_busy settings state) is

-- ---- refusals

same-refusal : (one other : SendRefusal) → Some one ≡ Some other → one ≡ other
same-refusal one other is = cc

notice-is : (notice : Notice) (refusal : SendRefusal) → refusal_in (seen.Message notice) ≡ Some refusal
    → refusal_of refusal ≡ seen.Message notice
notice-is notices.NoQueryInRequest refusal is = cc
notice-is notices.ExpiredRrsig refusal is = cc
notice-is notices.WrongDnskey refusal is = cc
notice-is notices.WrongRrsig refusal is = cc
notice-is notices.ExceededMaxValidationDepth refusal is = cc
notice-is notices.ExceededMaxNestedQueries refusal is = cc
notice-is notices.IdSpaceExhausted refusal is = ap refusal_of (same-refusal refusal IdSpaceExhausted (sym is))
notice-is notices.SendQueueFull refusal is = ap refusal_of (same-refusal refusal QueueFull (sym is))
notice-is notices.PolledAfterCompletion refusal is = cc
notice-is notices.NotAllBytesSent refusal is = cc
notice-is notices.TransferHasTrailingRecords refusal is = cc
notice-is notices.TransferIsIncremental refusal is = cc
notice-is notices.HistoryFull refusal is = cc

-- an error is the refusal that it is seen as
pub refusal_is : (error : ErrorValue) (refusal : SendRefusal) → refusal_in error ≡ Some refusal
    → refusal_of refusal ≡ error
refusal_is seen.Busy refusal is = ap refusal_of (same-refusal refusal Busy (sym is))
refusal_is (seen.Message notice) refusal is = notice-is notice refusal is
refusal_is (seen.Proto proto.TooLong) refusal is = ap refusal_of (same-refusal refusal TooLong (sym is))
refusal_is (seen.Proto (proto.Decode error)) refusal is = cc
refusal_is (seen.Dns error) refusal is = cc
refusal_is (seen.Msg text) refusal is = cc
refusal_is seen.NoConnections refusal is = cc
refusal_is (seen.Io kind) refusal is = cc
refusal_is seen.Timeout refusal is = cc
refusal_is seen.QueryCaseMismatch refusal is = cc
refusal_is (seen.ForeignClassRecord owner class rtype) refusal is = cc
refusal_is seen.Truncated refusal is = cc
refusal_is seen.NoMemory refusal is = cc

queue-refused : (settings : Settings) (state : State) (request : Option (List ℕ)) (error : ErrorValue)
    → Err error ≡ queue_reply settings state request → refusal_in error ≡ None → ⊥
queue-refused settings state None error is none = cc
queue-refused settings state (Some request) error is none =
    full-case (nat_lt settings.buffer (length state.outbound)) is
  where
    full-case : (b : Bool)
        → Err error ≡ (if b then Err (seen.Message notices.SendQueueFull) else Ok (length state.requests)) → ⊥
    full-case true h = cc
    full-case false h = cc

taken-refused : (settings : Settings) (state : State) (request : Option (List ℕ)) (error : ErrorValue) (b : Bool)
    → Err error ≡ (if b then Err (seen.Message notices.IdSpaceExhausted) else queue_reply settings state request)
    → refusal_in error ≡ None → ⊥
taken-refused settings state request error true is none = cc
taken-refused settings state request error false is none = queue-refused settings state request error is none

busy-refused : (settings : Settings) (state : State) (request : Option (List ℕ)) (drawn : List ℕ) (error : ErrorValue)
    (b : Bool)
    → Err error ≡ (if b then Err seen.Busy
    else if is_taken_id state.requests (last_drawn drawn) then Err (seen.Message notices.IdSpaceExhausted)
    else queue_reply settings state request) → refusal_in error ≡ None → ⊥
busy-refused settings state request drawn error true is none = cc
busy-refused settings state request drawn error false is none =
    taken-refused settings state request error (is_taken_id state.requests (last_drawn drawn)) is none

-- each refusal of a multiplexer's send is one of these
pub known_refusal : (settings : Settings) (state : State) (request : Option (List ℕ)) (drawn : List ℕ)
    (error : ErrorValue)
    → Err error ≡ send_reply settings state request drawn → refusal_in error ≡ None → ⊥
known_refusal settings state request drawn error is none =
    busy-refused settings state request drawn error (is_busy settings state) is none

-- ---- what is to be sent

put-few : (server : SocketAddr) (request : Option (List ℕ)) (moment : ℕ) (drawn : List ℕ) (took : Bool)
    (reply : Result ℕ ErrorValue) → length (put_out server (mux.Send request moment drawn took reply)) ≤ 1
put-few server None moment drawn took reply = omega arith
put-few server (Some bytes) moment drawn true reply = omega arith
put-few server (Some bytes) moment drawn false reply = omega arith

-- a send keeps one place more at most
pub send_grows : (request : Option (List ℕ)) (moment : ℕ) (drawn : List ℕ) (reply : Result ℕ ErrorValue)
    (old : CoreValue)
    → kept_in (moved_by (mux.Send request moment drawn (is_ok reply) reply) old) ≤ kept_in old + 1
send_grows request moment drawn reply old =
    let put = put-few old.settings.server request moment drawn (is_ok reply) reply in
    let all = length-append old.state.outbound (put_out old.settings.server
    (mux.Send request moment drawn (is_ok reply) reply)) in
    omega (arith, put, all)

-- ---- a send that is played

-- what a core's send did with a generator that keeps its ids, as a send with the generator inside
module _ {R : Type 0} (draw : R → ℕ → R → Type 0) (before from to : RecordedDraws R) where
  pub played_send : (old new : TracedCore)
      (request : Option (List ℕ)) (moment : ℕ) (drawn ids : List ℕ) (reply : Result ℕ ErrorValue)
      → from.draws ≡ before.draws → from.ids.ids ≡ [] → 100 ≤ from.ids.capacity
      → Drawn (RecordedDraw draw) from drawn to
      → Plays old.machine.settings old.machine.state new.machine.state
      (mux.Send request moment drawn (is_ok reply) reply)
      → ids ≡ to.ids.ids → new.machine ≡ record old.machine { state = new.machine.state }
      → new.brought ≡ brought_by_send reply old.brought
      → IsPlayedSend (λ xs. Drawn draw before.draws xs to.draws) old new request moment ids reply
  played_send old new request moment drawn ids reply began none room walked plays kept_ids kept brought =
      let few : length drawn ≤ 100 =
      hundred_drawn old.machine.settings old.machine.state drawn plays.answered.0 in
      let all : to.ids.ids ≡ drawn =
      ids_kept draw from to drawn walked
      (omega (arith, few, room, ap (λ (xs : List ℕ). length xs) none))
      ∙ ap (λ (xs : List ℕ). xs ++ drawn) none in
      let same : ids ≡ drawn = kept_ids ∙ all in
      record {
        walked = subst (λ (xs : List ℕ). Drawn draw before.draws xs to.draws) (sym same)
            (subst (λ (r : R). Drawn draw r drawn to.draws) began (walk_inside draw from to drawn walked));
        played = subst
            (λ (xs : List ℕ). Plays old.machine.settings old.machine.state new.machine.state
            (mux.Send request moment xs (is_ok reply) reply))
            (sym same) plays;
        kept = kept;
        brought = brought;
      }

-- a send that memory didn't refuse was played
module _ {R : Type 0} (draw : R → ℕ → R → Type 0) (before from to after : RecordedDraws R) where
  pub sent_played : (old new : TracedCore)
      (request : Option (List ℕ)) (moment : ℕ) (ids : List ℕ) (reply : Result ℕ ErrorValue)
      → from.draws ≡ before.draws → from.ids.ids ≡ [] → 100 ≤ from.ids.capacity
      → IsSend (λ xs. Drawn (RecordedDraw draw) from xs to) old.machine.settings old.machine.state new.machine.state
      request moment reply
      → (reply ≡ Err seen.NoMemory → ⊥) → ids ≡ to.ids.ids → after.draws ≡ to.draws
      → new.machine ≡ record old.machine { state = new.machine.state } → new.brought ≡ brought_by_send reply old.brought
      → IsPlayedSend (λ xs. Drawn draw before.draws xs after.draws) old new request moment ids reply
  sent_played old new request moment ids reply began none room sent some kept_ids same kept brought =
      ⊎_elim
      (λ (out : (reply ≡ Err seen.NoMemory) × (new.machine.state ≡ old.machine.state)). absurd (some out.0))
      (λ (plays : Plays old.machine.settings old.machine.state new.machine.state
      (mux.Send request moment sent.drawn (is_ok reply) reply)).
      subst (λ (r : R). IsPlayedSend (λ xs. Drawn draw before.draws xs r) old new request moment ids reply) (sym same)
      (played_send draw before from to old new request moment sent.drawn ids reply began none room sent.walked plays
      kept_ids kept brought))
      sent.played

same-error : (reply : Result ℕ ErrorValue) (one other : ErrorValue) → reply ≡ Err one → reply ≡ Err other → one ≡ other
same-error reply one other is are = cc

not-memory : (error : ErrorValue) (refusal : SendRefusal) → Some refusal ≡ refusal_in error → error ≡ seen.NoMemory → ⊥
not-memory error refusal is out = let none : Some refusal ≡ None = is ∙ ap refusal_in out in cc

-- a send that the multiplexer refused, by the refusal that its error is seen as
module _ {R : Type 0} (draw : R → ℕ → R → Type 0) (before from to after : RecordedDraws R) where
  pub sent_refused : (old new : TracedCore)
      (request : Option (List ℕ)) (moment : ℕ) (ids : List ℕ) (error : ErrorValue) (refusal : SendRefusal)
      → from.draws ≡ before.draws → from.ids.ids ≡ [] → 100 ≤ from.ids.capacity
      → IsSend (λ xs. Drawn (RecordedDraw draw) from xs to) old.machine.settings old.machine.state new.machine.state
      request moment
      (Err error) → Some refusal ≡ refusal_in error → ids ≡ to.ids.ids → after.draws ≡ to.draws
      → new.machine ≡ record old.machine { state = new.machine.state } → new.brought ≡ old.brought
      → IsPlayedSend (λ xs. Drawn draw before.draws xs after.draws) old new request moment ids
      (Err (refusal_of refusal))
  sent_refused old new request moment ids error refusal began none room sent is kept_ids same kept
      brought =
      subst (λ (e : ErrorValue). IsPlayedSend (λ xs. Drawn draw before.draws xs after.draws) old new request moment ids
      (Err e))
      (sym (refusal_is error refusal (sym is)))
      (sent_played draw before from to after old new request moment ids (Err error) began none room sent
      (λ out. not-memory error refusal is (same-error (Err error) error seen.NoMemory refl out)) kept_ids same kept
      brought)

-- one that memory refused left the core
module _ {R : Type 0} where
  pub sent_out : (draw : R → ℕ → R → Type 0) (before from to : RecordedDraws R) (old new : TracedCore)
      (request : Option (List ℕ)) (moment : ℕ) (error : ErrorValue) → from.draws ≡ before.draws
      → IsSend (λ xs. Drawn (RecordedDraw draw) from xs to) old.machine.settings old.machine.state new.machine.state
      request moment
      (Err error) → refusal_in error ≡ None → new.machine ≡ record old.machine { state = new.machine.state }
      → new.brought ≡ old.brought → IsUnplayedSend (λ xs. Drawn draw before.draws xs to.draws) old new
  sent_out draw before from to old new request moment error began sent none kept brought =
      let state : new.machine.state ≡ old.machine.state =
      ⊎_elim
      (λ (out : (Err error ≡ Err seen.NoMemory) × (new.machine.state ≡ old.machine.state)). out.1)
      (λ (plays : Plays old.machine.settings old.machine.state new.machine.state
      (mux.Send request moment sent.drawn false (Err error))).
      absurd (known_refusal old.machine.settings old.machine.state request sent.drawn error plays.answered.2 none))
      sent.played in
      let machine : new.machine ≡ old.machine = kept ∙ ap (λ (st : State). record old.machine { state = st }) state in
      record {
        drawn = sent.drawn;
        walked = subst (λ (r : R). Drawn draw r sent.drawn to.draws) began
            (walk_inside draw from to sent.drawn sent.walked);
        same = ap (λ (m : CoreValue). record new { machine = m }) machine
            ∙ ap (λ (b : List (List ℕ)). record old { brought = b }) brought;
      }
