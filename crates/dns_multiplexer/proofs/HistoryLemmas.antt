-- The law on histories: the machine's state is what the history says.
use Rattle.std.specs.declared.net.socket_addr.SocketAddr.{SocketAddr}
use Rattle.dns_handle.specs.Errors.{ErrorValue, Busy, Message}
use Rattle.dns_handle.specs.declared.notice.Notice.TheVariants.{IdSpaceExhausted, SendQueueFull}
use Rattle.std.proofs.Common.{[], append-nil, append_assoc, length-append, length-drop, inl, inr, ◌≡◌, ℕ, zero, suc, ◌+◌, ◌<◌, ◌≤◌, Bool, true, false, cond, List, ◌∷◌, ◌++◌, length, drop, Option, None, Some, Result, Ok, Err, refl, sym, ap, ◌∙◌, arith, slice_get, if◌then◌else◌, ◌⊎◌}
use Rattle.std.specs.Prelude.{◌==◌, ◌&&◌, count_by, is_some, nat_lt}
use Rattle.std.specs.Option.{option_map}
use Rattle.std.proofs.lemmas.Bool.{eqb-true, eq-eqb, ne_eqb, lt-ltb, le-ltb, cond-true, cond-false, cases_eq, cases_lt, or_parts, both_ways}
use Rattle.std.proofs.Math.ListN.{length-map}
use Rattle.dns_multiplexer.specs.Messages.{SerialMessageValue, answered_by}
use Rattle.dns_multiplexer.specs.Events.{Event, Send, Arrive, Take, Cancel, Tick, Close, Pop, last_drawn}
use Rattle.dns_multiplexer.specs.History.{Sending, sending, sending_by, with_later, is_send_of, live, live_id, id_in, brought, untaken, queued, is_cancelled, waiting, put_out, all_put_out, is_pop, outbound, most_waiting}
use Rattle.dns_multiplexer.specs.Machine.{Settings, Request, State, IsAnswered, after, lives_under, waiting_of, ticked, closed, cancelled, without_first, with_item, sent_under, after_arrival, is_taken_id, is_busy, queue_reply, has_id, with_maximum}
use Rattle.dns_model.specs.Records.{MessageValue}
use Rattle.dns_message.specs.declared.decode_error.DecodeError.{DecodeError}
use Rattle.dns_message.specs.MessageAt.{message_at}
use Rattle.dns_multiplexer.specs.declared.arrival.Arrival.{Arrival}
use Rattle.dns_multiplexer.specs.declared.arrival.Arrival.TheVariants.{Undecodable, Stranger, Full, Queued}
use Rattle.dns_multiplexer.specs.Runs.{replay, IsAnsweredThen, IsPlayed, life_of, life_at, id_at, IsToldBy}
use Rattle.dns_multiplexer.proofs.ListLemmas.{length-changed_at}
use Rattle.dns_multiplexer.proofs.HistoryWordLemmas.{gained, life_told, Agrees, live_told, id_told, under_id, one_if, nothing-gained, drop-more, count-step, untaken-more}
use Rattle.dns_multiplexer.proofs.MachineStepLemmas.{is_accepted, slice_get-append, Moved, quiet, gain-none, moved-other, unsent-waits, life-next, waits-next, given-later, given-next, lives-before, taken-next}

-- ---- what is to be sent

pub popped-first : {X : Type 0} (x : X) (xs : List X) → Some x ≡ slice_get xs 0 → 0 < length xs
popped-first x [] h = cc
popped-first x (y ∷ ys) h = omega arith

pub popped-within : (settings : Settings) (start : List SerialMessageValue) (before : List Event) (state : State)
    (agrees : Agrees settings start before state) (e : Event)
    → IsAnswered settings state e → (b : Bool) → is_pop e ≡ b
    → count_by is_pop before + one_if b ≤ length (start ++ all_put_out settings.server before)
popped-within settings start before state agrees e answered false nay = omega (arith, agrees.popped)
popped-within settings start before state agrees (Pop message) answered true pops =
    let first : 0 < length state.outbound = popped-first message state.outbound answered in
    let left = length-drop (count_by is_pop before) (start ++ all_put_out settings.server before) in
    let there = ap length agrees.outbound in
    omega (arith, first, left, there)
popped-within settings start before state agrees (Send request moment drawn t reply) answered true pops = cc
popped-within settings start before state agrees (Arrive bytes reply) answered true pops = cc
popped-within settings start before state agrees (Take k reply) answered true pops = cc
popped-within settings start before state agrees (Cancel k) answered true pops = cc
popped-within settings start before state agrees (Tick now) answered true pops = cc
popped-within settings start before state agrees (Close fault) answered true pops = cc

pub popped-next : (settings : Settings) (start : List SerialMessageValue) (before : List Event) (state : State)
    (agrees : Agrees settings start before state) (e : Event)
    → IsAnswered settings state e
    → count_by is_pop (e ∷ before) ≤ length (start ++ all_put_out settings.server (e ∷ before))
unfolding all_put_out
popped-next settings start before state agrees e answered =
    let within = popped-within settings start before state agrees e answered (is_pop e) refl in
    let more = count-step is_pop e before in
    let first = length-append start (all_put_out settings.server before ++ put_out settings.server e) in
    let second = length-append (all_put_out settings.server before) (put_out settings.server e) in
    let third = length-append start (all_put_out settings.server before) in
    rw more (omega (arith, within, first, second, third))

-- the queue after an event, by what was put out and what was popped
pub queue-next : (server : SocketAddr) (start : List SerialMessageValue) (before : List Event) (e : Event)
    (old : List SerialMessageValue)
    → old ≡ outbound server start before → count_by is_pop before ≤ length (start ++ all_put_out server before)
    → (is_pop e ≡ false) ⊎ (put_out server e ≡ [])
    → drop (one_if (is_pop e)) old ++ put_out server e ≡ outbound server start (e ∷ before)
unfolding all_put_out
queue-next server start before e old is fits alone =
    rw (is, count-step is_pop e before, sym (append_assoc start (all_put_out server before) (put_out server e)))
    (sym (drop-more (count_by is_pop before) (is_pop e) (start ++ all_put_out server before) (put_out server e) fits alone))

pub outbound-next : (settings : Settings) (start : List SerialMessageValue) (before : List Event) (state : State)
    (agrees : Agrees settings start before state) (e : Event)
    → (after settings state e).outbound ≡ outbound settings.server start (e ∷ before)
outbound-next settings start before state agrees (Send request moment drawn took reply) =
    queue-next settings.server start before (Send request moment drawn took reply) state.outbound agrees.outbound
    agrees.popped (inl refl)
outbound-next settings start before state agrees (Arrive bytes reply) =
    sym (append-nil state.outbound)
    ∙ queue-next settings.server start before (Arrive bytes reply) state.outbound agrees.outbound
    agrees.popped (inl refl)
outbound-next settings start before state agrees (Take k reply) =
    sym (append-nil state.outbound)
    ∙ queue-next settings.server start before (Take k reply) state.outbound agrees.outbound agrees.popped (inl refl)
outbound-next settings start before state agrees (Cancel k) =
    sym (append-nil state.outbound)
    ∙ queue-next settings.server start before (Cancel k) state.outbound agrees.outbound agrees.popped (inl refl)
outbound-next settings start before state agrees (Tick now) =
    sym (append-nil state.outbound)
    ∙ queue-next settings.server start before (Tick now) state.outbound agrees.outbound agrees.popped (inl refl)
outbound-next settings start before state agrees (Close fault) =
    sym (append-nil state.outbound)
    ∙ queue-next settings.server start before (Close fault) state.outbound agrees.outbound agrees.popped (inl refl)
outbound-next settings start before state agrees (Pop message) =
    sym (append-nil (drop 1 state.outbound))
    ∙ queue-next settings.server start before (Pop message) state.outbound agrees.outbound agrees.popped (inr refl)

-- ---- an event that is no accepted send

pub unaccepted : (e : Event) (number : ℕ) → is_accepted e ≡ false → is_send_of number e ≡ false
unaccepted (Send request moment drawn took (Ok k)) number nay = cc
unaccepted (Send request moment drawn took (Err error)) number nay = refl
unaccepted (Arrive bytes reply) number nay = refl
unaccepted (Take k reply) number nay = refl
unaccepted (Cancel k) number nay = refl
unaccepted (Tick now) number nay = refl
unaccepted (Close fault) number nay = refl
unaccepted (Pop message) number nay = refl

pub length-arrival : (read : Result MessageValue DecodeError) (reply : Arrival) (requests : List Request)
    → length (after_arrival read reply requests) ≡ length requests
length-arrival (Ok message) (Queued id) requests = length-changed_at id.0 (with_item (answered_by message)) requests
length-arrival (Ok message) (Undecodable error) requests = refl
length-arrival (Ok message) Stranger requests = refl
length-arrival (Ok message) Full requests = refl
length-arrival (Err error) reply requests = refl

pub length-after : (settings : Settings) (state : State) (e : Event) → is_accepted e ≡ false
    → length (after settings state e).requests ≡ length state.requests
length-after settings state (Send request moment drawn took (Ok k)) nay = cc
length-after settings state (Send request moment drawn took (Err error)) nay = refl
length-after settings state (Arrive bytes reply) nay = length-arrival (message_at bytes) reply state.requests
length-after settings state (Take k reply) nay = length-changed_at k without_first state.requests
length-after settings state (Cancel k) nay = length-changed_at k cancelled state.requests
length-after settings state (Tick now) nay = length-map state.requests (ticked settings.timeout now)
length-after settings state (Close fault) nay = length-map state.requests (closed fault)
length-after settings state (Pop message) nay = refl

module _ (settings : Settings) (start : List SerialMessageValue) (before : List Event) (state : State)
    (agrees : Agrees settings start before state) (e : Event) (nay : is_accepted e ≡ false)
    (answered : IsAnswered settings state e) where
  pub moved-at : (number : ℕ)
      → Moved settings.timeout number e (slice_get state.requests number)
      (slice_get (after settings state e).requests number)
  moved-at number = moved-other settings state e number (unaccepted e number nay) nay agrees.apart answered

  pub lived : (number id : ℕ) → lives_under id (life_at (after settings state e) number) ≡ true
      → lives_under id (life_at state number) ≡ true
  lived number id lives = lives-before settings.timeout number id e (life_at state number)
      (ap (lives_under id) (sym (moved-at number).life) ∙ lives)

  pub agrees-other : Agrees settings start (e ∷ before) (after settings state e)
  agrees-other = record {
    given = λ number. given-next before e number (unaccepted e number nay) ∙ agrees.given number
        ∙ ap (nat_lt number) (sym (length-after settings state e nay));
    life = λ number. life-next settings start before state agrees e number (unaccepted e number nay) _
        (moved-at number);
    waiting = λ number. waits-next settings start before state agrees e number (unaccepted e number nay) _
        (moved-at number);
    taken = λ number. taken-next settings start before state agrees e number answered;
    outbound = outbound-next settings start before state agrees e;
    popped = popped-next settings start before state agrees e answered;
    apart = λ id m n first second. agrees.apart id m n (lived m id first) (lived n id second);
  }

-- ---- an accepted send

pub record Accepted (settings : Settings) (state : State) (drawn : List ℕ) (k : ℕ) : Type 0 where
  pub free : is_taken_id state.requests (last_drawn drawn) ≡ false
  pub next : k ≡ length state.requests

abbrev pub accepts : ℕ → Result ℕ ErrorValue
accepts number = Ok number

pub ok-inj : (a b : ℕ) → accepts a ≡ accepts b → a ≡ b
ok-inj a b h = cc

pub accepted-queue : (settings : Settings) (state : State) (request : Option (List ℕ)) (k : ℕ)
    → Ok k ≡ queue_reply settings state request → k ≡ length state.requests
accepted-queue settings state None k is = cc
accepted-queue settings state (Some bytes) k is = queue-case (nat_lt settings.buffer (length state.outbound)) is
  where
    queue-case : (b : Bool) → Ok k ≡ (if b then Err (Message SendQueueFull) else Ok (length state.requests))
        → k ≡ length state.requests
    queue-case true h = cc
    queue-case false h = ok-inj k (length state.requests) h

pub accepted-case : (settings : Settings) (state : State) (request : Option (List ℕ)) (drawn : List ℕ) (k : ℕ)
    (busy taken : Bool)
    → is_taken_id state.requests (last_drawn drawn) ≡ taken
    → Ok k ≡ (if busy then Err Busy else if taken then Err (Message IdSpaceExhausted) else queue_reply settings state request)
    → Accepted settings state drawn k
accepted-case settings state request drawn k true taken is h = cc
accepted-case settings state request drawn k false true is h = cc
accepted-case settings state request drawn k false false is h = record
    { free = is; next = accepted-queue settings state request k h }

pub untaken-id : (id : ℕ) (requests : List Request) (n : ℕ) → is_taken_id requests id ≡ false
    → lives_under id (life_of (slice_get requests n)) ≡ false
untaken-id id [] n free = refl
untaken-id id (r ∷ rs) zero free = (or_parts (has_id id r) (is_taken_id rs id) free).0
untaken-id id (r ∷ rs) (suc n) free = untaken-id id rs n (or_parts (has_id id r) (is_taken_id rs id) free).1

pub one-longer : (k n : ℕ) (d : (k ≡ n) ⊎ (k ≡ n → ⊥)) → nat_lt n (k + 1) ≡ cond (k == n) true (nat_lt n k)
one-longer k n (inl same) = rw (eq-eqb k n same) (lt-ltb n (k + 1) (omega (arith, same)))
one-longer k n (inr apart) = rw (ne_eqb k n apart) (below-case (cases_lt n k))
  where
    below-case : (n < k) ⊎ (k ≤ n) → nat_lt n (k + 1) ≡ nat_lt n k
    below-case (inl below) = lt-ltb n (k + 1) (omega (arith, below)) ∙ sym (lt-ltb n k below)
    below-case (inr above) = le-ltb n (k + 1) (omega (arith, above, apart)) ∙ sym (le-ltb n k above)

module _ (settings : Settings) (start : List SerialMessageValue) (before : List Event) (state : State)
    (agrees : Agrees settings start before state)
    (request : Option (List ℕ)) (moment : ℕ) (drawn : List ℕ) (took : Bool) (k : ℕ)
    (accepted : Accepted settings state drawn k)
    (answered : IsAnswered settings state (Send request moment drawn took (Ok k))) where
  abbrev it : Event
  it = Send request moment drawn took (Ok k)

  abbrev new : List Request
  new = state.requests ++ sent_under (last_drawn drawn) moment ∷ []

  -- the new request, and the others
  pub new-at : (n : ℕ) → slice_get new n ≡ cond (k == n) (Some (sent_under (last_drawn drawn) moment))
      (slice_get state.requests n)
  new-at n = slice_get-append state.requests (sent_under (last_drawn drawn) moment) n
      ∙ ap (λ m. cond (m == n) (Some (sent_under (last_drawn drawn) moment)) (slice_get state.requests n))
      (sym accepted.next)

  pub old-moved : (n : ℕ) → Moved settings.timeout n it (slice_get state.requests n) (slice_get state.requests n)
  old-moved n = quiet settings.timeout n it (slice_get state.requests n) (λ m. refl) refl refl
      (gain-none it (life_at state n) (waiting_of (slice_get state.requests n)) (λ id. refl))

  -- it wasn't given out before
  pub fresh : sending before k ≡ None
  fresh = none-case (sending before k)
      (agrees.given k ∙ le-ltb k (length state.requests) (omega (arith, accepted.next)))
    where
      none-case : (s : Option Sending) → is_some s ≡ false → s ≡ None
      none-case None h = refl
      none-case (Some s) h = cc

  pub sent-given : (n : ℕ) → is_some (sending (it ∷ before) n) ≡ cond (k == n) true (is_some (sending before n))
  unfolding sending
  sent-given n = given-case (k == n)
    where
      given-case : (b : Bool)
          → is_some (if b then Some (sending_by it) else option_map (with_later it) (sending before n)) ≡ cond b
          true (is_some (sending before n))
      given-case true = refl
      given-case false = given-later it (sending before n)

  pub send-given : (n : ℕ) → is_some (sending (it ∷ before) n) ≡ nat_lt n (length new)
  send-given n =
      sent-given n ∙ ap (cond (k == n) true) (agrees.given n)
      ∙ ap (λ m. cond (k == n) true (nat_lt n m)) (sym accepted.next) ∙ sym (one-longer k n (cases_eq k n))
      ∙ ap (nat_lt n) (ap (λ m. m + 1) accepted.next ∙ sym (length-append state.requests (sent_under (last_drawn drawn) moment ∷ [])))

  pub send-life : (n : ℕ) (d : (k ≡ n) ⊎ (k ≡ n → ⊥))
      → life_of (slice_get new n) ≡ life_told settings.timeout n (sending (it ∷ before) n)
  unfolding sending
  send-life n (inl same) = rw (new-at n, eq-eqb k n same) refl
  send-life n (inr other) =
      ap life_of (new-at n ∙ cond-false (k == n) _ _ (ne_eqb k n other))
      ∙ life-next settings start before state agrees it n (ne_eqb k n other) (slice_get state.requests n)
      (old-moved n)

  pub sending-here : sending (it ∷ before) k ≡ Some (sending_by it)
  unfolding sending
  sending-here = cond-true (is_send_of k it) (Some (sending_by it))
      (option_map (with_later it) (sending before k)) (eq-eqb k k refl)

  pub none-left : untaken (it ∷ before) k (queued settings.timeout (it ∷ before) k) ≡ []
  none-left =
      let empty = unsent-waits settings start before state agrees (Tick 0) k refl None fresh refl in
      let none : untaken before k (queued settings.timeout before k) ≡ [] = (rw fresh refl) ∙ empty in
      untaken-more settings.timeout k it before (agrees.taken k)
      ∙ ap (λ xs. drop 0 xs ++ gained settings.timeout k it before) none
      ∙ nothing-gained (live settings.timeout before k
      && nat_lt (length (untaken before k (queued settings.timeout before k))) most_waiting)
      (brought (id_in (sending before k)) it) refl

  pub nothing-yet : waiting settings.timeout (it ∷ before) k ≡ []
  nothing-yet =
      ap (λ o. if is_cancelled k o then [] else untaken (it ∷ before) k (queued settings.timeout (it ∷ before) k)) sending-here ∙ none-left

  pub send-waits : (n : ℕ) (d : (k ≡ n) ⊎ (k ≡ n → ⊥))
      → waiting_of (slice_get new n) ≡ waiting settings.timeout (it ∷ before) n
  send-waits n (inl same) = rw (new-at n, eq-eqb k n same)
      (sym (ap (waiting settings.timeout (it ∷ before)) (sym same) ∙ nothing-yet))
  send-waits n (inr other) =
      ap waiting_of (new-at n ∙ cond-false (k == n) _ _ (ne_eqb k n other))
      ∙ waits-next settings start before state agrees it n (ne_eqb k n other) (slice_get state.requests n)
      (old-moved n)

  pub new-lives : (id n : ℕ) (d : (k ≡ n) ⊎ (k ≡ n → ⊥)) → lives_under id (life_of (slice_get new n)) ≡ true
      → ((k ≡ n) × (last_drawn drawn ≡ id)) ⊎ (lives_under id (life_at state n) ≡ true)
  new-lives id n (inl same) lives = inl (same, eqb-true (last_drawn drawn) id (rw (new-at n, eq-eqb k n same) at lives))
  new-lives id n (inr other) lives = inr (rw (new-at n, ne_eqb k n other) at lives)

  pub send-apart : (id m n : ℕ) → ((k ≡ m) × (last_drawn drawn ≡ id)) ⊎ (lives_under id (life_at state m) ≡ true)
      → ((k ≡ n) × (last_drawn drawn ≡ id)) ⊎ (lives_under id (life_at state n) ≡ true) → m ≡ n
  send-apart id m n (inl first) (inl second) = sym first.0 ∙ second.0
  send-apart id m n (inl first) (inr lives) = absurd
      (both_ways _ (untaken-id (last_drawn drawn) state.requests n accepted.free) (rw (sym first.1) at lives))
  send-apart id m n (inr lives) (inl second) = absurd
      (both_ways _ (untaken-id (last_drawn drawn) state.requests m accepted.free) (rw (sym second.1) at lives))
  send-apart id m n (inr first) (inr second) = agrees.apart id m n first second

  pub agrees-sent : Agrees settings start (it ∷ before) (after settings state it)
  agrees-sent = record {
    given = send-given;
    life = λ n. send-life n (cases_eq k n);
    waiting = λ n. send-waits n (cases_eq k n);
    taken = λ n. taken-next settings start before state agrees it n answered;
    outbound = outbound-next settings start before state agrees it;
    popped = popped-next settings start before state agrees it answered;
    apart = λ id m n first second. send-apart id m n (new-lives id m (cases_eq k m) first)
        (new-lives id n (cases_eq k n) second);
  }

-- ---- every history

abbrev pub no_requests : List Request
no_requests = []

pub nothing-lives : (id n : ℕ) → lives_under id (life_of (slice_get no_requests n)) ≡ true → ⊥
nothing-lives id n h = cc

pub agrees-start : (settings : Settings) (start : List SerialMessageValue)
    → Agrees settings start [] (replay settings start [])
unfolding replay sending queued all_put_out
agrees-start settings start = record {
  given = λ n. sym (le-ltb n 0 (omega arith));
  life = λ n. refl;
  waiting = λ n. refl;
  taken = λ n. omega arith;
  outbound = sym (append-nil start);
  popped = omega arith;
  apart = λ id m n first second. absurd (nothing-lives id m first);
}

pub agrees-next : (settings : Settings) (start : List SerialMessageValue) (before : List Event) (state : State) (e : Event)
    → Agrees settings start before state → IsAnswered settings state e
    → Agrees settings start (e ∷ before) (after settings state e)
agrees-next settings start before state (Send request moment drawn took (Ok k)) agrees answered =
    agrees-sent settings start before state agrees request moment drawn took k
    (accepted-case settings state request drawn k (is_busy settings state) (is_taken_id state.requests (last_drawn drawn))
    refl answered.2) answered
agrees-next settings start before state (Send request moment drawn took (Err error)) agrees
    answered = agrees-other settings start before state agrees (Send request moment drawn took (Err error)) refl
    answered
agrees-next settings start before state (Arrive bytes reply) agrees answered = agrees-other settings start before
    state agrees (Arrive bytes reply) refl answered
agrees-next settings start before state (Take k reply) agrees answered = agrees-other settings start before state
    agrees (Take k reply) refl answered
agrees-next settings start before state (Cancel k) agrees answered = agrees-other settings start before state
    agrees (Cancel k) refl answered
agrees-next settings start before state (Tick now) agrees answered = agrees-other settings start before state
    agrees (Tick now) refl answered
agrees-next settings start before state (Close fault) agrees answered = agrees-other settings start before state
    agrees (Close fault) refl answered
agrees-next settings start before state (Pop message) agrees answered = agrees-other settings start before state
    agrees (Pop message) refl answered

-- what a history says doesn't speak of the number of live requests
pub agrees-anew : (settings : Settings) (start : List SerialMessageValue) (history : List Event) (state : State)
    (maximum : ℕ)
    → Agrees settings start history state → Agrees (with_maximum maximum settings) start history state
agrees-anew settings start history state maximum agrees = record {
  given = agrees.given;
  life = agrees.life;
  waiting = agrees.waiting;
  taken = agrees.taken;
  outbound = agrees.outbound;
  popped = agrees.popped;
  apart = agrees.apart;
}

pub agrees-back : (settings : Settings) (start : List SerialMessageValue) (history : List Event) (state : State)
    (maximum : ℕ)
    → Agrees (with_maximum maximum settings) start history state → Agrees settings start history state
agrees-back settings start history state maximum agrees = record {
  given = agrees.given;
  life = agrees.life;
  waiting = agrees.waiting;
  taken = agrees.taken;
  outbound = agrees.outbound;
  popped = agrees.popped;
  apart = agrees.apart;
}

-- nor does what an event leaves
pub after-anew : (settings : Settings) (state : State) (maximum : ℕ) (e : Event)
    → after (with_maximum maximum settings) state e ≡ after settings state e
after-anew settings state maximum (Send request moment drawn took reply) = refl
after-anew settings state maximum (Arrive bytes reply) = refl
after-anew settings state maximum (Take k reply) = refl
after-anew settings state maximum (Cancel k) = refl
after-anew settings state maximum (Tick now) = refl
after-anew settings state maximum (Close fault) = refl
after-anew settings state maximum (Pop message) = refl

pub agrees-then : (settings : Settings) (start : List SerialMessageValue) (before : List Event) (state : State)
    (e : Event)
    → Agrees settings start before state → IsAnsweredThen settings state e
    → Agrees settings start (e ∷ before) (after settings state e)
agrees-then settings start before state e agrees answered =
    let set = with_maximum answered.maximum settings in
    let next : Agrees set start (e ∷ before) (after set state e) =
    agrees-next set start before state e (agrees-anew settings start before state answered.maximum agrees)
    answered.answered in
    agrees-back settings start (e ∷ before) (after settings state e) answered.maximum
    (rw (after-anew settings state answered.maximum e) at next)

pub agrees-always : (settings : Settings) (start : List SerialMessageValue) (history : List Event)
    → IsPlayed settings start history → Agrees settings start history (replay settings start history)
unfolding replay IsPlayed
agrees-always settings start [] played = agrees-start settings start
agrees-always settings start (e ∷ before) played = agrees-then settings start before
    (replay settings start before) e (agrees-always settings start before played.0) played.1

-- the id under which a request is live
module _ (settings : Settings) (start : List SerialMessageValue) (history : List Event) (state : State)
    (agrees : Agrees settings start history state) where
  pub told-id : (n : ℕ) → id_at state n ≡ live_id settings.timeout history n
  told-id n = ap (option_map (λ l. l.id)) (agrees.life n) ∙ id_told settings.timeout n (sending history n)

  pub told-under : (id n : ℕ) → live_id settings.timeout history n ≡ Some id → lives_under id (life_at state n) ≡ true
  told-under id n lives = under_id id (life_at state n) (told-id n ∙ lives)

-- the law: the state after a history is what the history says
pub told_by_history : (settings : Settings) (start : List SerialMessageValue) (history : List Event)
    → IsPlayed settings start history → IsToldBy settings start history (replay settings start history)
told_by_history settings start history played =
    let state = replay settings start history in
    let agrees = agrees-always settings start history played in
    record {
      live = λ n. ap is_some (agrees.life n) ∙ sym (live_told settings.timeout n (sending history n));
      id = told-id settings start history state agrees;
      waiting = agrees.waiting;
      outbound = agrees.outbound;
      apart = λ id m n first second. agrees.apart id m n (told-under settings start history state agrees id m first)
          (told-under settings start history state agrees id n second);
    }
