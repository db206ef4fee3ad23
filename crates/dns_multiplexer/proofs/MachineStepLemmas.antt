-- What one event changes in the machine, and that it is what the history says.
use Rattle.dns_handle.specs.Errors.{Reply}
use Rattle.std.proofs.Common.{[], append-nil, length-append, inl, inr, ◌≡◌, ℕ, zero, suc, ◌+◌, ◌<◌, ◌≤◌, Bool, true, false, cond, List, ◌∷◌, ◌++◌, map, length, drop, Option, None, Some, Result, Ok, Err, refl, sym, ap, ◌∙◌, arith, slice_get, if◌then◌else◌, ◌⊎◌}
use Rattle.std.specs.Prelude.{◌==◌, ◌&&◌, count_by, is_some, nat_lt}
use Rattle.std.specs.List.{position_from}
use Rattle.std.specs.Option.{option_map}
use Rattle.std.proofs.lemmas.Bool.{eqb-true, eqb-false, eq-eqb, ne_eqb, ltb-false, lt-ltb, le-ltb, le-leb, lt-leb, cond-false, cases_eq, cases_lt, false_from_ne_true}
use Rattle.std.proofs.lemmas.Option.{slice_get_past, slice_get-map}
use Rattle.dns_multiplexer.specs.Messages.{SerialMessageValue, answered_by}
use Rattle.dns_multiplexer.specs.Events.{TakenValue, Event, Send, Arrive, Take, Cancel, Tick, Close, Pop, Item, Pending, Ended}
use Rattle.dns_multiplexer.specs.History.{Sending, sending, sending_by, with_later, is_send_of, is_ended_by, response_under, brought, has_taken, untaken, queued, is_cancel_of, is_cancelled, waiting, outbound}
use Rattle.dns_multiplexer.specs.Machine.{Settings, Life, Request, State, IsAnswered, after, lives_under, waiting_of, still_living, ticked, closed, with_fault, cancelled, without_first, with_item, after_arrival, has_id, has_room, taken_from, first_or_end, arrival_reply, reply_at}
use Rattle.dns_model.specs.Records.{MessageValue}
use Rattle.dns_message.specs.declared.decode_error.DecodeError.{DecodeError}
use Rattle.dns_message.specs.MessageAt.{message_at}
use Rattle.dns_multiplexer.specs.declared.arrival.Arrival.{Arrival}
use Rattle.dns_multiplexer.specs.declared.arrival.Arrival.TheVariants.{Undecodable, Stranger, Full, Queued}
use Rattle.dns_handle.specs.declared.io_kind.IoKind.{IoKind}
use Rattle.dns_multiplexer.specs.Runs.{life_of, life_at}
use Rattle.dns_multiplexer.proofs.ListLemmas.{choose_other, suc_same, get-changed_at, position_is}
use Rattle.dns_multiplexer.proofs.HistoryWordLemmas.{gained, life_told, Agrees, life_after, told-later, gain, one_if, waits_after, nothing-gained, count-step, nothing, waits-later}

-- ---- one event more, in the machine

-- an accepted send
abbrev pub is_accepted : Event → Bool
is_accepted (Send request moment drawn took (Ok number)) = true
is_accepted _ = false

pub slice_get-append : {X : Type 0} (xs : List X) (x : X) (n : ℕ)
    → slice_get (xs ++ x ∷ []) n ≡ cond (length xs == n) (Some x) (slice_get xs n)
slice_get-append [] x zero = refl
slice_get-append [] x (suc n) = sym (choose_other 0 (suc n) (Some x) None (λ same. omega (arith, same)))
slice_get-append (y ∷ ys) x zero = sym
    (choose_other (suc (length ys)) 0 (Some x) (Some y) (λ same. omega (arith, same)))
slice_get-append (y ∷ ys) x (suc n) = slice_get-append ys x n
    ∙ ap (λ b. cond b (Some x) (slice_get ys n)) (sym (suc_same (length ys) n))

-- lives and what waits, of one request
pub record Moved (t : ℕ) (number : ℕ) (e : Event) (old new : Option Request) : Type 0 where
  pub life : life_of new ≡ life_after t number e (life_of old)
  pub waiting : waiting_of new ≡ waits_after number e (life_of old) (waiting_of old)

pub same-life : (t number : ℕ) (e : Event) (life : Option Life)
    → ((moment : ℕ) → is_ended_by t number moment e ≡ false) → life ≡ life_after t number e life
same-life t number e None stays = refl
same-life t number e (Some life) stays = rw (stays life.moment) refl

-- an event that neither ends nor brings nor takes
pub quiet : (t number : ℕ) (e : Event) (old : Option Request)
    → ((moment : ℕ) → is_ended_by t number moment e ≡ false) → is_cancel_of number e ≡ false
    → has_taken number e ≡ false
    → gain e (life_of old) (waiting_of old) ≡ [] → Moved t number e old old
quiet t number e old stays kept untook nothing = record {
  life = same-life t number e (life_of old) stays;
  waiting = rw (kept, untook, nothing) (sym (append-nil (waiting_of old)));
}

-- a change of one request and none of the others
pub at-place : (t number k : ℕ) (e : Event) (old : Option Request) (change : Request → Request)
    → (k ≡ number → Moved t number e old (option_map change old))
    → ((k ≡ number → ⊥) → Moved t number e old old) → (d : (k ≡ number) ⊎ (k ≡ number → ⊥))
    → Moved t number e old (cond (k == number) (option_map change old) old)
at-place t number k e old change here there (inl same) = rw (eq-eqb k number same) (here same)
at-place t number k e old change here there (inr apart) = rw (ne_eqb k number apart) (there apart)

pub gain-none : (e : Event) (life : Option Life) (items : List Reply) → ((id : Option ℕ) → brought id e ≡ [])
    → gain e life items ≡ []
gain-none e life items nothing = nothing-gained (is_some life && has_room items)
    (brought (option_map (λ l. l.id) life) e) (nothing (option_map (λ l. l.id) life))

-- a take
pub take-here : (t number : ℕ) (old : Option Request) (reply : TakenValue) → reply ≡ taken_from old
    → Moved t number (Take number reply) old (option_map without_first old)
take-here t number None reply is = rw is (quiet t number (Take number Ended) None (λ moment. refl) refl refl refl)
take-here t number (Some request) reply is = take-case request.waiting refl (is_some request.life) reply is
  where
    take-case : (items : List Reply) → request.waiting ≡ items → (b : Bool) (r : TakenValue)
        → r ≡ first_or_end b request.waiting
        → Moved t number (Take number r) (Some request) (Some (without_first request))
    take-case [] none true r h = rw (h, none)
        (record {
          life = same-life t number (Take number Pending) request.life (λ moment. refl);
          waiting = sym (gain-none (Take number Pending) request.life [] (λ id. refl));
        })
    take-case [] none false r h = rw (h, none)
        (record {
          life = same-life t number (Take number Ended) request.life (λ moment. refl);
          waiting = sym (gain-none (Take number Ended) request.life [] (λ id. refl));
        })
    take-case (x ∷ xs) some b r h = rw (h, some)
        (record {
          life = same-life t number (Take number (Item x)) request.life (λ moment. refl);
          waiting = rw (eq-eqb number number refl, gain-none (Take number (Item x)) request.life (x ∷ xs) (λ id. refl))
              (sym (append-nil xs));
        })

pub take-other : (t number k : ℕ) (old : Option Request) (reply : TakenValue) → (k ≡ number → ⊥)
    → Moved t number (Take k reply) old old
take-other t number k old (Item x) apart = quiet t number (Take k (Item x)) old (λ moment. refl) refl
    (ne_eqb k number apart) (gain-none (Take k (Item x)) (life_of old) (waiting_of old) (λ id. refl))
take-other t number k old Pending apart = quiet t number (Take k Pending) old (λ moment. refl) refl refl
    (gain-none (Take k Pending) (life_of old) (waiting_of old) (λ id. refl))
take-other t number k old Ended apart = quiet t number (Take k Ended) old (λ moment. refl) refl refl
    (gain-none (Take k Ended) (life_of old) (waiting_of old) (λ id. refl))

-- a cancel
pub ended-life : (t number : ℕ) (e : Event) (life : Option Life)
    → ((moment : ℕ) → is_ended_by t number moment e ≡ true) → None ≡ life_after t number e life
ended-life t number e None over = refl
ended-life t number e (Some life) over = rw (over life.moment) refl

pub cancel-here : (t number : ℕ) (old : Option Request) → Moved t number (Cancel number) old (option_map cancelled old)
cancel-here t number None = record { life = refl; waiting = rw (eq-eqb number number refl) refl }
cancel-here t number (Some request) = record {
  life = ended-life t number (Cancel number) request.life (λ moment. eq-eqb number number refl);
  waiting = rw (eq-eqb number number refl) refl;
}

pub cancel-other : (t number k : ℕ) (old : Option Request) → (k ≡ number → ⊥) → Moved t number (Cancel k) old old
cancel-other t number k old apart =
    quiet t number (Cancel k) old (λ moment. ne_eqb k number apart) (ne_eqb k number apart) refl
    (gain-none (Cancel k) (life_of old) (waiting_of old) (λ id. refl))

-- a tick
pub living-case : (t number now : ℕ) (life : Life) (d : (now < life.moment + t) ⊎ (life.moment + t ≤ now))
    → still_living t now (Some life) ≡ life_after t number (Tick now) (Some life)
living-case t number now life (inl before) = rw
    (lt-ltb now (life.moment + t) before, lt-leb (life.moment + t) now before) refl
living-case t number now life (inr after) = rw
    (le-ltb now (life.moment + t) after, le-leb (life.moment + t) now after) refl

pub living : (t number now : ℕ) (life : Option Life) → still_living t now life ≡ life_after t number (Tick now) life
living t number now None = refl
living t number now (Some life) = living-case t number now life (cases_lt now (life.moment + t))

pub tick-moved : (t number now : ℕ) (old : Option Request) → Moved t number (Tick now) old (option_map (ticked t now) old)
tick-moved t number now None = record { life = refl; waiting = refl }
tick-moved t number now (Some request) = record {
  life = living t number now request.life;
  waiting = rw (gain-none (Tick now) request.life request.waiting (λ id. refl)) (sym (append-nil request.waiting));
}

-- a close
pub fault-case : (fault : IoKind) (life : Option Life) (items : List Reply) (b : Bool) → has_room items ≡ b
    → with_fault fault life items ≡ items ++ gain (Close fault) life items
fault-case fault None items b room = sym (append-nil items)
fault-case fault (Some life) items true room = rw room refl
fault-case fault (Some life) items false room = rw room (sym (append-nil items))

pub close-moved : (t number : ℕ) (fault : IoKind) (old : Option Request)
    → Moved t number (Close fault) old (option_map (closed fault) old)
close-moved t number fault None = record { life = refl; waiting = refl }
close-moved t number fault (Some request) = record {
  life = ended-life t number (Close fault) request.life (λ moment. refl);
  waiting = fault-case fault request.life request.waiting _ refl;
}

-- ---- an arrival in the machine

pub undecoded : (id : Option ℕ) (error : DecodeError) → response_under id (Err error) ≡ []
undecoded None error = refl
undecoded (Some id) error = refl

pub some-inj : (a b : ℕ) → Some a ≡ Some b → a ≡ b
some-inj a b h = cc

-- where the first live request with an id stands
pub record Found (id k a : ℕ) (requests : List Request) : Type 0 where
  pub place : ℕ
  pub at : k ≡ a + place
  pub lives : lives_under id (life_of (slice_get requests place)) ≡ true

pub found-step : (id k a : ℕ) (r : Request) (rs : List Request) → Found id k (a + 1) rs → Found id k a (r ∷ rs)
found-step id k a r rs found = record { place = suc found.place; at = omega (arith, found.at); lives = found.lives }

pub found-case : (id k a : ℕ) (r : Request) (rs : List Request) (b : Bool) → has_id id r ≡ b
    → cond b (Some a) (position_from (has_id id) (a + 1) rs) ≡ Some k
    → (position_from (has_id id) (a + 1) rs ≡ Some k → Found id k (a + 1) rs) → Found id k a (r ∷ rs)
found-case id k a r rs true h is more = record { place = 0; at = omega (arith, some-inj a k is); lives = h }
found-case id k a r rs false h is more = found-step id k a r rs (more is)

pub found_at : (id k a : ℕ) (rs : List Request) → position_from (has_id id) a rs ≡ Some k → Found id k a rs
found_at id k a [] is = cc
found_at id k a (r ∷ rs) is = found-case id k a r rs (has_id id r) refl is (found_at id k (a + 1) rs)

pub unfound-case : (id a : ℕ) (r : Request) (rs : List Request) (b : Bool) → has_id id r ≡ b
    → cond b (Some a) (position_from (has_id id) (a + 1) rs) ≡ None
    → (position_from (has_id id) (a + 1) rs ≡ None → (n : ℕ) → lives_under id (life_of (slice_get rs n)) ≡ false)
    → (n : ℕ) → lives_under id (life_of (slice_get (r ∷ rs) n)) ≡ false
unfound-case id a r rs true h is more n = cc
unfound-case id a r rs false h is more zero = h
unfound-case id a r rs false h is more (suc n) = more is n

pub unfound : (id a : ℕ) (rs : List Request) → position_from (has_id id) a rs ≡ None → (n : ℕ)
    → lives_under id (life_of (slice_get rs n)) ≡ false
unfound id a [] is n = refl
unfound id a (r ∷ rs) is n = unfound-case id a r rs (has_id id r) refl is (unfound id (a + 1) rs) n

-- a message for another request brings nothing
pub other-case : (life : Life) (message : MessageValue) (d : (message.id ≡ life.id) ⊎ (message.id ≡ life.id → ⊥))
    → lives_under message.id (Some life) ≡ false → response_under (Some life.id) (Ok message) ≡ []
other-case life message (inl same) not_it = absurd (eqb-false life.id message.id not_it (sym same))
other-case life message (inr apart) not_it = rw (ne_eqb message.id life.id apart) refl

pub other-gain : (life : Option Life) (items : List Reply) (message : MessageValue) → lives_under message.id life ≡ false
    → (if is_some life && has_room items then response_under (option_map (λ l. l.id) life) (Ok message) else []) ≡ []
other-gain None items message not_it = refl
other-gain (Some life) items message not_it = nothing-gained (has_room items) _
    (other-case life message (cases_eq message.id life.id) not_it)

pub own-case : (life : Life) (message : MessageValue) → life.id ≡ message.id
    → response_under (Some life.id) (Ok message) ≡ answered_by message ∷ []
own-case life message same = rw (eq-eqb message.id life.id (sym same)) refl

pub own-gain : (life : Option Life) (items : List Reply) (message : MessageValue)
    → lives_under message.id life ≡ true → has_room items ≡ true
    → (if is_some life && has_room items then response_under (option_map (λ l. l.id) life) (Ok message) else []) ≡ answered_by message ∷ []
own-gain None items message own room = cc
own-gain (Some life) items message own room = rw room (own-case life message (eqb-true life.id message.id own))

pub full-gain : (life : Option Life) (items : List Reply) (xs : List Reply) → has_room items ≡ false
    → (if is_some life && has_room items then xs else []) ≡ []
full-gain None items xs full = refl
full-gain (Some life) items xs full = rw full refl

module _ (t number : ℕ) (bytes : List ℕ) (requests : List Request)
    (apart : (id m n : ℕ) → lives_under id (life_of (slice_get requests m)) ≡ true
    → lives_under id (life_of (slice_get requests n)) ≡ true → m ≡ n) where
  -- nothing changes, and nothing is brought
  pub arrive-quiet : (reply : Arrival)
      → gain (Arrive bytes reply) (life_of (slice_get requests number)) (waiting_of (slice_get requests number)) ≡ []
      → Moved t number (Arrive bytes reply) (slice_get requests number) (slice_get requests number)
  arrive-quiet reply nothing = quiet t number (Arrive bytes reply) (slice_get requests number) (λ moment. refl)
      refl refl nothing

  -- a request that another one's message passes by
  pub passed-by : (message : MessageValue) → message_at bytes ≡ Ok message → (k : ℕ)
      → lives_under message.id (life_of (slice_get requests k)) ≡ true → (k ≡ number → ⊥) → (reply : Arrival)
      → gain (Arrive bytes reply) (life_of (slice_get requests number)) (waiting_of (slice_get requests number)) ≡ []
  passed-by message is k lives other reply =
      rw is (other-gain (life_of (slice_get requests number)) (waiting_of (slice_get requests number)) message
      (false_from_ne_true (lives_under message.id (life_of (slice_get requests number)))
      (λ own. other (apart message.id k number lives own))))

  pub with-item-moved : (message : MessageValue) (reply : Arrival) → message_at bytes ≡ Ok message
      → (old : Option Request) → lives_under message.id (life_of old) ≡ true → has_room (waiting_of old) ≡ true
      → Moved t number (Arrive bytes reply) old (option_map (with_item (answered_by message)) old)
  with-item-moved message reply is None lives room = cc
  with-item-moved message reply is (Some request) lives room = record {
    life = same-life t number (Arrive bytes reply) request.life (λ moment. refl);
    waiting = rw (is, own-gain request.life request.waiting message lives room) refl;
  }

  pub arrive-held : (message : MessageValue) → message_at bytes ≡ Ok message → (k : ℕ)
      → lives_under message.id (life_of (slice_get requests k)) ≡ true
      → (b : Bool) → has_room (waiting_of (slice_get requests k)) ≡ b → (d : (k ≡ number) ⊎ (k ≡ number → ⊥))
      → Moved t number (Arrive bytes (if b then Queued (record { 0 = k }) else Full)) (slice_get requests number)
      (slice_get (after_arrival (Ok message) (if b then Queued (record { 0 = k }) else Full) requests) number)
  arrive-held message is k lives true room d =
      rw (get-changed_at k number (with_item (answered_by message)) requests)
      (at-place t number k (Arrive bytes (Queued (record { 0 = k }))) (slice_get requests number) (with_item (answered_by message))
      (λ same. with-item-moved message (Queued (record { 0 = k })) is (slice_get requests number) (rw same at lives) (rw same at room))
      (λ other. arrive-quiet (Queued (record { 0 = k })) (passed-by message is k lives other (Queued (record { 0 = k })))) d)
  arrive-held message is k lives false full (inl same) =
      arrive-quiet Full (full-gain (life_of (slice_get requests number)) (waiting_of (slice_get requests number)) _ (rw same at full))
  arrive-held message is k lives false full (inr other) = arrive-quiet Full (passed-by message is k lives other Full)

  pub arrive-decoded : (message : MessageValue) → message_at bytes ≡ Ok message → (p : Option ℕ)
      → position_from (has_id message.id) 0 requests ≡ p
      → Moved t number (Arrive bytes (reply_at requests p)) (slice_get requests number)
      (slice_get (after_arrival (Ok message) (reply_at requests p) requests) number)
  arrive-decoded message is None none =
      arrive-quiet Stranger
      (rw is (other-gain (life_of (slice_get requests number)) (waiting_of (slice_get requests number)) message
      (unfound message.id 0 requests none number)))
  arrive-decoded message is (Some k) some =
      let found = found_at message.id k 0 requests some in
      let place : found.place ≡ k = omega (arith, found.at) in
      let lives : lives_under message.id (life_of (slice_get requests k)) ≡ true = ap
      (λ n. lives_under message.id (life_of (slice_get requests n))) (sym place) ∙ found.lives in
      arrive-held message is k lives _ refl (cases_eq k number)

  pub arrive-moved : (outbound : List SerialMessageValue) (reply : Arrival) (read : Result MessageValue DecodeError)
      → message_at bytes ≡ read
      → reply ≡ arrival_reply (record { requests = requests; outbound = outbound }) read
      → Moved t number (Arrive bytes reply) (slice_get requests number)
      (slice_get (after_arrival read reply requests) number)
  arrive-moved outbound reply (Err error) is answered =
      rw answered (arrive-quiet (Undecodable error) (nothing-gained (is_some (life_of (slice_get requests number))
      && has_room (waiting_of (slice_get requests number))) _
      (rw is (undecoded (option_map (λ l. l.id) (life_of (slice_get requests number))) error))))
  arrive-moved outbound reply (Ok message) is answered =
      rw (answered, position_is (has_id message.id) requests) (arrive-decoded message is _ refl)

-- ---- one event more

pub get-map : {X Y : Type 0} (h : X → Y) (xs : List X) (n : ℕ) → slice_get (map h xs) n ≡ option_map h (slice_get xs n)
get-map h xs n = slice_get-map h xs n

-- an event that isn't this request's sending
pub moved-other : (settings : Settings) (state : State) (e : Event) (number : ℕ) → is_send_of number e ≡ false
    → is_accepted e ≡ false
    → ((id m n : ℕ) → lives_under id (life_at state m) ≡ true → lives_under id (life_at state n) ≡ true → m ≡ n)
    → IsAnswered settings state e
    → Moved settings.timeout number e (slice_get state.requests number)
    (slice_get (after settings state e).requests number)
moved-other settings state (Send request moment drawn took (Ok k)) number other nay apart answered = cc
moved-other settings state (Send request moment drawn took (Err error)) number other nay apart answered =
    quiet settings.timeout number (Send request moment drawn took (Err error)) (slice_get state.requests number)
    (λ m. refl) refl refl
    (gain-none (Send request moment drawn took (Err error)) (life_at state number) (waiting_of (slice_get state.requests number))
    (λ id. refl))
moved-other settings state (Arrive bytes reply) number other nay apart answered =
    arrive-moved settings.timeout number bytes state.requests apart state.outbound reply (message_at bytes) refl
    answered
moved-other settings state (Take k reply) number other nay apart answered =
    rw (get-changed_at k number without_first state.requests)
    (at-place settings.timeout number k (Take k reply) (slice_get state.requests number) without_first
    (λ same. rw same (take-here settings.timeout number (slice_get state.requests number) reply (rw same at answered)))
    (λ apart. take-other settings.timeout number k (slice_get state.requests number) reply apart) (cases_eq k number))
moved-other settings state (Cancel k) number other nay apart answered =
    rw (get-changed_at k number cancelled state.requests)
    (at-place settings.timeout number k (Cancel k) (slice_get state.requests number) cancelled
    (λ same. rw same (cancel-here settings.timeout number (slice_get state.requests number)))
    (λ apart. cancel-other settings.timeout number k (slice_get state.requests number) apart) (cases_eq k number))
moved-other settings state (Tick now) number other nay apart answered =
    rw (get-map (ticked settings.timeout now) state.requests number)
    (tick-moved settings.timeout number now (slice_get state.requests number))
moved-other settings state (Close fault) number other nay apart answered =
    rw (get-map (closed fault) state.requests number)
    (close-moved settings.timeout number fault (slice_get state.requests number))
moved-other settings state (Pop message) number other nay apart answered =
    quiet settings.timeout number (Pop message) (slice_get state.requests number) (λ m. refl) refl refl
    (gain-none (Pop message) (life_at state number) (waiting_of (slice_get state.requests number)) (λ id. refl))

-- what the history says of a request after an event that moved it
module _ (settings : Settings) (start : List SerialMessageValue) (before : List Event) (state : State)
    (agrees : Agrees settings start before state) (e : Event) (number : ℕ) (other : is_send_of number e ≡ false) where
  pub unsent-waits : (s : Option Sending) → sending before number ≡ s → s ≡ None
      → waiting settings.timeout before number ≡ []
  unsent-waits s is none =
      let past : nat_lt number (length state.requests) ≡ false = sym (agrees.given number) ∙ ap is_some (is ∙ none) in
      sym (agrees.waiting number)
      ∙ ap waiting_of (slice_get_past state.requests number (ltb-false number (length state.requests) past))

  pub life-next : (new : Option Request) → Moved settings.timeout number e (slice_get state.requests number) new
      → life_of new ≡ life_told settings.timeout number (sending (e ∷ before) number)
  unfolding sending
  life-next new moved =
      moved.life ∙ ap (life_after settings.timeout number e) (agrees.life number)
      ∙ sym (told-later settings.timeout number e (sending before number))
      ∙ ap (life_told settings.timeout number)
      (sym (cond-false (is_send_of number e) (Some (sending_by e)) (option_map (with_later e) (sending before number)) other))

  pub waits-next : (new : Option Request) → Moved settings.timeout number e (slice_get state.requests number) new
      → waiting_of new ≡ waiting settings.timeout (e ∷ before) number
  waits-next new moved =
      moved.waiting
      ∙ ap (λ life. waits_after number e life (waiting_of (slice_get state.requests number))) (agrees.life number)
      ∙ ap (waits_after number e (life_told settings.timeout number (sending before number))) (agrees.waiting number)
      ∙ sym (waits-later settings.timeout number e before (sending before number) other refl
      (unsent-waits (sending before number) refl) (agrees.taken number))

-- which numbers were given out
pub given-later : (e : Event) (s : Option Sending) → is_some (option_map (with_later e) s) ≡ is_some s
given-later e None = refl
given-later e (Some s) = refl

pub given-next : (before : List Event) (e : Event) (number : ℕ) → is_send_of number e ≡ false
    → is_some (sending (e ∷ before) number) ≡ is_some (sending before number)
unfolding sending
given-next before e number other = rw other (given-later e (sending before number))

-- lives only end
pub lives-before : (t number id : ℕ) (e : Event) (life : Option Life)
    → lives_under id (life_after t number e life) ≡ true → lives_under id life ≡ true
lives-before t number id e None lives = lives
lives-before t number id e (Some life) lives = lives-case _ refl lives
  where
    lives-case : (b : Bool) → is_ended_by t number life.moment e ≡ b
        → lives_under id (if b then None else Some life) ≡ true → lives_under id (Some life) ≡ true
    lives-case true is h = cc
    lives-case false is h = h

-- what was taken had waited
pub longer : {X : Type 0} (n : ℕ) (ys : List X) (y : X) (zs : List X) → drop n ys ≡ y ∷ zs → n < length ys
longer zero [] y zs h = cc
longer zero (w ∷ ys) y zs h = omega arith
longer (suc n) [] y zs h = cc
longer (suc n) (w ∷ ys) y zs h =
    let more : n < length ys = longer n ys y zs h in
    omega (arith, more)

pub taken-case : (t k : ℕ) (before : List Event) (x : Reply) (xs : List Reply) (b : Bool)
    → (if b then [] else untaken before k (queued t before k)) ≡ x ∷ xs
    → count_by (has_taken k) before < length (queued t before k)
taken-case t k before x xs true waits = cc
taken-case t k before x xs false waits = longer (count_by (has_taken k) before) (queued t before k) x xs waits

pub one-more-taken : (t k : ℕ) (before : List Event) (x : Reply) (xs : List Reply) → waiting t before k ≡ x ∷ xs
    → count_by (has_taken k) before < length (queued t before k)
one-more-taken t k before x xs waits = taken-case t k before x xs (is_cancelled k (sending before k)) waits

-- an item that is taken is the first that waited
pub item-waited : (old : Option Request) (x : Reply) → Item x ≡ taken_from old
    → waiting_of old ≡ x ∷ drop 1 (waiting_of old)
item-waited None x is = cc
item-waited (Some request) x is = item-case (is_some request.life) request.waiting is
  where
    item-case : (b : Bool) (items : List Reply) → Item x ≡ first_or_end b items → items ≡ x ∷ drop 1 items
    item-case true [] is = cc
    item-case false [] is = cc
    item-case b (y ∷ ys) is = cc

pub taken-within : (settings : Settings) (start : List SerialMessageValue) (before : List Event) (state : State)
    (agrees : Agrees settings start before state) (e : Event) (number : ℕ)
    → IsAnswered settings state e → (b : Bool) → has_taken number e ≡ b
    → count_by (has_taken number) before + one_if b ≤ length (queued settings.timeout before number)
taken-within settings start before state agrees e number answered false untook = omega (arith, agrees.taken number)
taken-within settings start before state agrees (Take k (Item x)) number answered true took =
    let same : k ≡ number = eqb-true k number took in
    let waited : waiting settings.timeout before number ≡ x ∷ drop 1 (waiting_of (slice_get state.requests number)) =
    sym (agrees.waiting number) ∙ item-waited (slice_get state.requests number) x (rw same at answered) in
    let more : count_by (has_taken number) before < length (queued settings.timeout before number) =
    one-more-taken settings.timeout number before x _ waited in
    omega (arith, more)
taken-within settings start before state agrees (Take k Pending) number answered true took = cc
taken-within settings start before state agrees (Take k Ended) number answered true took = cc
taken-within settings start before state agrees (Send request moment drawn t reply) number answered true took = cc
taken-within settings start before state agrees (Arrive bytes reply) number answered true took = cc
taken-within settings start before state agrees (Cancel k) number answered true took = cc
taken-within settings start before state agrees (Tick now) number answered true took = cc
taken-within settings start before state agrees (Close fault) number answered true took = cc
taken-within settings start before state agrees (Pop message) number answered true took = cc

pub taken-next : (settings : Settings) (start : List SerialMessageValue) (before : List Event) (state : State)
    (agrees : Agrees settings start before state) (e : Event) (number : ℕ)
    → IsAnswered settings state e
    → count_by (has_taken number) (e ∷ before) ≤ length (queued settings.timeout (e ∷ before) number)
unfolding queued
taken-next settings start before state agrees e number answered =
    let within = taken-within settings start before state agrees e number answered (has_taken number e) refl in
    let more = count-step (has_taken number) e before in
    let long = length-append (queued settings.timeout before number) (gained settings.timeout number e before) in
    rw (more, long) (omega (arith, within))
