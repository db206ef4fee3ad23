-- A request with a number, through arrivals and takes: its own response is handed to it, and no other.
use Rattle.std.proofs.Common.{◌≡◌, ℕ, ◌==◌, inl, inr, ◌⊎◌, true, false, Bool, List, [], ◌∷◌, ◌++◌, length, Option, None, Some, Result, Ok, Err, refl, sym, ap, ◌∙◌, slice_get, if◌then◌else◌, arith}
use Rattle.std.specs.List.{position_from}
use Rattle.std.specs.Option.{option_map}
use Rattle.std.proofs.lemmas.Bool.{cases_eq, eqb-true, eqb-false, ne_eqb}
use Rattle.dns_model.specs.Records.{MessageValue}
use Rattle.dns_model.specs.SoundAnswers.{ResponseValue}
use Rattle.dns_model.proofs.Lists.{slice_get_appended}
use Rattle.dns_message.specs.declared.decode_error.DecodeError.{DecodeError}
use Rattle.dns_message.specs.MessageAt.{message_at}
use Rattle.dns_handle.specs.declared.error.NetError.{NetError}
use Rattle.dns_handle.specs.Errors as seen
use Rattle.dns_handle.specs.Errors.{Reply}
use Rattle.dns_handle.specs.Replies.{reply_of}
use Rattle.dns_multiplexer.specs.declared.arrival.Arrival.{Arrival}
use Rattle.dns_multiplexer.specs.declared.arrival.Arrival.TheVariants.{Full, Queued}
use Rattle.dns_multiplexer.specs.declared.taken.Taken.{Taken}
use Rattle.dns_multiplexer.specs.declared.taken.Taken.TheVariants as rust
use Rattle.dns_multiplexer.specs.Draws.{IsSend, Plays}
use Rattle.dns_multiplexer.specs.Events.{TakenValue, Item, Pending, Ended, Send, Arrive, Take, last_drawn}
use Rattle.dns_multiplexer.specs.Machine.{Settings, Request, State, after_arrival, arrival_reply, changed_at, has_id, has_room, is_busy, is_taken_id, lives_under, reply_at, sent_under, taken_from, waiting_of, with_item, without_first}
use Rattle.dns_multiplexer.specs.Messages.{SerialMessageValue, answered_by}
use Rattle.dns_multiplexer.specs.Runs.{life_of}
use Rattle.dns_multiplexer.specs.Views.{taken_of}
use Rattle.dns_multiplexer.proofs.HistoryLemmas.{accepted-case, untaken-id}
use Rattle.dns_multiplexer.proofs.ListLemmas.{choose_here, choose_other, get-changed_at, position_is}
use Rattle.dns_multiplexer.proofs.MachineStepLemmas.{found_at, slice_get-append, unfound}
use Rattle.dns_tcp.specs.Exchanges.{answers, has_message_id}
use Rattle.dns_tcp.specs.Steps.{IsOurs, Offered}
use Rattle.dns_tcp.proofs.LiveLemmas.{life_kept}

-- ---- an accepted send

not_both : (b : Bool) → b ≡ true → b ≡ false → ⊥
not_both true t f = cc
not_both false t f = cc

module _ (settings : Settings) (old new : State) (request : Option (List ℕ)) (moment number : ℕ) (drawn : List ℕ) where
  alone_by : (other : ℕ) → number ≡ length old.requests → is_taken_id old.requests (last_drawn drawn) ≡ false
      → lives_under (last_drawn drawn) (life_of (slice_get (old.requests ++ sent_under
      (last_drawn drawn) moment ∷ []) other)) ≡ true
      → (d : (other ≡ number) ⊎ (other ≡ number → ⊥)) → other ≡ number
  alone_by other next free lives (inl same) = same
  alone_by other next free lives (inr apart) =
      let id = last_drawn drawn in
      let ours = sent_under id moment in
      let before : slice_get (old.requests ++ ours ∷ []) other ≡ slice_get old.requests other =
      slice_get-append old.requests ours other
      ∙ choose_other (length old.requests) other (Some ours) (slice_get old.requests other) (λ e. apart (sym e
      ∙ sym next)) in
      absurd (not_both (lives_under id (life_of (slice_get old.requests other)))
      (ap (λ r. lives_under id (life_of r)) (sym before) ∙ lives) (untaken-id id old.requests other free))

  played_ours : Plays settings old new (Send request moment drawn true (Ok number))
      → IsOurs new.requests number (last_drawn drawn) moment
  played_ours p =
      let accepted = accepted-case settings old request drawn number (is_busy settings old)
      (is_taken_id old.requests (last_drawn drawn)) refl p.answered.2 in
      let ours = sent_under (last_drawn drawn) moment in
      let grown : new.requests ≡ old.requests ++ ours ∷ [] = ap (λ (s : State). s.requests) p.moved in
      record {
        here = ap (λ (rs : List Request). slice_get rs number) grown
            ∙ ap (λ (k : ℕ). slice_get (old.requests ++ ours ∷ []) k) accepted.next
            ∙ slice_get_appended old.requests ours [];
        alone = λ other lives. alone_by other accepted.next accepted.free
            (ap (λ (rs : List Request). lives_under (last_drawn drawn) (life_of (slice_get rs other)))
            (sym grown) ∙ lives)
            (cases_eq other number);
      }

  sent_by : ((Ok number ≡ Err seen.NoMemory) × (new ≡ old)) ⊎ Plays settings old new
      (Send request moment drawn true (Ok number))
      → IsOurs new.requests number (last_drawn drawn) moment
  sent_by (inl h) = let no = h.0 in cc
  sent_by (inr p) = played_ours p

-- a request that was sent is live under the id that was drawn last
pub sent_ours : (draws : List ℕ → Type 0) (settings : Settings) (old new : State) (request : Option (List ℕ))
    (moment number : ℕ)
    (send : IsSend draws settings old new request moment (Ok number))
    → IsOurs new.requests number (last_drawn send.drawn) moment
sent_ours draws settings old new request moment number send =
    sent_by settings old new request moment number send.drawn send.played

-- ---- an arrival

module _ (number id moment : ℕ) where
  -- bytes that aren't the response pass by; those that are wait for the request
  pub data Arrived (new : List Request) (bytes : List ℕ) : Type 0 where
    Passed : answers id bytes ≡ false → IsOurs new number id moment → Arrived new bytes
    Came : (message : MessageValue) → message_at bytes ≡ Ok message → message.id ≡ id
        → slice_get new number ≡ Some (with_item (answered_by message) (sent_under id moment)) → Arrived new bytes

  module _ (requests new : List Request) (bytes : List ℕ) (ours : IsOurs requests number id moment) where
    kept_ours : new ≡ requests → IsOurs new number id moment
    kept_ours e = rw e ours

    changed_ours : (k : ℕ) (change : Request → Request) → ((r : Request) → (change r).life ≡ r.life)
        → slice_get (changed_at k change requests) number ≡ Some (sent_under id moment)
        → new ≡ changed_at k change requests → IsOurs new number id moment
    changed_ours k change same here e = rw e (record {
      here = here;
      alone = λ other lives. ours.alone other (ap (lives_under id) (sym (life_kept k other change same requests))
          ∙ lives);
    })

    not_answer : (message : MessageValue) → message_at bytes ≡ Ok message → (message.id ≡ id → ⊥)
        → answers id bytes ≡ false
    not_answer message is other = ap (has_message_id id) is ∙ ne_eqb message.id id other

    -- the request that has the message's id is found
    own_arrived : (message : MessageValue) → message_at bytes ≡ Ok message → message.id ≡ id → (k : ℕ) → k ≡ number
        → (reply : Arrival) → reply ≡ reply_at requests (Some k) → new ≡ after_arrival (Ok message) reply requests
        → Arrived new bytes
    own_arrived message is own k same reply r m =
        let here : slice_get requests k ≡ Some (sent_under id moment) = ap (slice_get requests) same ∙ ours.here in
        let room : has_room (waiting_of (slice_get requests k)) ≡ true = ap (λ o. has_room (waiting_of o)) here in
        let queued : reply ≡ Queued (record { 0 = k }) = r ∙ rw room refl in
        let change = with_item (answered_by message) in
        let grown : new ≡ changed_at k change requests = m ∙ ap (λ a. after_arrival (Ok message) a requests) queued in
        Came message is own
        (ap (λ (rs : List Request). slice_get rs number) grown ∙ get-changed_at k number change requests
        ∙ choose_here k number (option_map change (slice_get requests number)) (slice_get requests number) same
        ∙ ap (option_map change) ours.here)

    -- another one is found
    other_arrived : (message : MessageValue) → message_at bytes ≡ Ok message → (k : ℕ) → (k ≡ number → ⊥)
        → (message.id ≡ id → ⊥) → (b : Bool) → new ≡ after_arrival (Ok message) (if b then Queued
        (record { 0 = k }) else Full) requests
        → Arrived new bytes
    other_arrived message is k apart other true m =
        Passed (not_answer message is other)
        (changed_ours k (with_item (answered_by message)) (λ r. refl)
        (get-changed_at k number (with_item (answered_by message)) requests
        ∙ choose_other k number (option_map (with_item (answered_by message)) (slice_get requests number))
        (slice_get requests number) apart
        ∙ ours.here) m)
    other_arrived message is k apart other false m = Passed (not_answer message is other) (kept_ours m)

    found_arrived : (message : MessageValue) → message_at bytes ≡ Ok message → (k : ℕ)
        → lives_under message.id (life_of (slice_get requests k)) ≡ true → (reply : Arrival)
        → reply ≡ reply_at requests (Some k)
        → new ≡ after_arrival (Ok message) reply requests → (d : (k ≡ number) ⊎ (k ≡ number → ⊥)) → Arrived new bytes
    found_arrived message is k lives reply r m (inl same) =
        let at : lives_under message.id (life_of (slice_get requests number)) ≡ true =
        ap (λ n. lives_under message.id (life_of (slice_get requests n))) (sym same) ∙ lives in
        let under : (id == message.id) ≡ true = ap (λ o. lives_under message.id (life_of o)) (sym ours.here) ∙ at in
        own_arrived message is (sym (eqb-true id message.id under)) k same reply r m
    found_arrived message is k lives reply r m (inr apart) =
        let other : message.id ≡ id → ⊥ =
        λ e. apart (ours.alone k (ap (λ n. lives_under n (life_of (slice_get requests k))) (sym e) ∙ lives)) in
        other_arrived message is k apart other (has_room (waiting_of (slice_get requests k)))
        (m ∙ ap (λ a. after_arrival (Ok message) a requests) r)

    decoded_arrived : (message : MessageValue) → message_at bytes ≡ Ok message → (reply : Arrival) → (p : Option ℕ)
        → position_from (has_id message.id) 0 requests ≡ p → reply ≡ reply_at requests p
        → new ≡ after_arrival (Ok message) reply requests → Arrived new bytes
    decoded_arrived message is reply None none r m =
        let not_it : lives_under message.id (life_of
        (slice_get requests number)) ≡ false = unfound message.id 0 requests none number in
        let under : (id == message.id) ≡ false = ap (λ o. lives_under message.id (life_of o)) (sym ours.here)
        ∙ not_it in
        Passed (not_answer message is (λ e. eqb-false id message.id under (sym e)))
        (kept_ours (m ∙ ap (λ a. after_arrival (Ok message) a requests) r))
    decoded_arrived message is reply (Some k) some r m =
        let found = found_at message.id k 0 requests some in
        let place : found.place ≡ k = omega (arith, found.at) in
        found_arrived message is k (ap (λ n. lives_under message.id (life_of (slice_get requests n))) (sym place)
        ∙ found.lives)
        reply r m (cases_eq k number)

    arrived_read : (outbound : List SerialMessageValue) (reply : Arrival) (read : Result MessageValue DecodeError)
        → message_at bytes ≡ read → reply ≡ arrival_reply (record { requests = requests; outbound = outbound }) read
        → new ≡ after_arrival read reply requests → Arrived new bytes
    arrived_read outbound reply (Err error) is r m =
        Passed (ap (has_message_id id) is) (kept_ours (m ∙ ap (λ a. after_arrival (Err error) a requests) r))
    arrived_read outbound reply (Ok message) is r m =
        decoded_arrived message is reply (position_from (has_id message.id) 0 requests) refl
        (r ∙ ap (reply_at requests) (position_is (has_id message.id) requests)) m

  arrived : (settings : Settings) (old mid : State) (bytes : List ℕ) (reply : Arrival)
      → Plays settings old mid (Arrive bytes reply) → IsOurs old.requests number id moment → Arrived mid.requests bytes
  arrived settings old mid bytes reply p ours =
      arrived_read old.requests mid.requests bytes ours old.outbound reply (message_at bytes) refl p.answered
      (ap (λ (s : State). s.requests) p.moved)

  -- ---- a take behind it

  module _ (mid new : List Request) (bytes : List ℕ) (t : TakenValue) (is : t ≡ taken_from (slice_get mid number)) where
    pending_taken : IsOurs mid number id moment → t ≡ Pending
    pending_taken ours = is ∙ ap taken_from ours.here

    came_taken : (message : MessageValue) → slice_get mid number ≡ Some (with_item (answered_by message)
        (sent_under id moment))
        → t ≡ Item (answered_by message)
    came_taken message here = is ∙ ap taken_from here

    some_taken : (reply : Result ResponseValue NetError) → t ≡ Item (reply_of reply) → Arrived mid bytes
        → Offered new number id moment bytes (Some reply)
    some_taken reply e (Passed other ours) = let clash : Item (reply_of reply) ≡ Pending = sym e
        ∙ pending_taken ours in cc
    some_taken reply e (Came message read own here) =
        let item : Item (reply_of reply) ≡ Item (answered_by message) = sym e ∙ came_taken message here in
        let same : reply_of reply ≡ answered_by message = cc in
        (message, read, own, same)

    none_taken : (t ≡ Pending) ⊎ (t ≡ Ended) → new ≡ changed_at number without_first mid → Arrived mid bytes
        → Offered new number id moment bytes None
    none_taken e m (Passed other ours) = (
      other,
      changed_ours mid new bytes ours number without_first (λ r. refl)
          (get-changed_at number number without_first mid
          ∙ choose_here number number (option_map without_first (slice_get mid number)) (slice_get mid number) refl
          ∙ ap (option_map without_first) ours.here) m,
    )
    none_taken (inl e) m (Came message read own here) = let clash : Pending ≡ Item (answered_by message) = sym e
        ∙ came_taken message here in cc
    none_taken (inr e) m (Came message read own here) = let clash : Ended ≡ Item (answered_by message) = sym e
        ∙ came_taken message here in cc

  pub offered_some : (settings later : Settings) (old mid new : State) (bytes : List ℕ) (a : Arrival)
      (reply : Result ResponseValue NetError)
      → Plays settings old mid (Arrive bytes a) → Plays later mid new (Take number (Item (reply_of reply)))
      → IsOurs old.requests number id moment → Offered new.requests number id moment bytes (Some reply)
  offered_some settings later old mid new bytes a reply p q ours =
      some_taken mid.requests new.requests bytes (Item (reply_of reply)) q.answered reply refl
      (arrived settings old mid bytes a p ours)

  pub offered_none : (settings later : Settings) (old mid new : State) (bytes : List ℕ) (a : Arrival) (t : TakenValue)
      → Plays settings old mid (Arrive bytes a) → Plays later mid new (Take number t) → (t ≡ Pending) ⊎ (t ≡ Ended)
      → IsOurs old.requests number id moment → Offered new.requests number id moment bytes None
  offered_none settings later old mid new bytes a t p q e ours =
      none_taken mid.requests new.requests bytes t q.answered e (ap (λ (s : State). s.requests) q.moved)
      (arrived settings old mid bytes a p ours)

-- that nothing waits, or that nothing will come
pub none_of : (t : Taken) → (t ≡ rust.Pending) ⊎ (t ≡ rust.Ended) → (taken_of t ≡ Pending) ⊎ (taken_of t ≡ Ended)
none_of t (inl e) = inl (ap taken_of e)
none_of t (inr e) = inr (ap taken_of e)
