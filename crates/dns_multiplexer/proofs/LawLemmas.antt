-- The laws of histories, from the law that a state is what its history says.
use Rattle.std.proofs.Common.{◌≡◌, ◌≤◌, ◌<◌, ◌∙◌, ℕ, Bool, true, false, List, ◌∷◌, Option, None, Some, Result, Ok, Err, slice_get, length, refl, sym, ap, arith, if◌then◌else◌}
use Rattle.std.specs.Prelude.{is_some}
use Rattle.std.specs.List.{position_from}
use Rattle.std.proofs.lemmas.Bool.{both_ways, ltb-true, ltb-false}
use Rattle.dns_model.specs.Records.{MessageValue}
use Rattle.dns_message.specs.declared.decode_error.DecodeError.{DecodeError}
use Rattle.dns_message.specs.MessageAt.{message_at}
use Rattle.dns_multiplexer.specs.declared.arrival.Arrival.{Arrival}
use Rattle.dns_multiplexer.specs.declared.arrival.Arrival.TheVariants.{Full, Queued}
use Rattle.dns_multiplexer.specs.Messages.{SerialMessageValue}
use Rattle.dns_multiplexer.specs.Events.{Event, Send, Arrive, Take, Cancel, Tick, Close, Pop}
use Rattle.dns_multiplexer.specs.History.{live, live_id, waiting, most_waiting}
use Rattle.dns_multiplexer.specs.Machine.{Settings, Request, State, first_or_end, taken_from, waiting_of, lives_under, has_id, has_room, reply_at, arrival_reply, with_maximum}
use Rattle.dns_multiplexer.specs.Draws.{Plays}
use Rattle.dns_multiplexer.specs.Runs.{replay, IsPlayed, IsToldBy, life_of, life_at}
use Rattle.dns_multiplexer.specs.Laws.{IsToldArrival, IsToldOfBytes, IsToldReply}
use Rattle.dns_multiplexer.proofs.ListLemmas.{position_is}
use Rattle.dns_multiplexer.proofs.HistoryWordLemmas.{under_id, id_under}
use Rattle.dns_multiplexer.proofs.MachineStepLemmas.{found_at, unfound}
use Rattle.dns_multiplexer.proofs.HistoryLemmas.{after-anew, told_by_history}

-- a call that is answered as the state says is one event more
pub event_more : (settings : Settings) (start : List SerialMessageValue) (history : List Event) (maximum : ℕ)
    (e : Event) (new : State) → IsPlayed settings start history
    → Plays (with_maximum maximum settings) (replay settings start history) new e
    → IsPlayed settings start (e ∷ history) × (new ≡ replay settings start (e ∷ history))
unfolding replay IsPlayed
event_more settings start history maximum e new played plays = (
  (played, record { maximum = maximum; answered = plays.answered }),
  plays.moved ∙ after-anew settings (replay settings start history) maximum e,
)

-- what a take gives, by whether the request is live and what waits for it
taken_as : (request : Option Request)
    → taken_from request ≡ first_or_end (is_some (life_of request)) (waiting_of request)
taken_as None = refl
taken_as (Some request) = refl

-- an arrival, by what the history says of each request
module _ (settings : Settings) (start : List SerialMessageValue) (before : List Event) (state : State)
    (told : IsToldBy settings start before state) where
  told-room : (k : ℕ) → has_room (waiting_of (slice_get state.requests k)) ≡ true
      → length (waiting settings.timeout before k) < most_waiting
  told-room k room =
      let items = waiting_of (slice_get state.requests k) in
      let few : length items < 9 = ltb-true (length items) 9 room in
      let same = ap length (told.waiting k) in
      omega (arith, few, same)

  told-full : (k : ℕ) → has_room (waiting_of (slice_get state.requests k)) ≡ false
      → most_waiting ≤ length (waiting settings.timeout before k)
  told-full k full =
      let items = waiting_of (slice_get state.requests k) in
      let many : 9 ≤ length items = ltb-false (length items) 9 full in
      let same = ap length (told.waiting k) in
      omega (arith, many, same)

  told-holds : (id k : ℕ) → lives_under id (life_at state k) ≡ true → live_id settings.timeout before k ≡ Some id
  told-holds id k lives = sym (told.id k) ∙ id_under id (life_at state k) lives

  told-held : (id k : ℕ) → lives_under id (life_at state k) ≡ true
      → (b : Bool) → has_room (waiting_of (slice_get state.requests k)) ≡ b
      → IsToldArrival settings.timeout before id (if b then Queued (record { 0 = k }) else Full)
  told-held id k lives true room = (told-holds id k lives, told-room k room)
  told-held id k lives false full = record { number = k; holds = told-holds id k lives; waits = told-full k full }

  told-placed : (id : ℕ) (p : Option ℕ) → position_from (has_id id) 0 state.requests ≡ p
      → IsToldArrival settings.timeout before id (reply_at state.requests p)
  told-placed id None none = λ number holds. both_ways _ (unfound id 0 state.requests none number)
      (under_id id (life_at state number) (told.id number ∙ holds))
  told-placed id (Some k) some =
      let found = found_at id k 0 state.requests some in
      let place : found.place ≡ k = omega (arith, found.at) in
      let lives : lives_under id (life_at state k) ≡ true =
      ap (λ n. lives_under id (life_at state n)) (sym place) ∙ found.lives in
      told-held id k lives (has_room (waiting_of (slice_get state.requests k))) refl

  told-bytes : (read : Result MessageValue DecodeError) (reply : Arrival) → reply ≡ arrival_reply state read
      → IsToldOfBytes settings.timeout before read reply
  told-bytes (Err error) reply is = is
  told-bytes (Ok message) reply is =
      rw (is, position_is (has_id message.id) state.requests) (told-placed message.id _ refl)

-- each reply is what the history before it says
pub told_reply : (settings : Settings) (start : List SerialMessageValue) (before : List Event) (e : Event)
    → IsPlayed settings start (e ∷ before) → IsToldReply settings start before e
unfolding IsPlayed
told_reply settings start before (Arrive bytes reply) played =
    told-bytes settings start before (replay settings start before) (told_by_history settings start before played.0)
    (message_at bytes) reply played.1.answered
told_reply settings start before (Take number reply) played =
    let told = told_by_history settings start before played.0 in
    let request = slice_get (replay settings start before).requests number in
    played.1.answered ∙ taken_as request
    ∙ ap (λ is_live. first_or_end is_live (waiting_of request)) (told.live number)
    ∙ ap (first_or_end (live settings.timeout before number)) (told.waiting number)
told_reply settings start before (Pop message) played =
    let told = told_by_history settings start before played.0 in
    played.1.answered ∙ ap (λ messages. slice_get messages 0) told.outbound
told_reply settings start before (Send request moment drawn took reply) played = tt
told_reply settings start before (Cancel number) played = tt
told_reply settings start before (Tick now) played = tt
told_reply settings start before (Close fault) played = tt
