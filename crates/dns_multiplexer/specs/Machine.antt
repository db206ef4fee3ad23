-- The multiplexer as a machine with a small state: how each call is answered, and what it leaves.
use Rattle.std.specs.Prelude.{ℕ, zero, suc, ◌+◌, ◌≡◌, Bool, true, false, ◌==◌, List, [], ◌∷◌, ◌++◌, length, drop, map, count_by, Option, None, Some, is_some, Result, Ok, Err, is_ok, nat_le, nat_lt, slice_get, if◌then◌else◌}
use Rattle.std.specs.List.{list_any, position}
use Rattle.std.specs.declared.net.socket_addr.SocketAddr.{SocketAddr}
use Rattle.dns_model.specs.Records.{MessageValue}
use Rattle.dns_message.specs.declared.decode_error.DecodeError.{DecodeError}
use Rattle.dns_message.specs.MessageAt.{message_at}
use Rattle.dns_handle.specs.declared.error.ProtoError.TheVariants.{TooLong}
use Rattle.dns_handle.specs.declared.io_kind.IoKind.{IoKind}
use Rattle.dns_handle.specs.declared.notice.Notice.TheVariants.{IdSpaceExhausted, SendQueueFull}
use Rattle.dns_handle.specs.Errors.{ErrorValue, Busy, Message, Proto, Reply}
use Rattle.dns_multiplexer.specs.declared.arrival.Arrival.{Arrival}
use Rattle.dns_multiplexer.specs.declared.arrival.Arrival.TheVariants.{Undecodable, Stranger, Full, Queued}
use Rattle.dns_multiplexer.specs.Messages.{SerialMessageValue, answered_by, failed_by}
use Rattle.dns_multiplexer.specs.Events.{TakenValue, Item, Pending, Ended, Event, Send, Arrive, Take, Cancel, Tick, Close, Pop, last_drawn}
use Rattle.dns_multiplexer.specs.History.{most_waiting, put_out}

-- milliseconds after which a request ends, the most live requests, how many messages wait to be sent beside one more, and the
-- server
pub record Settings : Type 0 where
  pub timeout : ℕ
  pub maximum : ℕ
  pub buffer : ℕ
  pub server : SocketAddr

-- the same with another number of live requests, which may be set anew between two calls
abbrev pub with_maximum : ℕ → Settings → Settings
with_maximum maximum settings = record settings { maximum = maximum }

-- a live request: its id, and when it was sent
pub record Life : Type 0 where
  pub id : ℕ
  pub moment : ℕ

-- an accepted send: its life while it is live, and what waits
pub record Request : Type 0 where
  pub life : Option Life
  pub waiting : List Reply

-- the accepted sends in order, so that the place is the number, and what is to be sent
pub record State : Type 0 where
  pub requests : List Request
  pub outbound : List SerialMessageValue

-- ---- what is asked of a state

abbrev pub lives_under : ℕ → Option Life → Bool
lives_under id None = false
lives_under id (Some life) = life.id == id

-- a live request with the id
abbrev pub has_id : ℕ → Request → Bool
has_id id request = lives_under id request.life

abbrev pub is_taken_id : List Request → ℕ → Bool
is_taken_id requests id = list_any (has_id id) requests

abbrev pub live_count : List Request → ℕ
live_count requests = count_by (λ r. is_some r.life) requests

abbrev pub waiting_of : Option Request → List Reply
waiting_of None = []
waiting_of (Some request) = request.waiting

abbrev pub has_room : List Reply → Bool
has_room items = nat_lt (length items) most_waiting

-- ---- how calls are answered

-- ids are drawn until one is no live request's, a hundred at most
unfoldable pub are_drawn : ℕ → (ℕ → Bool) → List ℕ → Bool
are_drawn zero is_taken [] = true
are_drawn zero is_taken (id ∷ rest) = false
are_drawn (suc left) is_taken [] = false
are_drawn (suc left) is_taken (id ∷ []) = if is_taken id then are_drawn left is_taken [] else true
are_drawn (suc left) is_taken (id ∷ next ∷ rest) = if is_taken id then are_drawn left is_taken (next ∷ rest) else false

abbrev pub most_draws : ℕ
most_draws = 100

abbrev pub is_busy : Settings → State → Bool
is_busy settings state = nat_le settings.maximum (live_count state.requests)

-- none is drawn where there are too many live requests
abbrev pub drawing_fits : Settings → State → List ℕ → Bool
drawing_fits settings state drawn =
    if is_busy settings state then nat_le (length drawn) 0 else are_drawn most_draws (is_taken_id state.requests) drawn

abbrev pub queue_reply : Settings → State → Option (List ℕ) → Result ℕ ErrorValue
queue_reply settings state None = Err (Proto TooLong)
queue_reply settings state (Some request) =
    if nat_lt settings.buffer (length state.outbound) then Err (Message SendQueueFull) else Ok (length state.requests)

-- too many live requests; a hundred ids of live requests; a request that is too long; a full queue; else the next number
abbrev pub send_reply : Settings → State → Option (List ℕ) → List ℕ → Result ℕ ErrorValue
send_reply settings state request drawn =
    if is_busy settings state then Err Busy
    else if is_taken_id state.requests (last_drawn drawn) then Err (Message IdSpaceExhausted)
    else queue_reply settings state request

-- a response for the request at a place
abbrev pub reply_at : List Request → Option ℕ → Arrival
reply_at requests None = Stranger
reply_at requests (Some number) =
    if has_room (waiting_of (slice_get requests number)) then Queued (record { 0 = number }) else Full

-- bytes that are no message; no live request has the id; nine wait; else it is queued
abbrev pub arrival_reply : State → Result MessageValue DecodeError → Arrival
arrival_reply state (Err error) = Undecodable error
arrival_reply state (Ok message) = reply_at state.requests (position (has_id message.id) state.requests)

abbrev pub first_or_end : Bool → List Reply → TakenValue
first_or_end is_live (reply ∷ rest) = Item reply
first_or_end true [] = Pending
first_or_end false [] = Ended

abbrev pub taken_from : Option Request → TakenValue
taken_from None = Ended
taken_from (Some request) = first_or_end (is_some request.life) request.waiting

-- the reply that an event carries is the one that the state gives
abbrev pub IsAnswered : Settings → State → Event → Type 0
IsAnswered settings state (Send request moment drawn took reply) =
    (drawing_fits settings state drawn ≡ true) × (took ≡ is_ok reply)
    × (reply ≡ send_reply settings state request drawn)
IsAnswered settings state (Arrive bytes reply) = reply ≡ arrival_reply state (message_at bytes)
IsAnswered settings state (Take number reply) = reply ≡ taken_from (slice_get state.requests number)
IsAnswered settings state (Pop message) = Some message ≡ slice_get state.outbound 0
IsAnswered settings state _ = Unit {0}

-- ---- what calls leave

-- the list with a change of what stands at a place
unfoldable pub changed_at : {X : Type 0} → ℕ → (X → X) → List X → List X
changed_at place change [] = []
changed_at zero change (x ∷ xs) = change x ∷ xs
changed_at (suc place) change (x ∷ xs) = x ∷ changed_at place change xs

abbrev pub sent_under : ℕ → ℕ → Request
sent_under id moment = record { life = Some (record { id = id; moment = moment }); waiting = [] }

abbrev pub with_item : Reply → Request → Request
with_item item request = record request { waiting = request.waiting ++ item ∷ [] }

abbrev pub without_first : Request → Request
without_first request = record request { waiting = drop 1 request.waiting }

abbrev pub cancelled : Request → Request
cancelled request = record { life = None; waiting = [] }

-- a request that was sent the timeout ago or earlier ends; what waits stays
abbrev pub still_living : ℕ → ℕ → Option Life → Option Life
still_living timeout now None = None
still_living timeout now (Some life) = if nat_lt now (life.moment + timeout) then Some life else None

abbrev pub ticked : ℕ → ℕ → Request → Request
ticked timeout now request = record request { life = still_living timeout now request.life }

-- a live request gets the fault, where there is room, and ends
abbrev pub with_fault : IoKind → Option Life → List Reply → List Reply
with_fault fault None items = items
with_fault fault (Some life) items = if has_room items then items ++ failed_by fault ∷ [] else items

abbrev pub closed : IoKind → Request → Request
closed fault request = record { life = None; waiting = with_fault fault request.life request.waiting }

-- an accepted send is one request more
abbrev pub after_send : ℕ → ℕ → Result ℕ ErrorValue → List Request → List Request
after_send id moment (Ok number) requests = requests ++ sent_under id moment ∷ []
after_send id moment (Err error) requests = requests

-- a response that was queued waits for its request
abbrev pub after_arrival : Result MessageValue DecodeError → Arrival → List Request → List Request
after_arrival (Ok message) (Queued id) requests = changed_at id.0 (with_item (answered_by message)) requests
after_arrival _ _ requests = requests

abbrev pub after : Settings → State → Event → State
after settings state (Send request moment drawn took reply) = record {
  requests = after_send (last_drawn drawn) moment reply state.requests;
  outbound = state.outbound ++ put_out settings.server (Send request moment drawn took reply);
}
after settings state (Arrive bytes reply) =
    record state { requests = after_arrival (message_at bytes) reply state.requests }
after settings state (Take number reply) = record state { requests = changed_at number without_first state.requests }
after settings state (Cancel number) = record state { requests = changed_at number cancelled state.requests }
after settings state (Tick now) = record state { requests = map (ticked settings.timeout now) state.requests }
after settings state (Close fault) = record state { requests = map (closed fault) state.requests }
after settings state (Pop message) = record state { outbound = drop 1 state.outbound }
