-- What a history says of each request: whether it is live, what was queued for it, what waits and what is to be sent.
-- A history is the list of its events, the last one first, so that what stands behind an event came before it: the events in
-- their order are its reverse.
use Rattle.std.specs.Prelude.{ℕ, ◌+◌, Bool, true, false, not, ◌==◌, ◌&&◌, List, [], ◌∷◌, ◌++◌, length, drop, count_by, Option, None, Some, Result, Ok, nat_le, nat_lt, if◌then◌else◌}
use Rattle.std.specs.List.{list_any}
use Rattle.std.specs.Option.{option_map}
use Rattle.std.specs.declared.net.socket_addr.SocketAddr.{SocketAddr}
use Rattle.dns_model.specs.Records.{MessageValue}
use Rattle.dns_message.specs.declared.decode_error.DecodeError.{DecodeError}
use Rattle.dns_message.specs.MessageAt.{message_at}
use Rattle.dns_handle.specs.Errors.{Reply}
use Rattle.dns_multiplexer.specs.Messages.{SerialMessageValue, with_id, answered_by, failed_by}
use Rattle.dns_multiplexer.specs.Events.{Item, Event, Send, Arrive, Take, Cancel, Tick, Close, Pop, last_drawn}

-- so many items wait for a request at most
abbrev pub most_waiting : ℕ
most_waiting = 9

-- ---- live requests

-- an accepted send: the moment and the id, and what came after it
pub record Sending : Type 0 where
  pub moment : ℕ
  pub id : ℕ
  pub later : List Event

abbrev pub is_send_of : ℕ → Event → Bool
is_send_of number (Send request moment drawn took (Ok sent)) = sent == number
is_send_of number _ = false

abbrev pub sending_by : Event → Sending
sending_by (Send request moment drawn took reply) = record { moment = moment; id = last_drawn drawn; later = [] }
sending_by _ = record { moment = 0; id = 0; later = [] }

abbrev pub with_later : Event → Sending → Sending
with_later e sending = record sending { later = e ∷ sending.later }

-- the accepted send of a request
unfoldable pub sending : List Event → ℕ → Option Sending
sending [] number = None
sending (e ∷ before) number =
    if is_send_of number e then Some (sending_by e) else option_map (with_later e) (sending before number)

-- a request that was sent at a moment is ended by its cancel, by a close, and by a tick the timeout after the moment or later
abbrev pub is_ended_by : ℕ → ℕ → ℕ → Event → Bool
is_ended_by timeout number moment (Cancel other) = other == number
is_ended_by timeout number moment (Tick now) = nat_le (moment + timeout) now
is_ended_by timeout number moment (Close fault) = true
is_ended_by timeout number moment _ = false

abbrev pub is_unended : ℕ → ℕ → Option Sending → Bool
is_unended timeout number None = false
is_unended timeout number (Some sent) = not (list_any (is_ended_by timeout number sent.moment) sent.later)

-- a request is live from its accepted send until something ends it
abbrev pub live : ℕ → List Event → ℕ → Bool
live timeout history number = is_unended timeout number (sending history number)

-- the id of a request
abbrev pub id_in : Option Sending → Option ℕ
id_in sent = option_map (λ s. s.id) sent

-- the id under which a request is live; none where it isn't
abbrev pub live_id : ℕ → List Event → ℕ → Option ℕ
live_id timeout history number = if live timeout history number then id_in (sending history number) else None

-- ---- what is queued and what waits

-- the response that bytes are, where they are a message with the id
abbrev pub response_under : Option ℕ → Result MessageValue DecodeError → List Reply
response_under (Some id) (Ok message) = if message.id == id then answered_by message ∷ [] else []
response_under _ _ = []

-- what an event brings to a live request with an id
abbrev pub brought : Option ℕ → Event → List Reply
brought id (Arrive bytes reply) = response_under id (message_at bytes)
brought id (Close fault) = failed_by fault ∷ []
brought id _ = []

-- a take of the request that gave an item
abbrev pub has_taken : ℕ → Event → Bool
has_taken number (Take other (Item reply)) = other == number
has_taken number _ = false

-- of what was queued, what isn't taken
abbrev pub untaken : List Event → ℕ → List Reply → List Reply
untaken history number items = drop (count_by (has_taken number) history) items

-- what an event brings is queued while the request is live and fewer than nine wait
unfoldable pub queued : ℕ → List Event → ℕ → List Reply
queued timeout [] number = []
queued timeout (e ∷ before) number =
    queued timeout before number
    ++ (if live timeout before number && nat_lt (length (untaken before number (queued timeout before number))) most_waiting
    then brought (id_in (sending before number)) e
    else [])

abbrev pub is_cancel_of : ℕ → Event → Bool
is_cancel_of number (Cancel other) = other == number
is_cancel_of number _ = false

abbrev pub is_cancelled : ℕ → Option Sending → Bool
is_cancelled number None = false
is_cancelled number (Some sent) = list_any (is_cancel_of number) sent.later

-- what waits for a request; after its cancel nothing does
abbrev pub waiting : ℕ → List Event → ℕ → List Reply
waiting timeout history number =
    if is_cancelled number (sending history number) then [] else untaken history number (queued timeout history number)

-- ---- what is to be sent

-- the message of a send that the outbound queue took: the request under the id that was drawn last
abbrev pub put_out : SocketAddr → Event → List SerialMessageValue
put_out server (Send (Some request) moment drawn true reply) =
    record { bytes = with_id (last_drawn drawn) request; addr = server } ∷ []
put_out server _ = []

unfoldable pub all_put_out : SocketAddr → List Event → List SerialMessageValue
all_put_out server [] = []
all_put_out server (e ∷ before) = all_put_out server before ++ put_out server e

abbrev pub is_pop : Event → Bool
is_pop (Pop message) = true
is_pop _ = false

-- what waited at the start and what was put out, less as many of the first as were popped
abbrev pub outbound : SocketAddr → List SerialMessageValue → List Event → List SerialMessageValue
outbound server start history = drop (count_by is_pop history) (start ++ all_put_out server history)
