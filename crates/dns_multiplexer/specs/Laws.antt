-- The laws of a multiplexer's histories: its state and its replies are what the history says.
use Rattle.std.specs.Prelude.{◌≡◌, ◌≢◌, ◌≤◌, ◌<◌, ℕ, List, ◌∷◌, Some, Result, Ok, Err, length, slice_get}
use Rattle.dns_model.specs.Records.{MessageValue}
use Rattle.dns_message.specs.declared.decode_error.DecodeError.{DecodeError}
use Rattle.dns_message.specs.MessageAt.{message_at}
use Rattle.dns_multiplexer.specs.declared.arrival.Arrival.{Arrival}
use Rattle.dns_multiplexer.specs.declared.arrival.Arrival.TheVariants.{Undecodable, Stranger, Full, Queued}
use Rattle.dns_multiplexer.specs.Messages.{SerialMessageValue}
use Rattle.dns_multiplexer.specs.Events.{Event, Arrive, Take, Pop}
use Rattle.dns_multiplexer.specs.History.{live, live_id, waiting, outbound, most_waiting}
use Rattle.dns_multiplexer.specs.Machine.{Settings, State, first_or_end, with_maximum}
use Rattle.dns_multiplexer.specs.Draws.{Plays}
use Rattle.dns_multiplexer.specs.Runs.{replay, IsPlayed, IsToldBy}

-- a call after a history is one event more, whatever number of live requests was set before it
abbrev pub CallsAreEvents : Type 0
CallsAreEvents = (settings : Settings) (start : List SerialMessageValue) (history : List Event) (maximum : ℕ) (e : Event) (new : State)
    → IsPlayed settings start history
    → Plays (with_maximum maximum settings) (replay settings start history) new e
    → IsPlayed settings start (e ∷ history) × (new ≡ replay settings start (e ∷ history))

-- after each history that can be, the state is what the history says
abbrev pub StatesAreTold : Type 0
StatesAreTold = (settings : Settings) (start : List SerialMessageValue) (history : List Event)
    → IsPlayed settings start history → IsToldBy settings start history (replay settings start history)

-- a request is live under the id, and as many items wait for it as may
pub record IsHeldInFull (timeout : ℕ) (before : List Event) (id : ℕ) : Type 0 where
  pub number : ℕ
  pub holds : live_id timeout before number ≡ Some id
  pub waits : most_waiting ≤ length (waiting timeout before number)

-- what became of a message with an id: no request is live under it; it waits for the one that is, or that has no room for it
abbrev pub IsToldArrival : ℕ → List Event → ℕ → Arrival → Type 0
IsToldArrival timeout before id Stranger = (number : ℕ) → live_id timeout before number ≢ Some id
IsToldArrival timeout before id (Queued number) =
    (live_id timeout before number.0 ≡ Some id) × (length (waiting timeout before number.0) < most_waiting)
IsToldArrival timeout before id Full = IsHeldInFull timeout before id
IsToldArrival timeout before id (Undecodable error) = ⊥

abbrev pub IsToldOfBytes : ℕ → List Event → Result MessageValue DecodeError → Arrival → Type 0
IsToldOfBytes timeout before (Err error) reply = reply ≡ Undecodable error
IsToldOfBytes timeout before (Ok message) reply = IsToldArrival timeout before message.id reply

-- a reply by what the history before it says: an arrival waits for the request that is live under its id; a take gives the first
-- that waits, and where nothing waits whether the request is live; a pop gives the first that is to be sent
abbrev pub IsToldReply : Settings → List SerialMessageValue → List Event → Event → Type 0
IsToldReply settings start before (Arrive bytes reply) = IsToldOfBytes settings.timeout before (message_at bytes) reply
IsToldReply settings start before (Take number reply) =
    reply ≡ first_or_end (live settings.timeout before number) (waiting settings.timeout before number)
IsToldReply settings start before (Pop message) = Some message ≡ slice_get (outbound settings.server start before) 0
IsToldReply settings start before _ = Unit {0}

-- in each history that can be, the last reply is what the history before it says
abbrev pub RepliesAreTold : Type 0
RepliesAreTold = (settings : Settings) (start : List SerialMessageValue) (before : List Event) (e : Event)
    → IsPlayed settings start (e ∷ before) → IsToldReply settings start before e
