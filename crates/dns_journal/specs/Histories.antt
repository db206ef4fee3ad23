-- What a journal stands for: a history of the multiplexer, the state after it, and whether it can be. The entries are given as a
-- past: the last one first, so that what stands behind an entry came before it. A place counts from the first entry, from 0.
use Rattle.std.specs.Prelude.{ℕ, ◌≡◌, ◌≢◌, Bool, true, false, List, [], ◌∷◌, ◌++◌, length, map, take, drop, reverse, slice_get, Option, None, Some, Result, Ok, Err, is_ok, if◌then◌else◌}
use Rattle.std.specs.List.{list_any}
use Rattle.dns_model.specs.Records.{MessageValue}
use Rattle.dns_message.specs.declared.decode_error.DecodeError.{DecodeError}
use Rattle.dns_message.specs.MessageAt.{message_at}
use Rattle.dns_handle.specs.Errors.{ErrorValue, Reply, NoConnections}
use Rattle.dns_multiplexer.specs.Messages.{answered_by, failed_by}
use Rattle.dns_multiplexer.specs.Events as mux
use Rattle.dns_multiplexer.specs.Events.{Event, TakenValue, Item}
use Rattle.dns_multiplexer.specs.Machine.{Settings, State, IsAnswered, changed_at}
use Rattle.dns_multiplexer.specs.Brought.{brought_at, brought_by_send, brought_by_arrival, brought_by_close}
use Rattle.dns_multiplexer.specs.Draws.{CoreValue}
use Rattle.dns_multiplexer.specs.Runs.{replay}
use Rattle.dns_journal.specs.declared.entry.Found.{Found}
use Rattle.dns_journal.specs.declared.entry.Found.TheVariants.{At, Pending, Ended}
use Rattle.dns_journal.specs.Entries.{Entry, Send, Arrive, Take, Cancel, Tick, Close, Pop}

-- ---- what takes gave

-- the response that bytes are
abbrev pub response_in : Result MessageValue DecodeError → Option Reply
response_in (Ok message) = Some (answered_by message)
response_in (Err error) = None

-- the item that an event brings: a response, or the fault by which the connection ended
abbrev pub item_by : Entry → Option Reply
item_by (Arrive bytes reply) = response_in (message_at bytes)
item_by (Close fault) = Some (failed_by fault)
item_by _ = None

abbrev pub item_in : Option Entry → Option Reply
item_in None = None
item_in (Some e) = item_by e

-- the item that the entry at a place brought
abbrev pub item_at : List Entry → ℕ → Option Reply
item_at past place = item_in (slice_get (reverse past) place)

abbrev pub item_or_end : Option Reply → TakenValue
item_or_end None = mux.Ended
item_or_end (Some reply) = Item reply

-- what a take gave
abbrev pub taken_at : List Entry → Found → TakenValue
taken_at past (At place) = item_or_end (item_at past place)
taken_at past Pending = mux.Pending
taken_at past Ended = mux.Ended

abbrev pub place_in : Found → Option ℕ
place_in (At place) = Some place
place_in _ = None

-- ---- the history

abbrev pub is_close : Entry → Bool
is_close (Close fault) = true
is_close _ = false

-- whether the connection has ended
abbrev pub is_closed : List Entry → Bool
is_closed past = list_any is_close past

-- the events of the multiplexer that an entry stands for: a send after a close is none
abbrev pub events_by : State → List Entry → Entry → List Event
events_by state past (Send request moment drawn reply) =
    if is_closed past then [] else mux.Send request moment drawn (is_ok reply) reply ∷ []
events_by state past (Arrive bytes reply) = mux.Arrive bytes reply ∷ []
events_by state past (Take number found) = mux.Take number (taken_at past found) ∷ []
events_by state past (Cancel number) = mux.Cancel number ∷ []
events_by state past (Tick moment) = mux.Tick moment ∷ []
events_by state past (Close fault) = mux.Close fault ∷ []
events_by state past Pop = map mux.Pop (take 1 state.outbound)

-- the history of the multiplexer, the last event first, from an empty queue
unfoldable pub history : Settings → List Entry → List Event
history about [] = []
history about (e ∷ past) = events_by (replay about [] (history about past)) past e ++ history about past

abbrev pub state_after : Settings → List Entry → State
state_after about past = replay about [] (history about past)

-- the multiplexer after its history: a close shuts it down
abbrev pub machine_after : Settings → List Entry → CoreValue
machine_after about past = record { settings = about; state = state_after about past; is_shutdown = is_closed past }

abbrev pub brought_by : State → ℕ → Entry → List (List ℕ) → List (List ℕ)
brought_by state place (Send request moment drawn reply) brought = brought_by_send reply brought
brought_by state place (Arrive bytes reply) brought = brought_by_arrival reply place brought
brought_by state place (Take number found) brought = changed_at number (drop 1) brought
brought_by state place (Cancel number) brought = changed_at number (λ _. []) brought
brought_by state place (Close fault) brought = brought_by_close place state.requests brought
brought_by state place (Tick moment) brought = brought
brought_by state place Pop brought = brought

-- of each request the places of the entries that brought what waits for it
unfoldable pub brought_after : Settings → List Entry → List (List ℕ)
brought_after about [] = []
brought_after about (e ∷ past) = brought_by (state_after about past) (length past) e (brought_after about past)

-- ---- the journals that can be

-- after a close a send is refused and draws no id; before one it is answered as the machine answers
abbrev pub IsRepliedSend : Settings → State → Bool → Option (List ℕ) → ℕ → List ℕ → Result ℕ ErrorValue → Type 0
IsRepliedSend about state true request moment drawn reply = (drawn ≡ []) × (reply ≡ Err NoConnections)
IsRepliedSend about state false request moment drawn reply =
    IsAnswered about state (mux.Send request moment drawn (is_ok reply) reply)

-- a take names the entry that brought the first item that waits, and gave what the machine gives
pub record IsRepliedTake (about : Settings) (past : List Entry) (number : ℕ) (found : Found) : Type 0 where
  pub place : place_in found ≡ slice_get (brought_at (brought_after about past) number) 0
  pub answered : IsAnswered about (state_after about past) (mux.Take number (taken_at past found))

-- an entry's reply is the machine's; a message is taken out where one waits
abbrev pub IsReplied : Settings → List Entry → Entry → Type 0
IsReplied about past (Send request moment drawn reply) =
    IsRepliedSend about (state_after about past) (is_closed past) request moment drawn reply
IsReplied about past (Arrive bytes reply) = IsAnswered about (state_after about past) (mux.Arrive bytes reply)
IsReplied about past (Take number found) = IsRepliedTake about past number found
IsReplied about past Pop = (state_after about past).outbound ≢ []
IsReplied about past _ = Unit {0}

-- each entry's reply is the machine's at its place
unfoldable pub IsLegal : Settings → List Entry → Type 0
IsLegal about [] = Unit {0}
IsLegal about (e ∷ past) = IsLegal about past × IsReplied about past e
