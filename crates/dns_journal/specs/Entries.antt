-- What a journal keeps of each event of a multiplexer: its arguments and its reply (RFC 1035, 4.1.1; RFC 7766, 6.2.1).
use Rattle.std.specs.Prelude.{ℕ, List, [], ◌∷◌, Option, None, Some, Result, Ok, Err}
use Rattle.dns_handle.specs.declared.io_kind.IoKind.{IoKind}
use Rattle.dns_handle.specs.declared.error.ProtoError.TheVariants as proto
use Rattle.dns_handle.specs.declared.notice.Notice.TheVariants as notices
use Rattle.dns_handle.specs.Errors as seen
use Rattle.dns_handle.specs.Errors.{ErrorValue}
use Rattle.dns_multiplexer.specs.declared.arrival.Arrival.{Arrival}
use Rattle.dns_journal.specs.declared.entry.Found.{Found}
use Rattle.dns_journal.specs.declared.entry.SendRefusal.{SendRefusal}
use Rattle.dns_journal.specs.declared.entry.SendRefusal.TheVariants.{Busy, IdSpaceExhausted, TooLong, QueueFull, NoConnections}
use Rattle.dns_journal.specs.declared.drawn_ids.DrawnIds.{DrawnIds}
use Rattle.dns_journal.specs.declared.drawn_ids.DrawnIds.TheVariants.{Nothing, One, Many}
use Rattle.dns_journal.specs.declared.entry.Entry as rust
use Rattle.dns_journal.specs.declared.entry.Entry.TheVariants as of

-- requests are named by numbers, which count the accepted sends from 0; moments are milliseconds
pub data Entry : Type 0 where
  -- a request as it is encoded under its own id, None where it is too long; the moment; the ids that were drawn for it; and its
  -- number, or why it was refused
  Send : (request : Option (List ℕ)) (moment : ℕ) (drawn : List ℕ) (reply : Result ℕ ErrorValue) → Entry
  -- bytes that came
  Arrive : (bytes : List ℕ) (reply : Arrival) → Entry
  -- what waits for a request is asked for; an item is named by the place of the entry that brought it
  Take : (number : ℕ) (found : Found) → Entry
  Cancel : (number : ℕ) → Entry
  -- what is too old is ended
  Tick : (moment : ℕ) → Entry
  Close : (fault : IoKind) → Entry
  -- the message that was to be sent first is taken out
  Pop : Entry

-- ---- what is kept, as contracts see it

abbrev pub refusal_of : SendRefusal → ErrorValue
refusal_of Busy = seen.Busy
refusal_of IdSpaceExhausted = seen.Message notices.IdSpaceExhausted
refusal_of TooLong = seen.Proto proto.TooLong
refusal_of QueueFull = seen.Message notices.SendQueueFull
refusal_of NoConnections = seen.NoConnections

-- the number of an accepted send, or why it was refused
abbrev pub reply_of : Result ℕ SendRefusal → Result ℕ ErrorValue
reply_of (Ok number) = Ok number
reply_of (Err refusal) = Err (refusal_of refusal)

abbrev pub drawn_of : DrawnIds → List ℕ
drawn_of Nothing = []
drawn_of (One id) = id ∷ []
drawn_of (Many ids) = ids.items

abbrev pub entry_of : rust.Entry → Entry
entry_of (of.Send request moment drawn reply) = Send request moment (drawn_of drawn) (reply_of reply)
entry_of (of.Arrive bytes reply) = Arrive bytes reply
entry_of (of.Take number found) = Take number found
entry_of (of.Cancel number) = Cancel number
entry_of (of.Tick moment) = Tick moment
entry_of (of.Close fault) = Close fault
entry_of of.Pop = Pop
