-- What happens to a multiplexer: each call with its arguments and its reply.
use Rattle.std.specs.Prelude.{ℕ, Bool, List, [], ◌∷◌, Option, Result}
use Rattle.dns_handle.specs.declared.io_kind.IoKind.{IoKind}
use Rattle.dns_handle.specs.Errors.{ErrorValue, Reply}
use Rattle.dns_multiplexer.specs.declared.arrival.Arrival.{Arrival}
use Rattle.dns_multiplexer.specs.Messages.{SerialMessageValue}

-- what a `take` gives: the first item that waits; that nothing waits yet, or that nothing will come any more
pub data TakenValue : Type 0 where
  Item : (reply : Reply) → TakenValue
  Pending : TakenValue
  Ended : TakenValue

-- requests are named by numbers, which count the accepted sends from 0; moments are milliseconds
pub data Event : Type 0 where
  -- a request as it is encoded under its own id, None where it is too long; the moment; the ids that were drawn for it;
  -- whether the outbound queue took it; and its number, or why it was refused
  Send : (request : Option (List ℕ)) (moment : ℕ) (drawn : List ℕ) (took : Bool) (reply : Result ℕ ErrorValue) → Event
  -- bytes that came
  Arrive : (bytes : List ℕ) (reply : Arrival) → Event
  -- what waits for a request is asked for
  Take : (number : ℕ) (reply : TakenValue) → Event
  Cancel : (number : ℕ) → Event
  -- what is too old is ended
  Tick : (moment : ℕ) → Event
  Close : (fault : IoKind) → Event
  -- a message was taken out of the outbound queue
  Pop : (message : SerialMessageValue) → Event

-- the last of the ids that were drawn: that of an accepted send
unfoldable pub last_drawn : List ℕ → ℕ
last_drawn [] = 0
last_drawn (id ∷ []) = id
last_drawn (id ∷ next ∷ rest) = last_drawn (next ∷ rest)
