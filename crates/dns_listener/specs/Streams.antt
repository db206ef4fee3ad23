-- What a port over a connection reads from it, and what it writes to it (RFC 1035, 4.2.2).
use Rattle.std.specs.Prelude.{ℕ, ◌≡◌, ◌⊎◌, List, [], ◌∷◌, Option, None, Some, Result, Ok, Err}
use Rattle.dns_handle.specs.declared.error.NetError.{NetError}
use Rattle.dns_handle.specs.declared.error.NetError.TheVariants as net
use Rattle.dns_handle.specs.declared.io_kind.IoKind.{IoKind}
use Rattle.dns_handle.specs.declared.io_kind.IoKind.TheVariants.{Other, TimedOut}
use Rattle.dns_ports.specs.declared.port.PortFault.{PortFault}
use Rattle.dns_ports.specs.declared.port.PortFault.TheVariants.{Io, NoMemory}
use Rattle.dns_tcp.specs.declared.feed.Feed.TheVariants.{Closed}
use Rattle.dns_tcp.specs.Links.{LinkView}
use Rattle.dns_tcp.specs.Reads.{HasFed, HasRead, sight}
use Rattle.dns_tcp.specs.Streams.{StreamValue}
use Rattle.dns_tcp.specs.Writes.{HasDrained, HasWritten, HasWrittenAll, message_to}

-- the kind of a stream's error; what is no fault of the outside, as want of memory, is `Other`
abbrev pub kind_in : NetError → IoKind
kind_in net.Timeout = TimedOut
kind_in (net.Io kind) = kind
kind_in _ = Other

-- an error of a stream as a port's
abbrev pub fault_in : NetError → PortFault
fault_in net.NoMemory = NoMemory
fault_in net.Timeout = Io TimedOut
fault_in (net.Io kind) = Io kind
fault_in _ = Io Other

-- reading failed
pub record FailsToRead {L : Type 0} (seen : LinkView L) (old_link new_link : L) (old new : StreamValue) (fault : PortFault) : Type 0 where
  pub error : NetError
  pub fed : HasFed seen (sight seen old_link) (sight seen new_link) old new [] (Err error)
  pub told : fault ≡ fault_in error

-- what a port gives: the message that came, which is whole; none, where the client has closed between two; or why reading failed
abbrev pub Gives : {L : Type 0} → LinkView L → L → L → StreamValue → StreamValue → Result (Option (List ℕ)) PortFault → Type 0
Gives seen old_link new_link old new (Ok (Some request)) =
    HasRead (sight seen old_link) (sight seen new_link) old new (request ∷ []) × (new.part ≡ [])
Gives seen old_link new_link old new (Ok None) =
    HasFed seen (sight seen old_link) (sight seen new_link) old new [] (Ok Closed)
Gives seen old_link new_link old new (Err fault) = FailsToRead seen old_link new_link old new fault

-- the bytes of a message wait behind what waited before, where there are any
abbrev pub IsQueued : {L : Type 0} → LinkView L → L → StreamValue → StreamValue → List ℕ → Type 0
IsQueued seen link old new bytes = HasWritten (sight seen link) (sight seen link) old new (message_to old.peer bytes)

-- a message of these bytes was written behind what waited before; or it found no place, and nothing has changed; or writing failed
abbrev pub Writes : {L : Type 0} → LinkView L → L → L → StreamValue → StreamValue → List ℕ → Result Unit NetError → Type 0
Writes seen old_link new_link old new bytes (Ok done) =
    HasWrittenAll (sight seen old_link) (sight seen new_link) old new (message_to old.peer bytes)
Writes seen old_link new_link old new bytes (Err error) =
    ((new_link ≡ old_link) × (new ≡ old))
    ⊎ HasDrained seen (sight seen old_link) (sight seen new_link) old new (message_to old.peer bytes) error

-- why a reply wasn't written
pub record FailsToReply {L : Type 0} (seen : LinkView L) (old_link new_link : L) (old new : StreamValue) (bytes : List ℕ)
    (kind : IoKind) : Type 0 where
  pub error : NetError
  pub written : Writes seen old_link new_link old new bytes (Err error)
  pub told : kind ≡ kind_in error

-- what becomes of a reply
abbrev pub Replies : {L : Type 0} → LinkView L → L → L → StreamValue → StreamValue → List ℕ → Result Unit IoKind → Type 0
Replies seen old_link new_link old new bytes (Ok done) = Writes seen old_link new_link old new bytes (Ok done)
Replies seen old_link new_link old new bytes (Err kind) = FailsToReply seen old_link new_link old new bytes kind
