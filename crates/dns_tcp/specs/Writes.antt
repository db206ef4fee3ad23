-- What was written to a connection during a call: the frames of messages one behind the other (RFC 1035, 4.2.2).
use Rattle.std.specs.Prelude.{ℕ, ◌≡◌, false, List, [], ◌∷◌, ◌++◌, map, Err}
use Rattle.std.specs.declared.net.socket_addr.SocketAddr.{SocketAddr}
use Rattle.dns_handle.specs.declared.error.NetError.{NetError}
use Rattle.dns_link.specs.Moved.{and_then}
use Rattle.dns_multiplexer.specs.Messages.{SerialMessageValue}
use Rattle.dns_tcp.specs.Causes.{pending}
use Rattle.dns_tcp.specs.Draining.{Drains}
use Rattle.dns_tcp.specs.Frames.{frames}
use Rattle.dns_tcp.specs.Links.{LinkView}
use Rattle.dns_tcp.specs.Streams.{StreamValue}
use Rattle.dns_tcp.specs.Reads.{Sight, sight}

-- bytes that are to go to an address, as a message; no byte is no message
abbrev pub message_to : SocketAddr → List ℕ → List SerialMessageValue
message_to peer [] = []
message_to peer (b ∷ bs) = record { bytes = b ∷ bs; addr = peer } ∷ []

-- messages that a multiplexer has to send, as they are put into the queue of a stream to an address
abbrev pub messages_to : SocketAddr → List SerialMessageValue → List SerialMessageValue
messages_to peer [] = []
messages_to peer (m ∷ ms) = message_to peer m.bytes ++ messages_to peer ms

abbrev pub frames_of : List SerialMessageValue → List ℕ
frames_of messages = frames (map (λ m. m.bytes) messages)

-- messages were put behind those that wait in a stream's queue, and of all that waits then the first bytes were written; the
-- messages whose frames were begun wait no more. The link gave nothing and counted nothing, and of the stream nothing else has changed
pub record HasWritten (old new : Sight) (old_stream new_stream : StreamValue) (moved : List SerialMessageValue) : Type 0 where
  pub written : List ℕ
  pub taken : new.taken ≡ and_then old.taken written
  pub first : pending old_stream ++ frames_of moved ≡ written ++ pending new_stream
  pub begun : List SerialMessageValue
  pub waiting : old_stream.queue ++ moved ≡ begun ++ new_stream.queue
  pub given : new.given ≡ old.given
  pub counts : new.counts ≡ old.counts
  pub kept : new_stream ≡ record old_stream { queue = new_stream.queue; unsent = new_stream.unsent }

-- nothing waits to be written, and the stream hasn't failed
pub record IsIdle (stream : StreamValue) : Type 0 where
  pub queue : stream.queue ≡ []
  pub unsent : stream.unsent ≡ []
  pub unfailed : stream.failed ≡ false

-- the same, and all is written
pub record HasWrittenAll (old new : Sight) (old_stream new_stream : StreamValue) (moved : List SerialMessageValue) : Type 0 where
  pub out : HasWritten old new old_stream new_stream moved
  pub idle : IsIdle new_stream

-- messages were put into the queue, some bytes were written, and then a call of `drain` was answered by an error
pub record HasDrained {L : Type 0} (seen : LinkView L) (old new : Sight) (old_stream new_stream : StreamValue)
    (moved : List SerialMessageValue) (error : NetError) : Type 0 where
  pub link : L
  pub new_link : L
  pub stream : StreamValue
  pub before : HasWritten old (sight seen link) old_stream stream moved
  pub drained : Drains seen link new_link stream new_stream (Err error)
  pub until : new ≡ sight seen new_link
