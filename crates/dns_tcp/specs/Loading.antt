-- For private functions only: the steps of a read and of a write, before faults are counted.
use Rattle.std.specs.Prelude.{ℕ, ◌≡◌, ◌≢◌, ◌<◌, ◌≤◌, ◌⊎◌, Bool, true, false, List, [], length, Result, Ok, Err}
use Rattle.std.specs.declared.net.socket_addr.SocketAddr.{SocketAddr}
use Rattle.dns_handle.specs.declared.error.NetError.{NetError}
use Rattle.dns_handle.specs.declared.error.NetError.TheVariants.{Io, NoMemory}
use Rattle.dns_handle.specs.declared.io_kind.IoKind.{IoKind}
use Rattle.dns_handle.specs.declared.io_kind.IoKind.TheVariants.{InvalidData, RequestTooLong}
use Rattle.dns_multiplexer.specs.Messages.{SerialMessageValue}
use Rattle.dns_tcp.specs.declared.feed.Feed.{Feed}
use Rattle.dns_tcp.specs.Draining.{IsLoaded, IsRefused, drain_reply, sent}
use Rattle.dns_tcp.specs.Feeding.{feed_reply, part_after}
use Rattle.dns_tcp.specs.Frames.{lacking, most_framed}
use Rattle.dns_tcp.specs.Links.{LinkView, ReadsOnce, WritesOnce}
use Rattle.dns_tcp.specs.Streams.{StreamValue}

-- a read of what is lacking of a part, or want of room for it
pub data FeedsPart {L : Type 0} (seen : LinkView L) (old_link new_link : L) (peer : SocketAddr) (old new : List ℕ)
    (reply : Result Feed NetError) : Type 0 where
  NoRoomToRead : reply ≡ Err NoMemory → new ≡ old → new_link ≡ old_link → FeedsPart seen old_link new_link peer old new reply
  ReadPart : (outcome : Result (List ℕ) IoKind) → ReadsOnce seen (lacking old) old_link new_link outcome
      → reply ≡ feed_reply peer old outcome → new ≡ part_after old outcome
      → FeedsPart seen old_link new_link peer old new reply

-- a message goes to the peer and has a frame, or why it can't be written
abbrev pub IsChecked : SerialMessageValue → SocketAddr → Result Unit NetError → Type 0
IsChecked message peer (Ok done) = (message.addr ≡ peer) × (length message.bytes ≤ most_framed)
IsChecked message peer (Err error) =
    ((message.addr ≢ peer) × (error ≡ Io InvalidData))
    ⊎ ((message.addr ≡ peer) × (most_framed < length message.bytes) × (error ≡ Io RequestTooLong))

-- bytes are ready to be written; nothing waits; or there is no room for a frame, or none can be made
abbrev pub Loads : StreamValue → StreamValue → Result Bool NetError → Type 0
Loads old new (Ok true) = IsLoaded old new
Loads old new (Ok false) = (old.unsent ≡ []) × (old.queue ≡ []) × (new ≡ old)
Loads old new (Err error) = ((error ≡ NoMemory) ⊎ IsRefused old error) × (new ≡ old)

-- a write of what waits
pub data TriesDrain {L : Type 0} (seen : LinkView L) (old_link new_link : L) (old new : StreamValue)
    (reply : Result Bool NetError) : Type 0 where
  NoRoomToWrite : reply ≡ Err NoMemory → new ≡ old → new_link ≡ old_link → TriesDrain seen old_link new_link old new reply
  TriedIdle : old.unsent ≡ [] → old.queue ≡ [] → reply ≡ Ok true → new ≡ old → new_link ≡ old_link
      → TriesDrain seen old_link new_link old new reply
  TriedRefused : (error : NetError) → IsRefused old error → reply ≡ Err error → new ≡ old → new_link ≡ old_link
      → TriesDrain seen old_link new_link old new reply
  TriedWritten : (loaded : StreamValue) (outcome : Result ℕ IoKind) → IsLoaded old loaded
      → WritesOnce seen loaded.unsent old_link new_link outcome → reply ≡ drain_reply outcome (sent outcome loaded)
      → new ≡ sent outcome loaded → TriesDrain seen old_link new_link old new reply
