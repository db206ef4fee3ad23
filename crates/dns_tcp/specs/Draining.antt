-- How a call of `drain` is answered, by the one write that it makes (RFC 1035, 4.2.2).
use Rattle.std.specs.Prelude.{ℕ, ◌≡◌, ◌≢◌, ◌<◌, ◌≤◌, ◌==◌, ◌&&◌, Bool, true, false, List, [], ◌∷◌, drop, length, Result, Ok, Err, if◌then◌else◌}
use Rattle.dns_handle.specs.Conversions.{outside_failed}
use Rattle.dns_handle.specs.declared.error.NetError.{NetError}
use Rattle.dns_handle.specs.declared.error.NetError.TheVariants.{Io, NoMemory}
use Rattle.dns_handle.specs.declared.io_kind.IoKind.{IoKind}
use Rattle.dns_handle.specs.declared.io_kind.IoKind.TheVariants.{InvalidData, NotConnected, Other, RequestTooLong}
use Rattle.dns_multiplexer.specs.Messages.{SerialMessageValue}
use Rattle.dns_tcp.specs.Frames.{frame, most_framed}
use Rattle.dns_tcp.specs.Links.{LinkView, WritesOnce}
use Rattle.dns_tcp.specs.Streams.{StreamValue, after_reply, with_fault}

abbrev pub is_nil : {X : Type 0} → List X → Bool
is_nil [] = true
is_nil (x ∷ xs) = false

-- nothing is left to be written
abbrev pub is_drained : StreamValue → Bool
is_drained stream = is_nil stream.unsent && is_nil stream.queue

-- the stream with bytes to be written: the rest of a frame, or the next message's. A queue holds no message without a byte, since
-- what puts one there has that condition; its frame would be a length of 0, which a reader takes for a fault
pub data IsLoaded (old loaded : StreamValue) : Type 0 where
  Begun : old.unsent ≢ [] → loaded ≡ old → IsLoaded old loaded
  Next : (message : SerialMessageValue) (rest : List SerialMessageValue) → old.unsent ≡ [] → old.queue ≡ message ∷ rest
      → message.addr ≡ old.peer → length message.bytes ≤ most_framed
      → loaded ≡ record old { unsent = frame message.bytes; queue = rest } → IsLoaded old loaded

-- the next message goes to another address, or has no frame
pub data IsRefused (old : StreamValue) (error : NetError) : Type 0 where
  Misaddressed : (message : SerialMessageValue) (rest : List SerialMessageValue) → old.unsent ≡ [] → old.queue ≡ message ∷ rest
      → message.addr ≢ old.peer → error ≡ Io InvalidData → IsRefused old error
  TooLong : (message : SerialMessageValue) (rest : List SerialMessageValue) → old.unsent ≡ [] → old.queue ≡ message ∷ rest
      → message.addr ≡ old.peer → most_framed < length message.bytes → error ≡ Io RequestTooLong → IsRefused old error

-- so many bytes were written
abbrev pub sent : Result ℕ IoKind → StreamValue → StreamValue
sent (Ok n) stream = record stream { unsent = drop n stream.unsent }
sent (Err kind) stream = stream

-- the link took some bytes, none, or failed; and whether nothing is left then
abbrev pub drain_reply : Result ℕ IoKind → StreamValue → Result Bool NetError
drain_reply (Ok n) after = if n == 0 then Err (Io Other) else Ok (is_drained after)
drain_reply (Err kind) after = Err (outside_failed kind)

abbrev pub after_drain : Result ℕ IoKind → StreamValue → StreamValue
after_drain outcome loaded = after_reply (drain_reply outcome (sent outcome loaded)) (sent outcome loaded)

-- a call of `drain`
pub data Drains {L : Type 0} (seen : LinkView L) (old_link new_link : L) (old new : StreamValue) (reply : Result Bool NetError) : Type 0 where
  -- there was no room for the frame, and nothing was written
  NoRoom : old.failed ≡ false → reply ≡ Err NoMemory → new ≡ old → new_link ≡ old_link → Drains seen old_link new_link old new reply
  -- a fault came before
  HadFailed : old.failed ≡ true → reply ≡ Err (Io NotConnected) → new ≡ with_fault old → new_link ≡ old_link
      → Drains seen old_link new_link old new reply
  -- nothing waits
  Idle : old.failed ≡ false → old.unsent ≡ [] → old.queue ≡ [] → reply ≡ Ok true → new ≡ old → new_link ≡ old_link
      → Drains seen old_link new_link old new reply
  -- the next message can't be written
  Refused : (error : NetError) → old.failed ≡ false → IsRefused old error → reply ≡ Err error → new ≡ with_fault old
      → new_link ≡ old_link → Drains seen old_link new_link old new reply
  -- the link was written once
  Written : (loaded : StreamValue) (outcome : Result ℕ IoKind) → old.failed ≡ false → IsLoaded old loaded
      → WritesOnce seen loaded.unsent old_link new_link outcome → reply ≡ drain_reply outcome (sent outcome loaded)
      → new ≡ after_drain outcome loaded → Drains seen old_link new_link old new reply
