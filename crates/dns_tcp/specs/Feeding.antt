-- How a call of `feed` is answered, by the one read that it makes (RFC 1035, 4.2.2).
use Rattle.std.specs.Prelude.{ℕ, ◌≡◌, ◌==◌, true, false, List, [], ◌∷◌, ◌++◌, drop, Result, Ok, Err, OnOk, if◌then◌else◌}
use Rattle.std.specs.Io.KnownBytes.{prepend_known}
use Rattle.std.specs.declared.net.socket_addr.SocketAddr.{SocketAddr}
use Rattle.dns_handle.specs.Conversions.{outside_failed}
use Rattle.dns_handle.specs.declared.error.NetError.{NetError}
use Rattle.dns_handle.specs.declared.error.NetError.TheVariants.{Io, NoMemory}
use Rattle.dns_handle.specs.declared.io_kind.IoKind.{IoKind}
use Rattle.dns_handle.specs.declared.io_kind.IoKind.TheVariants.{BrokenPipe, NotConnected}
use Rattle.dns_link.specs.Moved.{and_then}
use Rattle.dns_tcp.specs.declared.feed.Feed.{Feed}
use Rattle.dns_tcp.specs.declared.feed.Feed.TheVariants.{More, Message, Closed}
use Rattle.dns_tcp.specs.Frames.{HasFrame, frame, lacking}
use Rattle.dns_tcp.specs.Links.{LinkView, ReadsOnce}
use Rattle.dns_tcp.specs.Streams.{StreamValue, after_reply, with_failure, with_fault}

-- a whole frame gives its message; one of length 0 is none
abbrev pub message_reply : SocketAddr → List ℕ → Result Feed NetError
message_reply peer [] = Err (Io BrokenPipe)
message_reply peer (b ∷ bs) = Ok (Message (record { bytes = b ∷ bs; addr = peer }))

-- bytes that begin a frame: its message once it is whole
abbrev pub frame_reply : SocketAddr → List ℕ → Result Feed NetError
frame_reply peer bytes = if lacking bytes == 0 then message_reply peer (drop 2 bytes) else Ok More

-- the link ended: between frames, or inside one
abbrev pub end_reply : List ℕ → Result Feed NetError
end_reply [] = Ok Closed
end_reply (b ∷ bs) = Err (Io BrokenPipe)

-- behind the bytes of a part a read gave others, found the end, or failed
abbrev pub feed_reply : SocketAddr → List ℕ → Result (List ℕ) IoKind → Result Feed NetError
feed_reply peer part (Ok []) = end_reply part
feed_reply peer part (Ok (b ∷ bs)) = frame_reply peer (part ++ b ∷ bs)
feed_reply peer part (Err kind) = Err (outside_failed kind)

-- a whole frame is used up
abbrev pub unused : List ℕ → List ℕ
unused bytes = if lacking bytes == 0 then [] else bytes

abbrev pub part_after : List ℕ → Result (List ℕ) IoKind → List ℕ
part_after part (Ok []) = part
part_after part (Ok (b ∷ bs)) = unused (part ++ b ∷ bs)
part_after part (Err kind) = part

-- that the link is closed is counted, and no fault
abbrev pub after_feed_reply : Result Feed NetError → StreamValue → StreamValue
after_feed_reply (Ok Closed) stream = with_failure stream
after_feed_reply reply stream = after_reply reply stream

abbrev pub after_feed : Result (List ℕ) IoKind → StreamValue → StreamValue
after_feed outcome stream =
    after_feed_reply (feed_reply stream.peer stream.part outcome) (record stream { part = part_after stream.part outcome })

-- a call of `feed`
pub data Feeds {L : Type 0} (seen : LinkView L) (old_link new_link : L) (old new : StreamValue) (reply : Result Feed NetError) : Type 0 where
  -- there was no room for the bytes, and nothing was read
  NoRoom : old.failed ≡ false → reply ≡ Err NoMemory → new ≡ old → new_link ≡ old_link → Feeds seen old_link new_link old new reply
  -- a fault came before
  HadFailed : old.failed ≡ true → reply ≡ Err (Io NotConnected) → new ≡ with_fault old → new_link ≡ old_link
      → Feeds seen old_link new_link old new reply
  -- the link was read once, at most for what is lacking
  Read : (outcome : Result (List ℕ) IoKind) → old.failed ≡ false → ReadsOnce seen (lacking old.part) old_link new_link outcome
      → reply ≡ feed_reply old.peer old.part outcome → new ≡ after_feed outcome old
      → Feeds seen old_link new_link old new reply

-- ---- what follows

-- the frame of the message that was given
abbrev pub frame_given : Result Feed NetError → List ℕ
frame_given (Ok (Message message)) = frame message.bytes
frame_given _ = []

-- a message that was given has a frame
abbrev pub GivesFrame : Result Feed NetError → Type 0
GivesFrame (Ok (Message message)) = HasFrame message.bytes
GivesFrame _ = Unit {0}

-- the bytes that were read are those of the message that was given, and those that aren't used yet
pub record IsFramed {L : Type 0} (seen : LinkView L) (old_link new_link : L) (old new : List ℕ) (reply : Result Feed NetError) : Type 0 where
  pub read : List ℕ
  pub given : seen.given new_link ≡ and_then (seen.given old_link) read
  pub left : seen.left old_link ≡ prepend_known read (seen.left new_link)
  pub used : OnOk reply (old ++ read ≡ frame_given reply ++ new)
