-- When each answer of `feed` and of `drain` may come, and which has to come, by what the link counted (RFC 1035, 4.2.2).
use Rattle.std.specs.Prelude.{ℕ, ◌≡◌, ◌≢◌, ◌<◌, ◌⊎◌, Bool, true, false, List, [], ◌∷◌, ◌++◌, length, map, Result, Ok, Err, OnOk}
use Rattle.dns_model.specs.Counts.{Rose, RoseBy}
use Rattle.dns_handle.specs.Conversions.{outside_failed}
use Rattle.dns_handle.specs.declared.error.NetError.{NetError}
use Rattle.dns_handle.specs.declared.error.NetError.TheVariants.{Io, Timeout, NoMemory}
use Rattle.dns_handle.specs.declared.io_kind.IoKind.{IoKind}
use Rattle.dns_handle.specs.declared.io_kind.IoKind.TheVariants.{BrokenPipe, InvalidData, NotConnected, Other, RequestTooLong}
use Rattle.dns_link.specs.Counts.{CountsValue}
use Rattle.dns_link.specs.Moved.{and_then}
use Rattle.dns_multiplexer.specs.Messages.{SerialMessageValue}
use Rattle.dns_tcp.specs.declared.feed.Feed.{Feed}
use Rattle.dns_tcp.specs.declared.feed.Feed.TheVariants.{More, Message, Closed}
use Rattle.dns_tcp.specs.Draining.{is_drained}
use Rattle.dns_tcp.specs.Feeding.{end_reply, frame_reply}
use Rattle.dns_tcp.specs.Frames.{frames, most_framed}
use Rattle.dns_tcp.specs.Links.{LinkView}
use Rattle.dns_tcp.specs.Streams.{StreamValue}

-- the reply is what a fault of a link is answered, of some kind
pub record IsLinkFault {X : Type 0} (reply : Result X NetError) : Type 0 where
  pub kind : IoKind
  pub told : reply ≡ Err (outside_failed kind)

-- none of these counts has fallen
pub record IsLater (met now : CountsValue) : Type 0 where
  pub faults : RoseBy 0 met.faults now.faults
  pub ends : RoseBy 0 met.ends now.ends
  pub gots : RoseBy 0 met.gots now.gots

-- ---- feed

-- a kind of fault: that there is no connection, after an earlier fault; a broken pipe, where the link ended inside a frame or
-- gave a length of 0; and each kind where the link failed
abbrev pub FeedFault : CountsValue → CountsValue → StreamValue → IoKind → Type 0
FeedFault met now old NotConnected = (old.failed ≡ true) ⊎ Rose met.faults now.faults
FeedFault met now old BrokenPipe =
    ((old.part ≢ []) × Rose met.ends now.ends) ⊎ (Rose met.gots now.gots ⊎ Rose met.faults now.faults)
FeedFault met now old _ = Rose met.faults now.faults

-- what each answer of `feed` comes from
abbrev pub FeedCause : CountsValue → CountsValue → StreamValue → Result Feed NetError → Type 0
FeedCause met now old (Ok More) = Rose met.gots now.gots
FeedCause met now old (Ok (Message message)) = Rose met.gots now.gots
FeedCause met now old (Ok Closed) = (old.part ≡ []) × Rose met.ends now.ends
FeedCause met now old (Err NoMemory) = now ≡ met
FeedCause met now old (Err Timeout) = Rose met.faults now.faults
FeedCause met now old (Err (Io kind)) = FeedFault met now old kind
FeedCause met now old (Err _) = ⊥

-- the bytes that were read behind the part are answered as a frame: by its message, as broken where its length is 0, or as more
pub record IsFrameReply (old : StreamValue) (reply : Result Feed NetError) : Type 0 where
  pub read : List ℕ
  pub some : read ≢ []
  pub told : reply ≡ frame_reply old.peer (old.part ++ read)

-- why a call of `feed` is answered so, and what it has to answer where the link failed, ended or gave bytes
pub record FeedAnswer (met now : CountsValue) (old : StreamValue) (reply : Result Feed NetError) : Type 0 where
  pub later : IsLater met now
  pub cause : FeedCause met now old reply
  pub after_fault : old.failed ≡ true → reply ≡ Err (Io NotConnected)
  pub failed : met.faults < now.faults → IsLinkFault reply
  pub ended : met.ends < now.ends → reply ≡ end_reply old.part
  pub gave : met.gots < now.gots → IsFrameReply old reply

-- ---- drain

-- no frame is being written, and the next message is this one
abbrev pub IsNextMessage : StreamValue → SerialMessageValue → List SerialMessageValue → Type 0
IsNextMessage stream message rest = (stream.unsent ≡ []) × (stream.queue ≡ message ∷ rest)

-- the next message goes to another address than the peer's
pub record IsMisaddressed (stream : StreamValue) : Type 0 where
  pub message : SerialMessageValue
  pub rest : List SerialMessageValue
  pub next : IsNextMessage stream message rest
  pub elsewhere : message.addr ≢ stream.peer

-- the next message goes to the peer, and has no frame
pub record IsOverlong (stream : StreamValue) : Type 0 where
  pub message : SerialMessageValue
  pub rest : List SerialMessageValue
  pub next : IsNextMessage stream message rest
  pub addressed : message.addr ≡ stream.peer
  pub long : most_framed < length message.bytes

-- a kind of fault: each comes where the link failed, and these four of the stream's own
abbrev pub DrainFault : CountsValue → CountsValue → StreamValue → IoKind → Type 0
DrainFault met now old NotConnected = (old.failed ≡ true) ⊎ Rose met.faults now.faults
DrainFault met now old InvalidData = IsMisaddressed old ⊎ Rose met.faults now.faults
DrainFault met now old RequestTooLong = IsOverlong old ⊎ Rose met.faults now.faults
DrainFault met now old Other = Rose met.ends now.ends ⊎ Rose met.faults now.faults
DrainFault met now old _ = Rose met.faults now.faults

-- what each answer of `drain` comes from
abbrev pub DrainCause : CountsValue → CountsValue → StreamValue → StreamValue → Result Bool NetError → Type 0
DrainCause met now old new (Ok all) = all ≡ is_drained new
DrainCause met now old new (Err NoMemory) = now ≡ met
DrainCause met now old new (Err Timeout) = Rose met.faults now.faults
DrainCause met now old new (Err (Io kind)) = DrainFault met now old kind
DrainCause met now old new (Err _) = ⊥

-- why a call of `drain` is answered so, and what it has to answer where the link failed or took nothing, or the next message
-- can't be written; there alone memory may lack too
pub record DrainAnswer (met now : CountsValue) (old new : StreamValue) (reply : Result Bool NetError) : Type 0 where
  pub later : IsLater met now
  pub cause : DrainCause met now old new reply
  pub after_fault : old.failed ≡ true → reply ≡ Err (Io NotConnected)
  pub misaddressed : old.failed ≡ false → IsMisaddressed old → (reply ≡ Err (Io InvalidData)) ⊎ (reply ≡ Err NoMemory)
  pub overlong : old.failed ≡ false → IsOverlong old → (reply ≡ Err (Io RequestTooLong)) ⊎ (reply ≡ Err NoMemory)
  pub failed : met.faults < now.faults → IsLinkFault reply
  pub ended : met.ends < now.ends → reply ≡ Err (Io Other)

-- the bytes that are to be written: the rest of a frame, and the frames of the messages that wait
abbrev pub pending : StreamValue → List ℕ
pending stream = stream.unsent ++ frames (map (λ m. m.bytes) stream.queue)

-- the bytes that were written are the first of those that were to be; some where there were any, unless an error is answered;
-- all of them where the answer is true, and not all where it is false
pub record IsWritten {L : Type 0} (seen : LinkView L) (old_link new_link : L) (old new : StreamValue)
    (reply : Result Bool NetError) : Type 0 where
  pub written : List ℕ
  pub taken : seen.taken new_link ≡ and_then (seen.taken old_link) written
  pub first : pending old ≡ written ++ pending new
  pub some : pending old ≢ [] → OnOk reply (written ≢ [])
  pub all : reply ≡ Ok true → pending new ≡ []
  pub less : reply ≡ Ok false → length (pending new) < length (pending old)
