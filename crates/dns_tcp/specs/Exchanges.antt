-- How a send over one connection is answered (RFC 1035, 4.1.1 and 4.2.2; RFC 7766, 6).
use Rattle.std.specs.Prelude.{ℕ, ◌≡◌, ◌*◌, ◌-◌, ◌^◌, ◌<◌, ◌==◌, min, Bool, true, false, List, [], ◌∷◌, ◌++◌, length, Option, None, Result, Ok, Err}
use Rattle.std.specs.List.{list_any}
use Rattle.dns_model.specs.Records.{MessageValue, Question}
use Rattle.dns_message.specs.declared.decode_error.DecodeError.{DecodeError}
use Rattle.dns_message.specs.MessageAt.{message_at}
use Rattle.dns_handle.specs.declared.error.NetError.{NetError}
use Rattle.dns_handle.specs.declared.io_kind.IoKind.TheVariants.{UnexpectedEof}
use Rattle.dns_handle.specs.Errors.{ErrorValue, Io, NoConnections, NoMemory, Reply, Timeout}
use Rattle.dns_handle.specs.Replies.{error_of}
use Rattle.dns_handle.specs.Requests.{RequestValue, first_question}
use Rattle.dns_multiplexer.specs.Draws.{CoreValue, Drawn, IsSend, request_bytes}
use Rattle.dns_multiplexer.specs.Events.{last_drawn}
use Rattle.dns_multiplexer.specs.Machine.{State}
use Rattle.dns_multiplexer.specs.Messages.{SerialMessageValue, answered_by}
use Rattle.dns_multiplexer.specs.Runs.{life_at}
use Rattle.dns_tcp.specs.declared.feed.Feed.TheVariants.{Closed}
use Rattle.dns_tcp.specs.Links.{LinkView}
use Rattle.dns_tcp.specs.Streams.{StreamValue}
use Rattle.dns_tcp.specs.Reads.{HasFed, HasRead, Sight, sight}
use Rattle.dns_tcp.specs.Writes.{HasDrained, HasWrittenAll, messages_to}

-- so many messages are waited for
abbrev pub most_messages : ℕ
most_messages = 1024

-- a moment in milliseconds, of one in seconds; it stops at the greatest 64-bit number
abbrev pub milliseconds : ℕ → ℕ
milliseconds seconds = min (seconds * 1000) (2 ^ 64 - 1)

abbrev pub has_message_id : ℕ → Result MessageValue DecodeError → Bool
has_message_id id (Ok message) = message.id == id
has_message_id id (Err error) = false

-- the bytes are a message with the id
abbrev pub answers : ℕ → List ℕ → Bool
answers id bytes = has_message_id id (message_at bytes)

-- what a send has in hands: the link, the stream without it, the multiplexer without its generator, and that
pub record Parts (L R : Type 0) : Type 0 where
  pub link : L
  pub stream : StreamValue
  pub core : CoreValue
  pub draws : R

-- of the requests of a multiplexer none is live that wasn't
abbrev pub NoneRevived : State → State → Type 0
NoneRevived old new = (number : ℕ) → life_at old number ≡ None → life_at new number ≡ None

-- no message that was read is the answer, and fewer were read than are waited for
pub record IsUnanswered (id most : ℕ) (messages : List (List ℕ)) : Type 0 where
  pub fewer : length messages < most
  pub others : list_any (answers id) messages ≡ false

-- how a request that was sent under an id is answered, and whether the multiplexer is shut down then, where so many messages
-- are waited for; and what is left of the stream
pub data Received {L : Type 0} (seen : LinkView L) (old new : Sight) (old_stream new_stream : StreamValue) (id most : ℕ)
    (is_shutdown : Bool) (reply : Reply) : Type 0 where
  -- by the first message with the id
  Answered : (before : List (List ℕ)) (bytes : List ℕ) (message : MessageValue)
      → HasRead old new old_stream new_stream (before ++ bytes ∷ []) → IsUnanswered id most before
      → message_at bytes ≡ Ok message → message.id ≡ id → is_shutdown ≡ false → reply ≡ answered_by message
      → Received seen old new old_stream new_stream id most is_shutdown reply
  -- no message that came has the id
  Unanswered : (messages : List (List ℕ)) → HasRead old new old_stream new_stream messages → length messages ≡ most
      → list_any (answers id) messages ≡ false → is_shutdown ≡ false → reply ≡ Err Timeout
      → Received seen old new old_stream new_stream id most is_shutdown reply
  -- the link ended between two messages
  WasClosed : (messages : List (List ℕ)) → HasFed seen old new old_stream new_stream messages (Ok Closed)
      → IsUnanswered id most messages → is_shutdown ≡ true → reply ≡ Err (Io UnexpectedEof)
      → Received seen old new old_stream new_stream id most is_shutdown reply
  -- reading failed
  FeedFailed : (messages : List (List ℕ)) (error : NetError)
      → HasFed seen old new old_stream new_stream messages (Err error)
      → IsUnanswered id most messages → is_shutdown ≡ false → reply ≡ Err (error_of error)
      → Received seen old new old_stream new_stream id most is_shutdown reply
  -- there was no room for a message that came
  NoRoom : (before : List (List ℕ)) (bytes : List ℕ) → HasRead old new old_stream new_stream (before ++ bytes ∷ [])
      → IsUnanswered id most before → is_shutdown ≡ false → reply ≡ Err NoMemory
      → Received seen old new old_stream new_stream id most is_shutdown reply

-- how a request that was put out under an id is answered, where these messages are to be sent, and those are left; and what is left
-- of the stream
pub data Carried {L : Type 0} (seen : LinkView L) (old new : Sight) (old_stream new_stream : StreamValue)
    (outbound left : List SerialMessageValue) (id : ℕ) (is_shutdown : Bool) (reply : Reply) : Type 0 where
  -- all was written, what waited in the stream first, and then messages were read
  WasWritten : (mid : Sight) (mid_stream : StreamValue)
      → HasWrittenAll old mid old_stream mid_stream (messages_to old_stream.peer outbound) → left ≡ []
      → Received seen mid new mid_stream new_stream id most_messages is_shutdown reply
      → Carried seen old new old_stream new_stream outbound left id is_shutdown reply
  -- writing failed
  DrainFailed : (moved : List SerialMessageValue) (error : NetError) → outbound ≡ moved ++ left
      → HasDrained seen old new old_stream new_stream (messages_to old_stream.peer moved) error
      → is_shutdown ≡ false → reply ≡ Err (error_of error)
      → Carried seen old new old_stream new_stream outbound left id is_shutdown reply
  -- there was no room for a message that was to be written, which is lost
  NoRoomToWrite : (moved : List SerialMessageValue) (lost : SerialMessageValue) → outbound ≡ moved ++ lost ∷ left
      → HasWrittenAll old new old_stream new_stream (messages_to old_stream.peer moved)
      → is_shutdown ≡ false → reply ≡ Err NoMemory
      → Carried seen old new old_stream new_stream outbound left id is_shutdown reply

-- a send of a request at a moment, in milliseconds
pub data Exchanged {L R : Type 0} (seen : LinkView L) (draw : R → ℕ → R → Type 0) (old new : Parts L R)
    (request : RequestValue) (moment : ℕ) (reply : Reply) : Type 0 where
  -- the link had ended in an earlier send
  Unconnected : old.core.is_shutdown ≡ true → new ≡ old → reply ≡ Err NoConnections
      → Exchanged seen draw old new request moment reply
  -- the multiplexer refused the request, and nothing was written or read
  Refused : (error : ErrorValue) → old.core.is_shutdown ≡ false
      → IsSend (λ ids. Drawn draw old.draws ids new.draws) old.core.settings old.core.state new.core.state
      (request_bytes request) moment (Err error)
      → new.link ≡ old.link → new.stream ≡ old.stream → new.core ≡ record old.core { state = new.core.state }
      → reply ≡ Err error → Exchanged seen draw old new request moment reply
  -- it was sent under the id that was drawn last, and is no longer live; nor is any other that wasn't before
  Sent : (number : ℕ) (sent : State) → old.core.is_shutdown ≡ false
      → (send : IsSend (λ ids. Drawn draw old.draws ids new.draws) old.core.settings old.core.state sent
      (request_bytes request) moment (Ok number))
      → Carried seen (sight seen old.link) (sight seen new.link) old.stream new.stream sent.outbound
      new.core.state.outbound (last_drawn send.drawn) new.core.is_shutdown reply
      → new.core.settings ≡ old.core.settings → life_at new.core.state number ≡ None
      → NoneRevived old.core.state new.core.state
      → Exchanged seen draw old new request moment reply

-- the same of some request with a first question, at some moment
pub record ExchangesQuestion {L R : Type 0} (seen : LinkView L) (draw : R → ℕ → R → Type 0) (old new : Parts L R)
    (question : Option Question) (reply : Reply) : Type 0 where
  pub request : RequestValue
  pub moment : ℕ
  pub asks : question ≡ first_question request
  pub exchanged : Exchanged seen draw old new request moment reply
