-- For private functions only: the steps of a send.
use Rattle.std.specs.Prelude.{ℕ, ◌≡◌, ◌-◌, ◌≤◌, ◌⊎◌, true, false, List, [], ◌∷◌, ◌++◌, length, Option, None, Some, Result, Ok, Err, slice_get}
use Rattle.dns_model.specs.Counts.{RoseBy}
use Rattle.dns_model.specs.Records.{MessageValue}
use Rattle.dns_message.specs.MessageAt.{message_at}
use Rattle.dns_handle.specs.declared.error.NetError.{NetError}
use Rattle.dns_handle.specs.declared.error.NetError.TheVariants as errors
use Rattle.dns_handle.specs.declared.io_kind.IoKind.TheVariants.{UnexpectedEof}
use Rattle.dns_handle.specs.Errors.{Reply}
use Rattle.dns_handle.specs.Replies.{reply_of}
use Rattle.dns_link.specs.Moved.{and_then}
use Rattle.dns_multiplexer.specs.Draws.{CoreValue, Plays}
use Rattle.dns_multiplexer.specs.Events.{Close}
use Rattle.dns_multiplexer.specs.Machine.{Request, lives_under, sent_under}
use Rattle.dns_multiplexer.specs.Messages.{SerialMessageValue, answered_by}
use Rattle.dns_multiplexer.specs.Runs.{life_of}
use Rattle.dns_model.specs.SoundAnswers.{ResponseValue}
use Rattle.dns_tcp.specs.declared.feed.Feed.TheVariants.{Closed}
use Rattle.dns_tcp.specs.Links.{LinkView}
use Rattle.dns_tcp.specs.Streams.{StreamValue}
use Rattle.dns_tcp.specs.Exchanges.{Carried, NoneRevived, Received, answers}
use Rattle.dns_tcp.specs.Reads.{HasFed, HasRead, Sight, reads_for, sight}
use Rattle.dns_tcp.specs.Writes.{HasDrained, HasWrittenAll, message_to, messages_to}

-- ---- reading

-- bytes of a message were read behind those of a part, and of the stream nothing else has changed
pub record IsReading (old new : Sight) (old_stream new_stream : StreamValue) : Type 0 where
  pub read : List ℕ
  pub given : new.given ≡ and_then old.given read
  pub taken : new.taken ≡ old.taken
  pub used : old_stream.part ++ read ≡ new_stream.part
  pub longer : length old_stream.part ≤ length new_stream.part
  pub gots : RoseBy (reads_for old_stream.part - reads_for new_stream.part) old.counts.gots new.counts.gots
  pub faults : new.counts.faults ≡ old.counts.faults
  pub ends : new.counts.ends ≡ old.counts.ends
  pub kept : new_stream ≡ record old_stream { part = new_stream.part }

-- the next message was read, the link has ended, or reading failed
abbrev pub IsNextRead : {L : Type 0} → LinkView L → L → L → StreamValue → StreamValue → Result (Option (List ℕ)) NetError → Type 0
IsNextRead seen old_link new_link old new (Ok (Some message)) =
    HasRead (sight seen old_link) (sight seen new_link) old new (message ∷ []) × (new.part ≡ [])
IsNextRead seen old_link new_link old new (Ok None) =
    HasFed seen (sight seen old_link) (sight seen new_link) old new [] (Ok Closed)
IsNextRead seen old_link new_link old new (Err error) =
    HasFed seen (sight seen old_link) (sight seen new_link) old new [] (Err error)

-- ---- writing

-- all that waited was written, or writing failed
abbrev pub DrainsAll : {L : Type 0} → LinkView L → L → L → StreamValue → StreamValue → Result Unit NetError → Type 0
DrainsAll seen old_link new_link old new (Ok done) = HasWrittenAll (sight seen old_link) (sight seen new_link) old new []
DrainsAll seen old_link new_link old new (Err error) = HasDrained seen (sight seen old_link) (sight seen new_link) old new [] error

-- a message of these bytes was written; or there was no room for it, and nothing has changed; or writing failed
abbrev pub WritesMessage : {L : Type 0} → LinkView L → L → L → StreamValue → StreamValue → List ℕ → Result Unit NetError → Type 0
WritesMessage seen old_link new_link old new bytes (Ok done) =
    HasWrittenAll (sight seen old_link) (sight seen new_link) old new (message_to old.peer bytes)
WritesMessage seen old_link new_link old new bytes (Err error) =
    ((error ≡ errors.NoMemory) × (new_link ≡ old_link) × (new ≡ old))
    ⊎ HasDrained seen (sight seen old_link) (sight seen new_link) old new (message_to old.peer bytes) error

-- what was to be sent, and there was no room for a message
pub record HasNoRoom (old new : Sight) (old_stream new_stream : StreamValue) (outbound left : List SerialMessageValue) : Type 0 where
  pub moved : List SerialMessageValue
  pub lost : SerialMessageValue
  pub parted : outbound ≡ moved ++ lost ∷ left
  pub done : HasWrittenAll old new old_stream new_stream (messages_to old_stream.peer moved)

-- writing failed
pub record HasFailed {L : Type 0} (seen : LinkView L) (old new : Sight) (old_stream new_stream : StreamValue)
    (outbound left : List SerialMessageValue) (error : NetError) : Type 0 where
  pub moved : List SerialMessageValue
  pub parted : outbound ≡ moved ++ left
  pub drained : HasDrained seen old new old_stream new_stream (messages_to old_stream.peer moved) error

-- what was to be sent is written and nothing of it is left; or there was no room for a message, or writing failed
abbrev pub WritesOut : {L : Type 0} → LinkView L → L → L → StreamValue → StreamValue → List SerialMessageValue
    → List SerialMessageValue → Result Unit NetError → Type 0
WritesOut seen old_link new_link old new outbound left (Ok done) =
    HasWrittenAll (sight seen old_link) (sight seen new_link) old new (messages_to old.peer outbound) × (left ≡ [])
WritesOut seen old_link new_link old new outbound left (Err error) =
    ((error ≡ errors.NoMemory) × HasNoRoom (sight seen old_link) (sight seen new_link) old new outbound left)
    ⊎ HasFailed seen (sight seen old_link) (sight seen new_link) old new outbound left error

-- nothing has changed of a multiplexer but what waits to be sent
pub record IsPopped (old new : CoreValue) : Type 0 where
  pub settings : new.settings ≡ old.settings
  pub is_shutdown : new.is_shutdown ≡ old.is_shutdown
  pub requests : new.state.requests ≡ old.state.requests

-- ---- what comes for one request

-- the request with a number is live under an id, as no other, and nothing waits for it
pub record IsOurs (requests : List Request) (number id moment : ℕ) : Type 0 where
  pub here : slice_get requests number ≡ Some (sent_under id moment)
  pub alone : (other : ℕ) → lives_under id (life_of (slice_get requests other)) ≡ true → other ≡ number

-- bytes are the request's response, and were taken; or aren't, and nothing has changed for it
abbrev pub Offered : List Request → ℕ → ℕ → ℕ → List ℕ → Option (Result ResponseValue NetError) → Type 0
Offered new number id moment bytes None = (answers id bytes ≡ false) × IsOurs new number id moment
Offered new number id moment bytes (Some reply) =
    (message : MessageValue) × (message_at bytes ≡ Ok message) × (message.id ≡ id) × (reply_of reply ≡ answered_by message)

-- bytes are offered to each request that has the number
abbrev pub Offers : List Request → List Request → ℕ → List ℕ → Option (Result ResponseValue NetError) → Type 0
Offers old new number bytes item = (id moment : ℕ) → IsOurs old number id moment → Offered new number id moment bytes item

-- a multiplexer after arrivals and takes, or a close: nothing more is to be sent, and no request lives that didn't
pub record IsGoingOn (old new : CoreValue) : Type 0 where
  pub settings : new.settings ≡ old.settings
  pub outbound : new.state.outbound ≡ old.state.outbound
  pub lives : NoneRevived old.state new.state

-- the end of the connection was the last that a multiplexer was told: each request that was still live has it as its last item
pub record HasEnded (old new : CoreValue) : Type 0 where
  pub before : CoreValue
  pub going : IsGoingOn old before
  pub closed : Plays before.settings before.state new.state (Close UnexpectedEof)

-- so it is where a multiplexer is shut down that wasn't
abbrev pub IsEnded : CoreValue → CoreValue → Type 0
IsEnded old new = old.is_shutdown ≡ false → new.is_shutdown ≡ true → HasEnded old new

-- what is received for each request that has the number
abbrev pub Receives : {L : Type 0} → LinkView L → L → L → StreamValue → StreamValue → CoreValue → CoreValue → ℕ → ℕ
    → Reply → Type 0
Receives seen old_link new_link old new old_core new_core number most reply =
    (id moment : ℕ) → old_core.is_shutdown ≡ false → IsOurs old_core.state.requests number id moment
    → Received seen (sight seen old_link) (sight seen new_link) old new id most new_core.is_shutdown reply

abbrev pub Carries : {L : Type 0} → LinkView L → L → L → StreamValue → StreamValue → CoreValue → CoreValue → ℕ → Reply → Type 0
Carries seen old_link new_link old new old_core new_core number reply =
    (id moment : ℕ) → old_core.is_shutdown ≡ false → IsOurs old_core.state.requests number id moment
    → Carried seen (sight seen old_link) (sight seen new_link) old new old_core.state.outbound new_core.state.outbound id
    new_core.is_shutdown reply
