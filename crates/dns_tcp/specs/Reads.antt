-- What was read of a connection during a call: messages one behind the other (RFC 1035, 4.2.2), and by how many reads at least.
use Rattle.std.specs.Prelude.{ℕ, ◌≡◌, ◌+◌, ◌*◌, ◌<◌, ⊤, All, List, [], ◌∷◌, ◌++◌, length, Option, Result}
use Rattle.dns_model.specs.Counts.{RoseBy}
use Rattle.dns_handle.specs.declared.error.NetError.{NetError}
use Rattle.dns_link.specs.Calls.{NetCalls}
use Rattle.dns_link.specs.Counts.{CountsValue}
use Rattle.dns_link.specs.Moved.{and_then}
use Rattle.dns_tcp.specs.declared.feed.Feed.{Feed}
use Rattle.dns_tcp.specs.Feeding.{Feeds}
use Rattle.dns_tcp.specs.Frames.{HasFrame, frame, frames}
use Rattle.dns_tcp.specs.Links.{LinkView}
use Rattle.dns_tcp.specs.Streams.{StreamValue}

-- what is told of a link at a moment: the bytes that it gave, those that it took, what it counted, and the kind of its last fault
pub record Sight : Type 0 where
  pub given : Option (List ℕ)
  pub taken : Option (List ℕ)
  pub counts : CountsValue
  pub calls : Option NetCalls

abbrev pub sight : {L : Type 0} → LinkView L → L → Sight
sight seen link = record { given = seen.given link; taken = seen.taken link; counts = seen.counts link; calls = seen.calls link }

-- so many reads at least complete a message of which a part was read: one for the length, where it isn't there, and one more
abbrev pub reads_for : List ℕ → ℕ
reads_for [] = 2
reads_for (high ∷ []) = 2
reads_for (high ∷ low ∷ body) = 1

-- and so many complete messages in a row
abbrev pub reads_for_all : List ℕ → List (List ℕ) → ℕ
reads_for_all part [] = 0
reads_for_all part (m ∷ ms) = reads_for part + 2 * length ms

-- the last byte of the first message, and so of each, was read behind the part
abbrev pub IsFresh : List ℕ → List (List ℕ) → Type 0
IsFresh part [] = ⊤
IsFresh part (m ∷ ms) = length part < length (frame m)

-- behind the part that a stream had of a frame other bytes were read, which together with it are the messages' frames and the part
-- that it has now. The link met no fault and no end, and took nothing; of the stream nothing else has changed
pub record HasRead (old new : Sight) (old_stream new_stream : StreamValue) (messages : List (List ℕ)) : Type 0 where
  pub read : List ℕ
  pub given : new.given ≡ and_then old.given read
  pub taken : new.taken ≡ old.taken
  pub used : old_stream.part ++ read ≡ frames messages ++ new_stream.part
  pub framed : All HasFrame messages
  pub fresh : IsFresh old_stream.part messages
  pub gots : RoseBy (reads_for_all old_stream.part messages) old.counts.gots new.counts.gots
  pub faults : new.counts.faults ≡ old.counts.faults
  pub ends : new.counts.ends ≡ old.counts.ends
  pub kept : new_stream ≡ record old_stream { part = new_stream.part }

-- these messages were read, and then a call of `feed` was answered so
pub record HasFed {L : Type 0} (seen : LinkView L) (old new : Sight) (old_stream new_stream : StreamValue)
    (messages : List (List ℕ)) (reply : Result Feed NetError) : Type 0 where
  pub link : L
  pub new_link : L
  pub stream : StreamValue
  pub before : HasRead old (sight seen link) old_stream stream messages
  pub fed : Feeds seen link new_link stream new_stream reply
  pub until : new ≡ sight seen new_link
