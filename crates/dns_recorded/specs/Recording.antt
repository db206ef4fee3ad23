-- The handle that answers from recorded replies.
use Rattle.std.specs.Prelude.{ℕ, ◌≡◌, ◌⊎◌, Bool, List, Option, None, Some, Err}
use Rattle.std.specs.Option.{option_map_or}
use Rattle.dns_model.specs.Counts.{one_more}
use Rattle.dns_model.specs.Records.{Question}
use Rattle.dns_handle.specs.Causes.{faults_after}
use Rattle.dns_handle.specs.Errors as seen
use Rattle.dns_handle.specs.Errors.{Reply}
use Rattle.dns_handle.specs.Handles.{Replies, reply_to, left_after}

-- the counts, the replies that are left in the order in which they were put in, and whether they are served by turn
pub record RecordedValue : Type 0 where
  pub sends : ℕ
  pub faults : ℕ
  pub replies : List (Question × Reply)
  pub by_turn : Bool

-- the replies that such a handle tells
abbrev pub replies_of : RecordedValue → Replies
replies_of recorded = record { list = recorded.replies; by_turn = recorded.by_turn }

-- the reply to what is asked; without a question it is Timeout
abbrev pub reply_for : List (Question × Reply) → Option Question → Reply
reply_for replies None = Err seen.Timeout
reply_for replies (Some q) = reply_to replies q

-- the first reply to the question, and what it leaves; or want of memory, and all stay
abbrev pub IsServed : Replies → Option Question → Replies → Reply → Type 0
IsServed old q new reply =
    ((reply ≡ reply_for old.list q) × (new ≡ option_map_or (left_after old) q old)) ⊎ ((reply ≡ Err seen.NoMemory) × (new ≡ old))

-- a send: a reply is served; the send is counted, and so is a fault
pub record AnswersFrom (old : RecordedValue) (q : Option Question) (new : RecordedValue) (reply : Reply) : Type 0 where
  pub served : IsServed (replies_of old) q (replies_of new) reply
  pub counted : new.sends ≡ one_more old.sends
  pub faulted : new.faults ≡ faults_after old.faults reply
