-- Handles that tell their replies, and what a lookup by such a handle does.
use Rattle.std.specs.Prelude.{◌≡◌, ◌⊎◌, Bool, List, [], ◌∷◌, Option, None, Some, Result, Ok, Err, if◌then◌else◌}
use Rattle.std.specs.List.{list_any}
use Rattle.dns_model.specs.Records.{Question, question_eq}
use Rattle.dns_handle.specs.Errors as seen
use Rattle.dns_handle.specs.Errors.{Reply}
use Rattle.dns_handle.specs.declared.error.NetError.{NetError}
use Rattle.dns_handle.specs.declared.error.NetError.TheVariants.{NoMemory}

-- the replies that a handle tells, and whether it serves each of them once, the last to a question again and again
pub record Replies : Type 0 where
  pub list : List (Question × Reply)
  pub by_turn : Bool

-- the reply to a question is the first with that question; a missing one is Timeout
unfoldable pub reply_to : List (Question × Reply) → Question → Reply
reply_to [] q = Err seen.Timeout
reply_to (told ∷ rest) q = if question_eq told.0 q then told.1 else reply_to rest q

-- the list without the first reply to a question, where another one to it stands behind
unfoldable pub after_turn : List (Question × Reply) → Question → List (Question × Reply)
after_turn [] q = []
after_turn (told ∷ rest) q =
    if question_eq told.0 q
    then (if list_any (λ later. question_eq later.0 q) rest then rest else told ∷ rest)
    else told ∷ after_turn rest q

-- what a send of a question leaves: by turn its first reply is gone, unless that is its last one; else all stay
abbrev pub left_after : Replies → Question → Replies
left_after replies q = record replies { list = if replies.by_turn then after_turn replies.list q else replies.list }

-- the handle tells what a send leaves; where want of memory was answered, it may tell the same as before. It goes on telling
-- the same without a question, and nothing where it told nothing
abbrev pub IsLeft : Option Replies → Option Question → Reply → Option Replies → Type 0
IsLeft None q reply new = new ≡ None
IsLeft (Some told) None reply new = new ≡ Some told
IsLeft (Some told) (Some q) reply new = (new ≡ Some (left_after told q)) ⊎ ((reply ≡ Err seen.NoMemory) × (new ≡ Some told))

-- the reply is the told one, where the handle tells its replies and there is a question; want of memory may come in its place
abbrev pub ReplyIsTold : Option Replies → Option Question → Reply → Type 0
ReplyIsTold None q reply = Unit {0}
ReplyIsTold (Some told) None reply = Unit {0}
ReplyIsTold (Some told) (Some q) reply = (reply ≡ Err seen.NoMemory) ⊎ (reply ≡ reply_to told.list q)

-- a fact of a send, unless memory ran out before it and nothing changed
abbrev pub OrUnsent : {H X : Type 0} → H → H → Result X NetError → Type 0 → Type 0
OrUnsent old new (Ok x) Sent = Sent
OrUnsent old new (Err e) Sent = Sent ⊎ ((e ≡ NoMemory) × (new ≡ old))
