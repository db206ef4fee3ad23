-- For private functions and for proofs only: parts of what the clauses of a lookup say, by names of their own.
use Rattle.std.specs.Prelude.{◌≡◌, Bool, List, Option, IfSome}
use Rattle.std.specs.Option.{option_map, option_map_or}
use Rattle.dns_model.specs.Records.{Question, MessageValue}
use Rattle.dns_model.specs.Trails.{AskedValue, HeardValue, Records, Fault}
use Rattle.dns_model.specs.SoundAnswers.{Told, told_by}
use Rattle.dns_rules.specs.Marking.{cleared_message}
use Rattle.dns_handle.specs.Errors.{Reply}
use Rattle.dns_handle.specs.Handles.{Replies, reply_to}
use Rattle.dns_lookup.specs.Sends.{IsFromReplies}

-- the records of a message, without its marks
abbrev pub told_of : Option MessageValue → Option Told
told_of message = option_map (λ m. told_by (cleared_message m)) message

-- records and whether the reply said that there are none, or a fault
abbrev pub heard_told : Bool → Option Told → HeardValue
heard_told empty told = option_map_or (λ t. Records t empty) told Fault

-- what an upstream tells: its replies, or nothing
abbrev pub KnownReplies : Type 0
KnownReplies = Option Replies

-- the steps, in send order, heard what the upstream replies, where it tells that
abbrev pub IsFrom : KnownReplies → List AskedValue → Type 0
IsFrom tells steps = IfSome tells (λ replies. IsFromReplies replies steps)

-- the reply to a question, where the upstream tells its replies
abbrev pub IsReplyTo : KnownReplies → Question → Reply → Type 0
IsReplyTo tells q reply = IfSome tells (λ replies. reply_to replies.list q ≡ reply)
