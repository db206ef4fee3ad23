-- A message that is sent once, or not at all where memory runs out before it (RFC 1035, 4.1; RFC 1996, 3; RFC 2136, 2).
use Rattle.std.specs.Prelude.{ℕ, ◌≤◌, Bool, Option, None, Result}
use Rattle.dns_model.specs.Counts.{Rose}
use Rattle.dns_model.specs.Records.{MessageValue}
use Rattle.dns_model.specs.SoundAnswers.{ResponseValue}
use Rattle.dns_handle.specs.Causes.{HasCause}
use Rattle.dns_handle.specs.Handles.{ReplyIsTold, IsLeft, OrUnsent}
use Rattle.dns_handle.specs.Replies.{reply_of}
use Rattle.dns_handle.specs.Requests.{RequestValue, first_question, plain_options}
use Rattle.dns_handle.specs.declared.error.NetError.{NetError}
use Rattle.dns_handle.specs.declared.handle.DnsHandle as handle
use Rattle.dns_handle.specs.declared.request.DnsRequestOptions.{DnsRequestOptions}

-- a message as it is, by the options of a request that has none of its own
abbrev pub request_with : MessageValue → RequestValue
request_with message = record { message = message; options = plain_options; original = None }

-- the same options, but for whether the message has an OPT record
abbrev pub query_options : Bool → DnsRequestOptions
query_options use_edns = record plain_options { use_edns = use_edns }

-- what a send answers
abbrev pub Answer : Type 0
Answer = Result ResponseValue NetError

-- one send of a request at a moment, in seconds, with all that a handle promises of it
pub record Sends {H : Type 0} (meanings : handle.Ghosts H) (request : RequestValue) (now : ℕ) (old new : H) (answer : Answer) : Type 0 where
  pub counted : Rose (meanings.sends old) (meanings.sends new)
  pub sent : meanings.sent old (first_question request) new (reply_of answer)
  pub requested : meanings.requested old request now new (reply_of answer)
  pub later : meanings.faults old ≤ meanings.faults new
  pub cause : HasCause (meanings.faults old) (meanings.faults new) answer
  pub told : ReplyIsTold (meanings.told old) (first_question request) (reply_of answer)
  pub left : IsLeft (meanings.told old) (first_question request) (reply_of answer) (meanings.told new)

-- one such send, or none where memory runs out before it, and then nothing changes
abbrev pub SendsOnce : {H : Type 0} → handle.Ghosts H → RequestValue → ℕ → H → H → Answer → Type 0
SendsOnce meanings request now old new answer = OrUnsent old new answer (Sends meanings request now old new answer)
