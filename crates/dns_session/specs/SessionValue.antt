-- What a session says: a moment, how deep asks may go, what a verifier accepts, which keys are trusted, a query, and an
-- upstream's replies with how it serves them.
use Rattle.std.specs.Prelude.{ℕ, Bool, List, Option, Result}
use Rattle.dns_model.specs.Keys.{AnchorValue, AcceptedSignatureValue}
use Rattle.dns_model.specs.Records.{Question, MessageValue}
use Rattle.dns_message.specs.declared.decode_error.DecodeError.{DecodeError}
use Rattle.dns_session.specs.declared.reply.ReplyFault.{ReplyFault}

-- what comes in reply. `Message`: this message. `Empty`: what is made of this message, an error where it tells of a failure or that
-- there are no such records (RFC 2308, 2). `Fault`: no message. Bytes that are none stand with their fault
pub data ReplyKindValue : Type 0 where
  Message : (message : Result MessageValue DecodeError) → ReplyKindValue
  Empty : (message : Result MessageValue DecodeError) → ReplyKindValue
  Fault : (fault : ReplyFault) → ReplyKindValue

-- what an upstream says to a question
pub record ReplyValue : Type 0 where
  pub question : Question
  pub kind : ReplyKindValue

-- what a session says; `by_turn`: whether each send of a query takes the next of its replies, the last again and again; else it
-- always takes the first. `depth`: the deepest ask, where the session says it
pub record SessionValue : Type 0 where
  pub by_turn : Bool
  pub moment : ℕ
  pub depth : Option ℕ
  pub algorithms : List ℕ
  pub anchors : List AnchorValue
  pub accepts : List AcceptedSignatureValue
  pub query : Question
  pub replies : List ReplyValue
