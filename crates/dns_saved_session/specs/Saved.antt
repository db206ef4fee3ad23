-- What is known of a lookup when it is over: when and what it asked for, by what it judged, and what came for each of its queries.
use Rattle.std.specs.Prelude.{ℕ, List, Option}
use Rattle.dns_model.specs.Keys.{AnchorValue, AcceptedSignatureValue}
use Rattle.dns_model.specs.Records.{Question}
use Rattle.dns_session.specs.declared.reply.ReplyFault.{ReplyFault}

-- what came for a query: the bytes of a message, or none, and why
pub data CameValue : Type 0 where
  Message : (bytes : List ℕ) → CameValue
  Fault : (fault : ReplyFault) → CameValue

-- a query, and what came for it
pub record SavedReplyValue : Type 0 where
  pub question : Question
  pub came : CameValue

-- a lookup at a moment in seconds; the replies stand in the order in which the queries were sent
pub record SavedValue : Type 0 where
  pub moment : ℕ
  pub depth : Option ℕ
  pub algorithms : List ℕ
  pub anchors : List AnchorValue
  pub accepts : List AcceptedSignatureValue
  pub query : Question
  pub replies : List SavedReplyValue
