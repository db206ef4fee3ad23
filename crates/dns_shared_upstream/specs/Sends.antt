-- How a send over a connection that several holders share is answered, and by which calls on their exchange (RFC 1035, 4.1.1 and
-- 4.2.2; RFC 7766, 6.2.1).
use Rattle.std.specs.Prelude.{ℕ, ◌≡◌, ◌+◌, ◌<◌, ◌≤◌, ◌⊎◌, List, [], ◌∷◌, Option, Ok, Err}
use Rattle.dns_model.specs.Records.{Question}
use Rattle.dns_handle.specs.declared.io_kind.IoKind.{IoKind}
use Rattle.dns_handle.specs.declared.notice.Notice.TheVariants.{HistoryFull}
use Rattle.dns_handle.specs.Errors.{ErrorValue, Message, NoMemory, Reply, Timeout}
use Rattle.dns_handle.specs.Requests.{RequestValue, first_question}
use Rattle.dns_multiplexer.specs.Draws.{request_bytes}
use Rattle.dns_multiplexer.specs.Events.{Ended, Item}
use Rattle.dns_multiplexer.specs.Messages.{failed_by}
use Rattle.dns_journal.specs.Entries.{Entry, Cancel, Close, Send}
use Rattle.dns_journal.specs.Limits.{arrival_fits, call_fits, close_fits, send_fits}
use Rattle.dns_shared_exchange.specs.Tokens.{TokenValue}
use Rattle.dns_tcp.specs.Exchanges.{most_messages}
use Rattle.dns_tcp.specs.Frames.{HasFrame}
use Rattle.dns_shared_upstream.specs.Calls.{Called, IsAmong, EndsWith, FoundNone, Gave, HadNoRoom, arrives_in, closes_in}

-- what a holder has: what its token knows, and how many failures of the stream its share counts
pub record HolderValue : Type 0 where
  pub token : TokenValue
  pub failures : ℕ

abbrev pub holding : TokenValue → ℕ → HolderValue
holding token failures = record { token = token; failures = failures }

-- calls were made, and for each close among them one failure at least was counted
pub record Made (calls : List (ℕ × Entry)) (before now : HolderValue) : Type 0 where
  pub called : Called calls before.token now.token
  pub closes : before.failures + closes_in calls ≤ now.failures

-- the exchange was closed with a fault by one of the calls
pub record IsClosedBy (kind : IoKind) (calls : List (ℕ × Entry)) : Type 0 where
  pub place : ℕ
  pub among : IsAmong (place, Close kind) calls

-- the stream failed: that was counted, and the exchange was closed with the fault. For that there is always room but after an earlier close
pub record StreamFailed (kind : IoKind) (calls : List (ℕ × Entry)) (before now : HolderValue) : Type 0 where
  pub rose : before.failures < now.failures
  pub closed : IsClosedBy kind calls ⊎ HadNoRoom close_fits before.token.known now.token.known

-- what ended the wait for the request with a number, among the calls that were made
pub data Stopped (number : ℕ) (calls : List (ℕ × Entry)) (before now : HolderValue) (reply : Reply) : Type 0 where
  -- a take gave its item, which is a response or the fault by which the connection ended
  WasGiven : Gave calls now.token.known.journal number (Item reply) → Stopped number calls before now reply
  -- a take found that it had ended
  HadEnded : Gave calls now.token.known.journal number Ended → reply ≡ Err Timeout → Stopped number calls before now reply
  -- the stream failed
  HadFault : (kind : IoKind) → StreamFailed kind calls before now → reply ≡ failed_by kind
      → Stopped number calls before now reply
  -- the journal had no room for a take
  NoTake : HadNoRoom call_fits before.token.known now.token.known → reply ≡ Err (Message HistoryFull)
      → Stopped number calls before now reply
  -- the journal had no room for a message that came
  NoArrival : (bytes : List ℕ) → HasFrame bytes → HadNoRoom (arrival_fits bytes) before.token.known now.token.known
      → reply ≡ Err (Message HistoryFull) → Stopped number calls before now reply
  -- memory ran out
  HadNoMemory : reply ≡ Err NoMemory → Stopped number calls before now reply

-- how the wait for the request with a number ended
pub data Waited (number : ℕ) (calls : List (ℕ × Entry)) (before now : HolderValue) (reply : Reply) : Type 0 where
  WasStopped : Stopped number calls before now reply → Waited number calls before now reply
  -- as many messages came as are waited for, and a take behind the last of them found nothing
  WasUnanswered : arrives_in calls ≡ most_messages → FoundNone calls now.token.known.journal number → reply ≡ Err Timeout
      → Waited number calls before now reply

-- the last call ended the request, unless the journal had no room for that or memory ran out
abbrev pub IsOver : ℕ → List (ℕ × Entry) → HolderValue → HolderValue → Reply → Type 0
IsOver number calls before now reply =
    EndsWith (Cancel number) calls
    ⊎ (HadNoRoom call_fits before.token.known now.token.known ⊎ (reply ≡ Err NoMemory))

-- a send of a request at a moment, in milliseconds
pub data Asked (request : RequestValue) (moment : ℕ) (before now : HolderValue) (reply : Reply) : Type 0 where
  -- the journal had no room for it
  HadNoPlace : Made [] before now → HadNoRoom (send_fits (request_bytes request)) before.token.known now.token.known
      → reply ≡ Err (Message HistoryFull) → Asked request moment before now reply
  -- memory ran out before it was sent
  WasUnsent : Made [] before now → reply ≡ Err NoMemory → Asked request moment before now reply
  -- the multiplexer refused it
  WasRefused : (place : ℕ) (drawn : List ℕ) (error : ErrorValue)
      → Made ((place, Send (request_bytes request) moment drawn (Err error)) ∷ []) before now → reply ≡ Err error
      → Asked request moment before now reply
  -- it was accepted under a number, and waited for
  WasSent : (place : ℕ) (drawn : List ℕ) (number : ℕ) (calls : List (ℕ × Entry))
      → Made ((place, Send (request_bytes request) moment drawn (Ok number)) ∷ calls) before now
      → Waited number calls before now reply → IsOver number calls before now reply
      → Asked request moment before now reply

-- the same of some request with a first question, at some moment
pub record AskedQuestion (question : Option Question) (before now : HolderValue) (reply : Reply) : Type 0 where
  pub request : RequestValue
  pub moment : ℕ
  pub asks : question ≡ first_question request
  pub asked : Asked request moment before now reply
