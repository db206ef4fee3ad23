-- The first that comes for a request (RFC 1035, 4.2.1: where nothing comes in time, there is no answer).
use Rattle.std.specs.Prelude.{◌≡◌, [], Option, None, Some, Err}
use Rattle.futures.specs.Runs.{Runs}
use Rattle.dns_handle.specs.declared.error.NetError.TheVariants.{Message, Timeout}
use Rattle.dns_handle.specs.declared.notice.Notice.TheVariants.{PolledAfterCompletion}
use Rattle.dns_mux.specs.Streams.{Item}
use Rattle.dns_mux.specs.declared.first_answer.FirstAnswerFuture.{FirstAnswerFuture}

-- the stream, until the answer
abbrev pub stream_in : {S : Type 0} → FirstAnswerFuture S → Option S
stream_in future = future.stream

-- the answer by what came first: the end is Timeout
abbrev pub answer_of : Option Item → Item
answer_of None = Err Timeout
answer_of (Some item) = item

-- an answer of a stream by what it may give first
pub record AnswersFirst (source : Runs Item) (answer : Item) : Type 0 where
  pub item : Option Item
  pub came : source [] item
  pub is : answer ≡ answer_of item

-- after the answer a poll gives an error of its own
abbrev pub MayAnswer : {S : Type 0} → (S → Runs Item) → Option S → Item → Type 0
MayAnswer yields None answer = answer ≡ Err (Message PolledAfterCompletion)
MayAnswer yields (Some stream) answer = AnswersFirst (yields stream) answer
