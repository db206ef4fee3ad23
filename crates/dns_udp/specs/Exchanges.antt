-- A handle that sends each request by datagrams, under an id that is drawn (RFC 5452, 4.3 and 9.2).
use Rattle.std.specs.Prelude.{ℕ, ◌≡◌, true, IfOk, List, Option}
use Rattle.dns_model.specs.Records.{Question}
use Rattle.dns_handle.specs.Errors.{Reply}
use Rattle.dns_handle.specs.Requests.{RequestValue, first_question}
use Rattle.dns_link.specs.Calls.{NetCalls}
use Rattle.dns_link.specs.Counts.{CountsValue}
use Rattle.dns_link.specs.Moved.{DatagramValue}
use Rattle.dns_udp.specs.Questions.{asks_alike}
use Rattle.dns_udp.specs.Met.{dialer_view}
use Rattle.dns_udp.specs.ClientStreams.{BuilderValue, ClientStreamValue, IsBuilt, asked_of}
use Rattle.dns_udp.specs.Conversations.{AsksAll, IsConversation}
use Rattle.dns_udp.specs.declared.exchange.UdpExchange.{UdpExchange}

-- what a send has in hands
pub record Parts (D R : Type 0) : Type 0 where
  pub stream : ClientStreamValue
  pub dial : D
  pub draws : R

abbrev pub parts_of : {D R : Type 0} → UdpExchange D R → Parts D R
parts_of exchange = record { stream = exchange.stream; dial = exchange.dial; draws = exchange.draws }

abbrev pub sends_of : {D R : Type 0} → UdpExchange D R → ℕ
sends_of exchange = exchange.sends

abbrev pub faults_of : {D R : Type 0} → UdpExchange D R → ℕ
faults_of exchange = exchange.faults

-- a new handle over the client that a builder makes
pub record IsExchangeOf {D R : Type 0} (builder : BuilderValue) (dial : D) (draws : R) (exchange : UdpExchange D R) : Type 0 where
  pub stream : IsBuilt builder (parts_of exchange).stream
  pub dial_in : (parts_of exchange).dial ≡ dial
  pub draws_in : (parts_of exchange).draws ≡ draws
  pub sends : sends_of exchange ≡ 0
  pub faults : faults_of exchange ≡ 0

-- the same request under another id
abbrev pub under_id : ℕ → RequestValue → RequestValue
under_id id request = record request { message = record request.message { id = id } }

-- a request was sent under an id that was drawn, and what came of it; a response has that id and the request's questions
pub record Exchanged {D R : Type 0} (counts : D → CountsValue) (given : D → Option (List DatagramValue)) (calls : D → Option NetCalls)
    (draws_id draws_port : R → ℕ → R → Type 0) (old new : Parts D R) (request : RequestValue) (reply : Reply) : Type 0 where
  pub id : ℕ
  pub mid : R
  pub drawn : draws_id old.draws id mid
  pub talk : IsConversation draws_port (asked_of old.stream (under_id id request)) (dialer_view counts given old.dial)
      (dialer_view counts given new.dial) mid new.draws reply
  pub asks_for : AsksAll draws_port old.stream.binding (asked_of old.stream (under_id id request)) (calls old.dial) (calls new.dial)
      mid new.draws reply
  pub has_id : IfOk reply (λ r. r.message.id ≡ id)
  pub has_questions : IfOk reply (λ r. asks_alike request.message.queries r.message.queries ≡ true)
  pub stream : new.stream ≡ old.stream

-- the same of some request with a first question
pub record ExchangesQuestion {D R : Type 0} (counts : D → CountsValue) (given : D → Option (List DatagramValue))
    (calls : D → Option NetCalls) (draws_id draws_port : R → ℕ → R → Type 0) (old new : Parts D R) (question : Option Question) (reply : Reply) : Type 0 where
  pub request : RequestValue
  pub asks : question ≡ first_question request
  pub exchanged : Exchanged counts given calls draws_id draws_port old new request reply
