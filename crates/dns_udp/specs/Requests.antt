-- A request that is sent by datagrams, and how a datagram that comes is judged (RFC 1035, 4.2.1; RFC 5452, 9.1).
use Rattle.std.specs.Prelude.{ℕ, Bool, true, false, min, max, nat_le, List, length, map, Option, None, Some, if◌then◌else◌}
use Rattle.std.specs.declared.net.socket_addr.SocketAddr.{SocketAddr}
use Rattle.dns_model.specs.Records.{EdnsValue, MessageValue, Question, question_eq}
use Rattle.dns_model.specs.SoundAnswers.{ResponseValue}
use Rattle.dns_handle.specs.Requests.{RequestValue}
use Rattle.dns_link.specs.Moved.{DatagramValue}
use Rattle.dns_multiplexer.specs.Messages.{plain_response}
use Rattle.dns_udp.specs.Acceptance.{accepted}
use Rattle.dns_udp.specs.declared.acceptance.Accepted.{Accepted}
use Rattle.dns_udp.specs.declared.acceptance.Accepted.TheVariants.{Ignored}

-- a request on its way to a server
pub record AskedValue : Type 0 where
  pub request : RequestValue
  pub server : SocketAddr
  -- milliseconds
  pub timeout : ℕ

-- what becomes of a datagram; letters count where the request's were sent in a random case
abbrev pub judged : RequestValue → SocketAddr → DatagramValue → Accepted
judged request server datagram =
    accepted request.message server request.options.case_randomization datagram.1 datagram.0

abbrev pub is_ignored_as : Accepted → Bool
is_ignored_as Ignored = true
is_ignored_as _ = false

abbrev pub is_ignored : AskedValue → DatagramValue → Bool
is_ignored asked datagram = is_ignored_as (judged asked.request asked.server datagram)

-- the question as it was before its letters' case was changed, in the place of one that is equal to it
abbrev pub put_back : Question → Question → Question
put_back original q = if question_eq q original then original else q

abbrev pub questions_put_back : Bool → Option Question → List Question → List Question
questions_put_back false original queries = queries
questions_put_back true None queries = queries
questions_put_back true (Some original) queries = map (put_back original) queries

-- a response: the message, with the original question put back
abbrev pub response_by : RequestValue → MessageValue → ResponseValue
response_by request message = plain_response (record message {
  queries = questions_put_back request.options.case_randomization request.original message.queries;
})

-- the most bytes of a datagram that is received, unless less is asked for
abbrev pub max_receive_buffer_size : ℕ
max_receive_buffer_size = 4096

-- the most bytes that a response to a request may have: 512, unless an OPT record names more (RFC 6891, 6.2.3)
abbrev pub payload_of : Option EdnsValue → ℕ
payload_of None = 512
payload_of (Some edns) = max edns.max_payload 512

abbrev pub buffer_size : RequestValue → ℕ
buffer_size request = min max_receive_buffer_size (payload_of request.message.edns)

-- there is room for a datagram as it is given: what doesn't fit is lost
abbrev pub fits : RequestValue → DatagramValue → Bool
fits request datagram = nat_le (length datagram.0) (buffer_size request)
