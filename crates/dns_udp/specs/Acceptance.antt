-- Which datagrams answer a request (RFC 5452, 9.1).
use Rattle.std.specs.Prelude.{ℕ, Bool, ◌==◌, ◌&&◌, not, List, length, nat_le, Result, Ok, Err, if◌then◌else◌}
use Rattle.std.specs.declared.net.socket_addr.SocketAddr.{SocketAddr}
use Rattle.dns_model.specs.Bytes.{u16_at}
use Rattle.dns_model.specs.Records.{MessageValue}
use Rattle.dns_message.specs.declared.decode_error.DecodeError.{DecodeError}
use Rattle.dns_message.specs.MessageAt.{message_at}
use Rattle.dns_udp.specs.declared.acceptance.Accepted.{Accepted}
use Rattle.dns_udp.specs.declared.acceptance.Accepted.TheVariants.{Ignored, Undecodable, CaseMismatch, Answer}
use Rattle.dns_udp.specs.Addresses.{is_same_peer}
use Rattle.dns_udp.specs.Questions.{asks_alike, spells_alike}

-- the datagram is from the server that was asked, and begins with the request's id
abbrev pub is_addressed : ℕ → SocketAddr → SocketAddr → List ℕ → Bool
is_addressed id server from bytes = is_same_peer server from && (nat_le 2 (length bytes) && (u16_at bytes 0 == id))

-- a message with the request's id: one with other questions is no answer; with `case` the questions' letters count too
abbrev pub accepted_message : MessageValue → Bool → MessageValue → Accepted
accepted_message request case message =
    if not (asks_alike request.queries message.queries) then Ignored
    else if case && not (spells_alike request.queries message.queries) then CaseMismatch
    else Answer message

abbrev pub accepted_reading : MessageValue → Bool → Result MessageValue DecodeError → Accepted
accepted_reading request case (Err error) = Undecodable error
accepted_reading request case (Ok message) = accepted_message request case message

-- what becomes of a datagram that came while a request waits
abbrev pub accepted : MessageValue → SocketAddr → Bool → SocketAddr → List ℕ → Accepted
accepted request server case from bytes =
    if is_addressed request.id server from bytes then accepted_reading request case (message_at bytes) else Ignored
