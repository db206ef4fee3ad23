-- Messages on their way: bytes with the address that they go to, a request under an id, and what becomes of a message that
-- came (RFC 1035, 4.1.1 and 4.2).
use Rattle.std.specs.Prelude.{ℕ, List, [], ◌++◌, drop, Ok, Err}
use Rattle.std.specs.declared.net.socket_addr.SocketAddr.{SocketAddr}
use Rattle.dns_model.specs.declared.denial.Denial.TheVariants as denied
use Rattle.dns_model.specs.Bytes.{u16_bytes}
use Rattle.dns_model.specs.Records.{MessageValue}
use Rattle.dns_model.specs.SoundAnswers.{ResponseValue}
use Rattle.dns_handle.specs.declared.io_kind.IoKind.{IoKind}
use Rattle.dns_handle.specs.Conversions.{outside_failed}
use Rattle.dns_handle.specs.Errors.{Reply}
use Rattle.dns_handle.specs.Replies.{error_of}

-- bytes, and the address that they go to
pub record SerialMessageValue : Type 0 where
  pub bytes : List ℕ
  pub addr : SocketAddr

-- a message's bytes with another id, which is their first two
abbrev pub with_id : ℕ → List ℕ → List ℕ
with_id id bytes = u16_bytes id ++ drop 2 bytes

-- a message alone as a reply: no chain, nothing denied, an empty trail
abbrev pub plain_response : MessageValue → ResponseValue
plain_response message = record { message = message; chains = []; denial = denied.None; trail = [] }

abbrev pub answered_by : MessageValue → Reply
answered_by message = Ok (plain_response message)

-- a fault of the connection as a reply
abbrev pub failed_by : IoKind → Reply
failed_by fault = Err (error_of (outside_failed fault))
