-- What follows for each reply: what it says is authentic, what it leaves out, how long it is (RFC 1035, 4.2.1; RFC 4035, 3.2; RFC 6891, 6.2).
use Rattle.std.specs.Prelude.{◌≡◌, ℕ, ◌≤◌, Bool, true, false, min, max, List, length, slice_index, Ok}
use Rattle.std.specs.List.{AllByRecursion}
use Rattle.dns_model.specs.Bytes.{has_flag}
use Rattle.dns_model.specs.Records.{Rr, Question, MessageValue}
use Rattle.dns_model.specs.SoundAnswers.{ResponseValue}
use Rattle.dns_handle.specs.declared.protocol.Protocol.{Protocol}
use Rattle.dns_handle.specs.declared.protocol.Protocol.TheVariants.{Udp, Tcp}
use Rattle.dns_forwarded.specs.Requests.{received_of, course_of}
use Rattle.dns_forwarded.specs.Replies.{asks_if_authentic, is_authentic, is_bogus, payload_of}
use Rattle.dns_forwarded.specs.declared.outcome.Outcome.{Outcome}
use Rattle.dns_forwarded.specs.declared.outcome.Outcome.TheVariants.{Answered}
use Rattle.dns_forwarded.specs.declared.received.Received.{Received}
use Rattle.dns_forwarded.specs.declared.received.Received.TheVariants.{Ignored, Unreadable, Read}

-- no record of a section is Bogus
abbrev pub NoneIsBogus : List Rr → Type 0
NoneIsBogus section = AllByRecursion (λ r. is_bogus r.proof ≡ false) section

-- no record of a message is
pub record HasNoBogus (message : MessageValue) : Type 0 where
  pub answers : NoneIsBogus message.answers
  pub authorities : NoneIsBogus message.authorities
  pub additionals : NoneIsBogus message.additionals

-- AD of a message in wire form: a bit of its fourth byte (RFC 4035, 3.2.3)
abbrev pub has_ad : List ℕ → Bool
has_ad bytes = has_flag (slice_index bytes 3) 0x20

-- what AD in a reply to these bytes says: the client asked for it, and what it asked for was answered, or denied, and all of that is Secure
pub record SaysAuthentic (bytes : List ℕ) (outcome : Outcome) : Type 0 where
  pub request : MessageValue
  pub query : Question
  pub response : ResponseValue
  pub came : received_of bytes ≡ Read request
  pub asked : course_of request ≡ Ok query
  pub wanted : asks_if_authentic request ≡ true
  pub answered : outcome ≡ Answered response
  pub secure : is_authentic query response ≡ true

-- the most bytes of a datagram that a client says it takes
abbrev pub payload_in : Received → ℕ
payload_in Ignored = 0
payload_in (Unreadable id) = 0
payload_in (Read request) = payload_of request.edns

-- over UDP a reply has at most 1,232 bytes, and at most 512 where the client doesn't say that it takes more
abbrev pub IsSmall : Protocol → Received → List ℕ → Type 0
IsSmall Udp received bytes = length bytes ≤ max 512 (min (payload_in received) 1232)
IsSmall Tcp received bytes = Unit {0}
