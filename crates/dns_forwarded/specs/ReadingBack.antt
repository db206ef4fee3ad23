-- That a reply can be read, where the response that it tells was read itself (RFC 1035, 4.1).
use Rattle.std.specs.Prelude.{◌≡◌, ℕ, true, List, Ok}
use Rattle.dns_model.specs.Bytes.{u16_at}
use Rattle.dns_model.specs.Paired.{ArePaired}
use Rattle.dns_model.specs.Records.{Rr, MessageValue}
use Rattle.dns_message.specs.MessageAt.{message_at}
use Rattle.dns_message.specs.WrittenAs.{AreBytes}
use Rattle.dns_forwarded.specs.declared.outcome.Outcome.{Outcome}
use Rattle.dns_forwarded.specs.declared.outcome.Outcome.TheVariants as outcome

-- one record but for ttl and mark, which a validator sets
pub record IsRecordOf (told r : Rr) : Type 0 where
  pub owner : r.owner ≡ told.owner
  pub rtype : r.rtype ≡ told.rtype
  pub class : r.class ≡ told.class
  pub rdata : r.rdata ≡ told.rdata

-- a response has the code and the records that some bytes were read as, in order
pub record WasRead (response : MessageValue) : Type 0 where
  pub bytes : List ℕ
  pub message : MessageValue
  pub are : AreBytes bytes
  pub read : message_at bytes ≡ Ok message
  pub code : response.response_code ≡ message.response_code
  pub answers : ArePaired IsRecordOf message.answers response.answers
  pub authorities : ArePaired IsRecordOf message.authorities response.authorities
  pub additionals : ArePaired IsRecordOf message.additionals response.additionals

-- where a lookup came to a response, that was read
abbrev pub IsOfRead : Outcome → Type 0
IsOfRead outcome.None = Unit {0}
IsOfRead (outcome.Answered response) = WasRead response.message
IsOfRead (outcome.Denied response proof) = WasRead response.message
IsOfRead (outcome.Failed error) = Unit {0}

-- bytes that are a message, which is a response with the id of this request
pub record IsReadBack (request bytes : List ℕ) : Type 0 where
  pub message : MessageValue
  pub read : message_at bytes ≡ Ok message
  pub response : message.response ≡ true
  pub id : message.id ≡ u16_at request 0
