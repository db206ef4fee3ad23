-- What a reply tells (RFC 1035, 4.1; RFC 6891, 6.1).
use Rattle.std.specs.Prelude.{ℕ, List}
use Rattle.dns_model.specs.Records.{Rr, MessageValue}

-- the records that a reply tells
pub record Told : Type 0 where
  pub code : ℕ
  pub answers : List Rr
  pub authorities : List Rr
  pub additionals : List Rr

-- a message tells its code and its three sections; an OPT is no record
abbrev pub told_by : MessageValue → Told
told_by message = record {
  code = message.response_code;
  answers = message.answers;
  authorities = message.authorities;
  additionals = message.additionals;
}
