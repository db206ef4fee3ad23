-- A whole message: header, questions, answers, authorities and additional records (RFC 1035, 4.1; RFC 6891, 6.1).
use Rattle.std.specs.Prelude.{ℕ, zero, suc, ◌+◌, ◌*◌, ◌/◌, ◌%◌, true, false, List, [], ◌∷◌, length, Option, Result, Ok, Err, nat_lt, if◌then◌else◌, option_map}
use Rattle.dns_model.specs.Bytes.{has_flag}
use Rattle.dns_model.specs.Records.{Rr, Question, EdnsValue, MessageValue}
use Rattle.dns_message.specs.declared.decode_error.DecodeKind.TheVariants.{Trailing}
use Rattle.dns_message.specs.declared.decode_error.DecodeError.{DecodeError}
use Rattle.dns_model.specs.ResultSteps.{◌>>=◌}
use Rattle.dns_message.specs.Reading.{fault, u16_field}
use Rattle.dns_message.specs.NameAt.{name_at}
use Rattle.dns_message.specs.RecordAt.{section_at}
use Rattle.std.specs.Option.{option_map_or}

-- the six numbers of the first twelve bytes
pub record HeaderValue : Type 0 where
  pub id : ℕ
  pub flags : ℕ
  pub questions : ℕ
  pub answers : ℕ
  pub authorities : ℕ
  pub additionals : ℕ

unfoldable pub header_at : List ℕ → Result HeaderValue DecodeError
header_at bytes = do
  id ← u16_field bytes 0
  flags ← u16_field bytes 2
  questions ← u16_field bytes 4
  answers ← u16_field bytes 6
  authorities ← u16_field bytes 8
  additionals ← u16_field bytes 10
  Ok (record { id = id.0; flags = flags.0; questions = questions.0; answers = answers.0; authorities = authorities.0; additionals = additionals.0 })

unfoldable pub question_at : List ℕ → ℕ → Result (Question × ℕ) DecodeError
question_at bytes pos = do
  name ← name_at bytes pos
  rtype ← u16_field bytes name.1
  class ← u16_field bytes rtype.1
  Ok (record { owner = name.0; rtype = rtype.0; class = class.0 }, class.1)

-- so many questions, and the place after them
unfoldable pub questions_at : ℕ → List ℕ → ℕ → Result (List Question × ℕ) DecodeError
questions_at zero bytes pos = Ok ([], pos)
questions_at (suc count) bytes pos = do
  first ← question_at bytes pos
  others ← questions_at count bytes first.1
  Ok (first.0 ∷ others.0, others.1)

-- the flags of the second number are QR, AA, TC, RD, RA, AD and CD, beside four bits each of the opcode and of the code; the
-- bit between RA and AD is ignored. An OPT holds the upper eight bits of the extended response code (RFC 6891, 6.1.3)
abbrev pub message_of : HeaderValue → List Question → List Rr → List Rr → List Rr → Option (EdnsValue × ℕ) → MessageValue
message_of header queries answers authorities additionals opt = record {
  id = header.id;
  response = has_flag header.flags 0x8000;
  op_code = header.flags / 0x0800 % 16;
  authoritative = has_flag header.flags 0x0400;
  truncated = has_flag header.flags 0x0200;
  recursion_desired = has_flag header.flags 0x0100;
  recursion_available = has_flag header.flags 0x0080;
  authentic_data = has_flag header.flags 0x0020;
  checking_disabled = has_flag header.flags 0x0010;
  response_code = option_map_or (λ o. o.1) opt 0 * 16 + header.flags % 16;
  queries = queries;
  answers = answers;
  authorities = authorities;
  additionals = additionals;
  edns = option_map (λ o. o.0) opt;
}

-- the message that bytes are, all of them
unfoldable pub message_at : List ℕ → Result MessageValue DecodeError
message_at bytes = do
  header ← header_at bytes
  queries ← questions_at header.questions bytes 12
  answers ← section_at header.answers false bytes queries.1
  authorities ← section_at header.authorities false bytes answers.2
  additionals ← section_at header.additionals true bytes authorities.2
  if nat_lt additionals.2 (length bytes)
      then Err (fault Trailing additionals.2)
      else Ok (message_of header queries.0 answers.0 authorities.0 additionals.0 additionals.1)
