-- A message as it is written: names spelled out, the OPT last (RFC 1035, 4.1; RFC 6891, 6.1).
use Rattle.std.specs.Prelude.{◌≡◌, ◌<◌, slice_index, ℕ, ◌+◌, ◌*◌, ◌/◌, ◌%◌, Bool, true, false, List, [], ◌++◌, length, nat_le, nat_lt, ◌||◌, Option, None, Some, Result, Ok, Err, if◌then◌else◌}
use Rattle.std.specs.List.{flat_map}
use Rattle.dns_model.specs.Names.{wire}
use Rattle.dns_model.specs.Bytes.{u16_bytes, u32_bytes}
use Rattle.dns_model.specs.Types.{type_opt}
use Rattle.dns_model.specs.Records.{Rr, Question, EdnsValue, MessageValue}
use Rattle.dns_message.specs.MessageAt.{message_at}
use Rattle.dns_message.specs.declared.encode_error.EncodeError.{EncodeError}
use Rattle.dns_message.specs.declared.encode_error.EncodeError.TheVariants.{TooLong}

abbrev pub flag_bit : Bool → ℕ
flag_bit true = 1
flag_bit false = 0

abbrev pub question_bytes : Question → List ℕ
question_bytes q = wire q.owner ++ u16_bytes q.rtype ++ u16_bytes q.class

abbrev pub record_bytes : Rr → List ℕ
record_bytes r = wire r.owner ++ u16_bytes r.rtype ++ u16_bytes r.class ++ u32_bytes r.ttl ++ u16_bytes (length r.rdata) ++ r.rdata

-- the upper eight bits of the code, the version, DO and the lower 15 bits of the flags
abbrev pub opt_ttl : ℕ → EdnsValue → ℕ
opt_ttl code e =
    code / 16 % 256 * 0x0100_0000 + e.version * 0x0001_0000 + flag_bit e.dnssec_ok * 0x8000
    + e.flags % 0x8000

abbrev pub opt_bytes : ℕ → EdnsValue → List ℕ
opt_bytes code e = wire [] ++ u16_bytes type_opt ++ u16_bytes e.max_payload ++ u32_bytes (opt_ttl code e) ++ u16_bytes (length e.options) ++ e.options

abbrev pub edns_bytes : ℕ → Option EdnsValue → List ℕ
edns_bytes code None = []
edns_bytes code (Some e) = opt_bytes code e

abbrev pub edns_count : Option EdnsValue → ℕ
edns_count None = 0
edns_count (Some e) = 1

-- the second number of the header; its Z bit is 0
abbrev pub flags_of : MessageValue → ℕ
flags_of m =
    flag_bit m.response * 0x8000 + m.op_code % 16 * 0x0800 + flag_bit m.authoritative * 0x0400
    + flag_bit m.truncated * 0x0200 + flag_bit m.recursion_desired * 0x0100
    + flag_bit m.recursion_available * 0x0080 + flag_bit m.authentic_data * 0x0020
    + flag_bit m.checking_disabled * 0x0010 + m.response_code % 16

abbrev pub header_bytes : MessageValue → List ℕ
header_bytes m =
    u16_bytes m.id ++ u16_bytes (flags_of m) ++ u16_bytes (length m.queries) ++ u16_bytes (length m.answers)
    ++ u16_bytes (length m.authorities) ++ u16_bytes (length m.additionals + edns_count m.edns)

unfoldable pub written : MessageValue → List ℕ
written m =
    header_bytes m ++ flat_map question_bytes m.queries ++ flat_map record_bytes m.answers ++ flat_map record_bytes m.authorities
    ++ flat_map record_bytes m.additionals ++ edns_bytes m.response_code m.edns

-- a message has at most 65,535 bytes
unfoldable pub encoded : MessageValue → Result (List ℕ) EncodeError
encoded m = if nat_le (length (written m)) 65535 then Ok (written m) else Err TooLong

-- numbers that are bytes
abbrev pub AreBytes : List ℕ → Type 0
AreBytes bytes = (i : ℕ) → slice_index bytes i < 256

-- where some bytes are this message, these are it too
abbrev pub IsReadAgain : MessageValue → List ℕ → Type 0
IsReadAgain m again = (bytes : List ℕ) → AreBytes bytes → message_at bytes ≡ Ok m → message_at again ≡ Ok m

-- an empty query
abbrev pub empty_query : MessageValue
empty_query = record {
  id = 0;
  response = false;
  op_code = 0;
  authoritative = false;
  truncated = false;
  recursion_desired = false;
  recursion_available = false;
  authentic_data = false;
  checking_disabled = false;
  response_code = 0;
  queries = [];
  answers = [];
  authorities = [];
  additionals = [];
  edns = None;
}

-- for private functions of this crate only

abbrev pub has_long_options : Option EdnsValue → Bool
has_long_options None = false
has_long_options (Some e) = nat_lt 65535 (length e.options)

-- a section has more items than its count can say, or the OPT more options
unfoldable pub has_many : MessageValue → Bool
has_many m =
    nat_lt 65535 (length m.queries) || nat_lt 65535 (length m.answers) || nat_lt 65535 (length m.authorities)
    || nat_lt 65535 (length m.additionals + edns_count m.edns) || has_long_options m.edns
