-- What becomes of a response: records, that there are none, or a failure (RFC 1035, 4.1.1; RFC 2308, 2 and 5; RFC 6895, 2.3).
use Rattle.std.specs.Prelude.{ℕ, Bool, not, ◌==◌, ◌&&◌, ◌||◌, nat_le, min, List, [], ◌++◌, map, Option, is_some, unwrap_or, Result, Ok, Err, if◌then◌else◌}
use Rattle.std.specs.List.{list_any, filter, find}
use Rattle.std.specs.Option.{option_map, option_and_then, option_map_or}
use Rattle.dns_model.specs.Names.{Labels, name_eq, at_or_above}
use Rattle.dns_model.specs.Types.{type_a, type_ns, type_soa, can_deny, class_in}
pub use Rattle.dns_model.specs.Types.{type_aaaa, type_any}
pub use Rattle.dns_model.specs.Sections.{is_empty}
use Rattle.dns_model.specs.Views.{ns_in, soa_in}
use Rattle.dns_model.specs.Records.{Rr, Question, MessageValue}
use Rattle.dns_model.specs.SoundAnswers.{ResponseValue}
use Rattle.dns_model.specs.RecordViews.{read_as}
use Rattle.dns_handle.specs.Requests.{first_query}
use Rattle.dns_handle.specs.NoRecords.{ForwardNsValue, NoRecordsValue}
use Rattle.dns_handle.specs.Errors.{DnsErrorValue, ResponseCode, NoRecordsFound}

-- a code by which a server says that it failed or refused: FORMERR, SERVFAIL, NOTIMP to NOTZONE, BADVERS to BADCOOKIE
abbrev pub is_failure : ℕ → Bool
is_failure code = (code == 1) || (code == 2) || (nat_le 4 code && nat_le code 10) || (nat_le 16 code && nat_le code 23)

-- a record answers a question: one of type ANY by its name alone, one of type SOA as the SOA of a zone that the name is in,
-- another by its name and type
abbrev pub answers_to : Question → Rr → Bool
answers_to q r =
    if q.rtype == type_any then name_eq r.owner q.owner
    else if q.rtype == type_soa then (r.rtype == type_soa) && at_or_above r.owner q.owner
    else (r.rtype == q.rtype) && name_eq r.owner q.owner

-- a question of another type than these two is answered by whatever the answer section holds, as an alias
abbrev pub takes_any_answer : ℕ → Bool
takes_any_answer rtype = not ((rtype == type_any) || (rtype == type_soa))

-- the records of the three sections
abbrev pub all_records : MessageValue → List Rr
all_records message = message.answers ++ (message.authorities ++ message.additionals)

-- the message has an answer to a question
abbrev pub is_answered : MessageValue → Question → Bool
is_answered message q = (takes_any_answer q.rtype && not (is_empty message.answers)) || list_any (answers_to q) (all_records message)

-- it has one to some question of it
abbrev pub contains_answer : MessageValue → Bool
contains_answer message = list_any (is_answered message) message.queries

-- the message says that there are no records: by its code, with nothing cut off, and with no answer
abbrev pub is_negative : MessageValue → Bool
is_negative message = can_deny message.response_code && (not message.truncated && not (contains_answer message))

-- an SOA that can be read
abbrev pub is_soa : Rr → Bool
is_soa r = is_some (read_as type_soa soa_in r)

abbrev pub is_ns : Rr → Bool
is_ns r = r.rtype == type_ns

-- an address of a name (RFC 1035, 3.4.1; RFC 3596, 2.2)
abbrev pub is_address_of : Labels → Rr → Bool
is_address_of name r = ((r.rtype == type_a) || (r.rtype == type_aaaa)) && name_eq r.owner name

-- an NS record, with the addresses of the server that it names; where that can't be read there are none
abbrev pub forwarded : List Rr → Rr → ForwardNsValue
forwarded additionals ns = record {
  ns = ns;
  glue = option_map_or (λ target. filter (is_address_of target) additionals) (read_as type_ns ns_in ns) [];
}

-- for how long an SOA lets it be believed that there are no records (RFC 2308, 5)
abbrev pub negative_ttl_of : Rr → Option ℕ
negative_ttl_of soa = option_map (λ said. min soa.ttl said.minimum) (read_as type_soa soa_in soa)

-- the question where a message has none: the root's addresses
abbrev pub root_question : Question
root_question = record { owner = []; rtype = type_a; class = class_in }

-- what a message says that has no records
abbrev pub no_records_of : MessageValue → NoRecordsValue
no_records_of message = record {
  query = unwrap_or (first_query message.queries) root_question;
  soa = find is_soa message.authorities;
  ns = map (forwarded message.additionals) (filter is_ns message.authorities);
  negative_ttl = option_and_then negative_ttl_of (find is_soa message.authorities);
  response_code = message.response_code;
  authorities = message.authorities;
}

-- a failure by its code; that there are no records; else the response
abbrev pub from_response : ResponseValue → Result ResponseValue DnsErrorValue
from_response response =
    if is_failure response.message.response_code then Err (ResponseCode response.message.response_code)
    else if is_negative response.message then Err (NoRecordsFound (no_records_of response.message))
    else Ok response
