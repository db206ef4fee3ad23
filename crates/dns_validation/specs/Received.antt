-- What a lookup receives by a reply (RFC 2308, 2; RFC 4035, 4.2 and 5).
use Rattle.std.specs.Prelude.{Bool, true, false, List, [], ◌∷◌, ◌++◌, Option, None, Some, Ok, Err, if◌then◌else◌}
use Rattle.std.specs.List.{list_any}
use Rattle.std.specs.Option.{option_map, option_map_or}
use Rattle.dns_model.specs.Records.{Rr, MessageValue}
use Rattle.dns_model.specs.Trails.{HeardValue, Records, Fault}
use Rattle.dns_model.specs.SoundAnswers.{Told, told_by}
use Rattle.dns_model.specs.Sections.{same_record}
use Rattle.dns_rules.specs.Marking.{cleared_message}
use Rattle.dns_handle.specs.NoRecords.{NoRecordsValue}
use Rattle.dns_handle.specs.Errors.{Reply, ErrorValue, Dns, NoRecordsFound, Nsec}
use Rattle.dns_handle.specs.ErrorKinds.{is_no_records_found, is_no_memory}

-- the SOA that came with no records stands behind the authorities, unless one of them is that record, whatever its ttl
abbrev pub with_soa : List Rr → Option Rr → List Rr
with_soa authorities None = authorities
with_soa authorities (Some soa) = if list_any (same_record soa) authorities then authorities else authorities ++ soa ∷ []

-- that there are no records, as the message of a response: its question and its code, and what the authorities say
abbrev pub no_records_message : NoRecordsValue → MessageValue
no_records_message missing = record {
  id = 0;
  response = true;
  op_code = 0;
  authoritative = false;
  truncated = false;
  recursion_desired = false;
  recursion_available = false;
  authentic_data = false;
  checking_disabled = false;
  response_code = missing.response_code;
  queries = missing.query ∷ [];
  answers = [];
  authorities = with_soa missing.authorities missing.soa;
  additionals = [];
  edns = None;
}

-- the message of a reply, also that of the response inside a denial, and that which says that there are no records; none for
-- another error
abbrev pub received_message : Reply → Option MessageValue
received_message (Ok response) = Some response.message
received_message (Err (Dns (Nsec query response proof))) = Some response.message
received_message (Err (Dns (NoRecordsFound missing))) = Some (no_records_message missing)
received_message (Err error) = None

-- the reply said that there are no records
abbrev pub says_none : Reply → Bool
says_none (Ok response) = false
says_none (Err error) = is_no_records_found error

-- the records that a reply tells, without the marks that came with them
abbrev pub received : Reply → Option Told
received reply = option_map (λ message. told_by (cleared_message message)) (received_message reply)

-- what a step of a trail says that it heard of a reply: its records and whether it said that there are none, or a fault
abbrev pub heard_from : Reply → HeardValue
heard_from reply = option_map_or (λ told. Records told (says_none reply)) (received reply) Fault

-- ---- what a validation takes of a reply

-- a message without its marks, and whether the reply said that there are no records; or an error without a message
pub data ReceivedValue : Type 0 where
  Message : (message : MessageValue) (empty : Bool) → ReceivedValue
  Failed : (error : ErrorValue) → ReceivedValue

abbrev pub received_value : Reply → ReceivedValue
received_value (Ok response) = Message (cleared_message response.message) false
received_value (Err (Dns (Nsec query response proof))) = Message (cleared_message response.message) false
received_value (Err (Dns (NoRecordsFound missing))) = Message (cleared_message (no_records_message missing)) true
received_value (Err error) = Failed error

-- memory ran out, in the handle
abbrev pub is_out_of_memory : Reply → Bool
is_out_of_memory (Ok response) = false
is_out_of_memory (Err error) = is_no_memory error
