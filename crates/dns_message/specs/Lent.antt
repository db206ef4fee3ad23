-- A message of parts that stand elsewhere, as a message.
use Rattle.std.specs.Prelude.{map}
use Rattle.dns_model.specs.Records.{MessageValue}
use Rattle.dns_message.specs.declared.message_ref.MessageRef.{MessageRef}

-- what it says
abbrev pub message_value : MessageRef → MessageValue
message_value m = record {
  id = m.id;
  response = m.response;
  op_code = m.op_code.0;
  authoritative = m.authoritative;
  truncated = m.truncated;
  recursion_desired = m.recursion_desired;
  recursion_available = m.recursion_available;
  authentic_data = m.authentic_data;
  checking_disabled = m.checking_disabled;
  response_code = m.response_code.0;
  queries = m.queries.now;
  answers = map (λ r. r.now) m.answers.now;
  authorities = map (λ r. r.now) m.authorities.now;
  additionals = map (λ r. r.now) m.additionals.now;
  edns = m.edns.now;
}
