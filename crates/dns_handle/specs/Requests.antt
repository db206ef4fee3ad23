-- Requests (RFC 1035, 4.1; RFC 6891, 6.1).
use Rattle.std.specs.Prelude.{ℕ, true, false, List, [], ◌∷◌, Option, None, Some, if◌then◌else◌}
use Rattle.dns_model.specs.Records.{Question, EdnsValue, MessageValue}
use Rattle.dns_handle.specs.LetterCase.{name_cased}
use Rattle.dns_handle.specs.declared.request.DnsRequestOptions.{DnsRequestOptions}

-- a message to send, how, and its question as it was first
pub record RequestValue : Type 0 where
  pub message : MessageValue
  pub options : DnsRequestOptions
  pub original : Option Question

-- the options where nothing is asked for but recursion
abbrev pub plain_options : DnsRequestOptions
plain_options = record {
  use_edns = false;
  edns_payload_len = 1232;
  edns_set_dnssec_ok = false;
  recursion_desired = true;
  case_randomization = false;
  max_request_depth = 26;
  retry_interval_ms = 0;
}

abbrev pub first_query : List Question → Option Question
first_query [] = None
first_query (q ∷ qs) = Some q

-- the question that a request asks
abbrev pub first_question : RequestValue → Option Question
first_question request = first_query request.message.queries

-- the OPT record that options ask for
abbrev pub requested_edns : DnsRequestOptions → Option EdnsValue
requested_edns options =
    if options.use_edns
    then Some (record { max_payload = options.edns_payload_len; version = 0; dnssec_ok = options.edns_set_dnssec_ok; flags = 0; options = [] })
    else None

-- a query with one question and nothing else but RD and the OPT record
abbrev pub query_message : Question → DnsRequestOptions → MessageValue
query_message query options = record {
  id = 0;
  response = false;
  op_code = 0;
  authoritative = false;
  truncated = false;
  recursion_desired = options.recursion_desired;
  recursion_available = false;
  authentic_data = false;
  checking_disabled = false;
  response_code = 0;
  queries = query ∷ [];
  answers = [];
  authorities = [];
  additionals = [];
  edns = requested_edns options;
}

-- the request for one question
abbrev pub request_of : Question → DnsRequestOptions → RequestValue
request_of query options = record { message = query_message query options; options = options; original = None }

-- a question with the case of its name's chosen letters changed
abbrev pub question_cased : List ℕ → Question → Question
question_cased bits q = record { owner = name_cased bits q.owner; rtype = q.rtype; class = q.class }

abbrev pub first_cased : List ℕ → List Question → List Question
first_cased bits [] = []
first_cased bits (q ∷ qs) = question_cased bits q ∷ qs

abbrev pub keeping : Option Question → RequestValue → RequestValue
keeping None request = request
keeping (Some q) request = record request { original = Some q }

-- the request with the case of its first question's chosen letters changed; the question as it was before is its original.
-- Without a question nothing changes
abbrev pub request_cased : List ℕ → RequestValue → RequestValue
request_cased bits request =
    keeping (first_question request) (record request { message = record request.message { queries = first_cased bits request.message.queries } })
