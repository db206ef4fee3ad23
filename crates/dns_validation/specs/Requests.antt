-- The asks of a validation and their requests (RFC 4035, 4.1, 4.6 and 4.9.2; RFC 6840, 5.7).
use Rattle.std.specs.Prelude.{true, false, [], Option, None, Some, if◌then◌else◌}
use Rattle.dns_model.specs.Records.{Question, EdnsValue}
use Rattle.dns_handle.specs.Requests.{RequestValue, plain_options, query_message, request_of}
use Rattle.dns_handle.specs.declared.request.DnsRequestOptions.{DnsRequestOptions}
use Rattle.dns_flow.specs.declared.asks.Ask.{Ask}

-- the options of a judged ask: those of the call, with EDNS and DO, and with the default payload where they had no EDNS
abbrev pub asking_options : DnsRequestOptions → DnsRequestOptions
asking_options options = record options {
  use_edns = true;
  edns_payload_len = if options.use_edns then options.edns_payload_len else plain_options.edns_payload_len;
  edns_set_dnssec_ok = true;
}

-- the request of a judged ask: that of its query, with AD set and CD clear
abbrev pub asking_request : Question → DnsRequestOptions → RequestValue
asking_request query options = record {
  message = record (query_message query (asking_options options)) { authentic_data = true };
  options = asking_options options;
  original = None;
}

-- the request of an ask; that of a plain one is the query's by the options of the call
abbrev pub request_for : DnsRequestOptions → Ask → RequestValue
request_for options ask = if ask.judged then asking_request ask.query options else request_of ask.query options

-- ---- a whole request that is given

-- an OPT record with DO: the request's own, or else one with the default payload, 1,232 bytes
abbrev pub checked_edns : Option EdnsValue → EdnsValue
checked_edns None = record { max_payload = plain_options.edns_payload_len; version = 0; dnssec_ok = true; flags = 0; options = [] }
checked_edns (Some edns) = record edns { dnssec_ok = true }

-- the request with EDNS and DO, AD set and CD clear, and with the options of a judged ask; all else stays
abbrev pub checked_request : RequestValue → RequestValue
checked_request request = record request {
  message = record request.message {
    edns = Some (checked_edns request.message.edns);
    authentic_data = true;
    checking_disabled = false;
  };
  options = asking_options request.options;
}
