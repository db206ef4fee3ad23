-- What update, notify and transfer messages are made of (RFC 2136, 2; RFC 1996, 3; RFC 5936, 2.1; RFC 6891, 6.1).
use Rattle.std.specs.Prelude.{ℕ, Bool, false, List, [], ◌∷◌, Option, None, Some, if◌then◌else◌}
use Rattle.dns_model.specs.declared.proof.Proof.TheVariants.{Indeterminate}
use Rattle.dns_model.specs.Names.{Labels}
use Rattle.dns_model.specs.Records.{Rr, Question, EdnsValue, MessageValue}

-- RFC 1996, 3.1
abbrev pub op_notify : ℕ
op_notify = 4

-- RFC 2136, 2.2
abbrev pub op_update : ℕ
op_update = 5

-- RFC 2136, 2.4
abbrev pub class_none : ℕ
class_none = 254

-- RFC 6891, 6.1: up to 1232 bytes in a datagram, version 0
abbrev pub plain_edns : Bool → Option EdnsValue
plain_edns use_edns =
    if use_edns then Some (record { max_payload = 1232; version = 0; dnssec_ok = false; flags = 0; options = [] }) else None

-- a request with id 0 and one question; no flag is set
abbrev pub message_of : ℕ → Question → List Rr → List Rr → Bool → MessageValue
message_of op_code question answers authorities use_edns = record {
  id = 0;
  response = false;
  op_code = op_code;
  authoritative = false;
  truncated = false;
  recursion_desired = false;
  recursion_available = false;
  authentic_data = false;
  checking_disabled = false;
  response_code = 0;
  queries = question ∷ [];
  answers = answers;
  authorities = authorities;
  additionals = [];
  edns = plain_edns use_edns;
}

-- a record without rdata, which speaks of the whole set of its name and type (RFC 2136, 2.4.1, 2.4.3, 2.5.2)
abbrev pub empty_record : Labels → ℕ → ℕ → Rr
empty_record owner rtype class = record { owner = owner; rtype = rtype; class = class; ttl = 0; rdata = []; proof = Indeterminate }
