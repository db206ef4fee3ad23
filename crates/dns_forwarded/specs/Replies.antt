-- The reply of a validating forwarder (RFC 1035, 4.1.1; RFC 3225, 3; RFC 4035, 3.2; RFC 6840, 5.7 to 5.9; RFC 6891, 6.1 and 7).
use Rattle.std.specs.Prelude.{ℕ, Bool, true, false, not, ◌==◌, ◌&&◌, ◌||◌, nat_le, nat_lt, min, max, List, [], ◌∷◌, length, Option, None, Some, Result, Ok, Err, if◌then◌else◌}
use Rattle.std.specs.List.{filter, list_any, list_all}
use Rattle.dns_model.specs.declared.proof.Proof.{Proof}
use Rattle.dns_model.specs.declared.proof.Proof.TheVariants.{Secure, Bogus}
use Rattle.dns_model.specs.declared.denial.Denial.{Denial}
use Rattle.dns_model.specs.declared.denial.Denial.TheVariants.{Absent}
use Rattle.dns_model.specs.Types.{type_rrsig, type_nsec, type_nsec3, code_no_error}
use Rattle.dns_model.specs.Records.{Rr, Question, EdnsValue, MessageValue}
use Rattle.dns_model.specs.Sections.{is_empty, is_signature}
use Rattle.dns_model.specs.SoundAnswers.{ResponseValue, Told, is_secure}
use Rattle.dns_message.specs.WrittenAs.{written, empty_query}
use Rattle.dns_handle.specs.declared.protocol.Protocol.{Protocol}
use Rattle.dns_handle.specs.declared.protocol.Protocol.TheVariants.{Udp, Tcp}
use Rattle.dns_forwarded.specs.Requests.{code_form_err, code_serv_fail, received_of, course_of}
use Rattle.dns_forwarded.specs.declared.outcome.Outcome.{Outcome}
use Rattle.dns_forwarded.specs.declared.outcome.Outcome.TheVariants as outcome
use Rattle.dns_forwarded.specs.declared.received.Received.{Received}
use Rattle.dns_forwarded.specs.declared.received.Received.TheVariants.{Ignored, Unreadable, Read}

-- ---- what a reply repeats of its request

-- its question, where it has exactly one
abbrev pub replied_questions : List Question → List Question
replied_questions [] = []
replied_questions (q ∷ []) = q ∷ []
replied_questions (q ∷ r ∷ more) = []

-- EDNS where the request has it: 1232 bytes, version 0, its DO, no other flag and no option (RFC 6891, 7; RFC 3225, 3)
abbrev pub replied_edns : Option EdnsValue → Option EdnsValue
replied_edns None = None
replied_edns (Some edns) = Some (record { max_payload = 1232; version = 0; dnssec_ok = edns.dnssec_ok; flags = 0; options = [] })

-- a reply that tells this: the request's id, opcode, RD and CD, with QR and RA
abbrev pub reply_with : MessageValue → Told → Bool → Bool → MessageValue
reply_with request told authentic truncated = record {
  id = request.id;
  response = true;
  op_code = request.op_code;
  authoritative = false;
  truncated = truncated;
  recursion_desired = request.recursion_desired;
  recursion_available = true;
  authentic_data = authentic;
  checking_disabled = request.checking_disabled;
  response_code = told.code;
  queries = replied_questions request.queries;
  answers = told.answers;
  authorities = told.authorities;
  additionals = told.additionals;
  edns = replied_edns request.edns;
}

-- a code, and no record
abbrev pub code_alone : ℕ → Told
code_alone code = record { code = code; answers = []; authorities = []; additionals = [] }

abbrev pub bare_reply : MessageValue → ℕ → MessageValue
bare_reply request code = reply_with request (code_alone code) false false

-- ---- which records a client is told

-- DO: the client takes DNSSEC records (RFC 3225, 3)
abbrev pub wants_dnssec : Option EdnsValue → Bool
wants_dnssec None = false
wants_dnssec (Some edns) = edns.dnssec_ok

-- RRSIG, NSEC or NSEC3, which without DO only a query for its type gets (RFC 4035, 3.2.1)
abbrev pub is_dnssec_type : ℕ → Bool
is_dnssec_type rtype = (rtype == type_rrsig) || ((rtype == type_nsec) || (rtype == type_nsec3))

abbrev pub is_shown : Bool → ℕ → Rr → Bool
is_shown dnssec_ok qtype r = dnssec_ok || (not (is_dnssec_type r.rtype) || (r.rtype == qtype))

abbrev pub is_bogus : Proof → Bool
is_bogus Bogus = true
is_bogus _ = false

-- the same, a Bogus record aside, unless the client checks for itself (RFC 4035, 3.2.2)
abbrev pub is_shown_beside : Bool → Bool → ℕ → Rr → Bool
is_shown_beside checks dnssec_ok qtype r =
    if checks then is_shown dnssec_ok qtype r else is_shown dnssec_ok qtype r && not (is_bogus r.proof)

-- the code and the sections of a response, as a client is told them
abbrev pub told_to : MessageValue → Question → MessageValue → Told
told_to request q response = record {
  code = response.response_code;
  answers = filter (is_shown (wants_dnssec request.edns) q.rtype) response.answers;
  authorities = filter (is_shown (wants_dnssec request.edns) q.rtype) response.authorities;
  additionals = filter (is_shown_beside request.checking_disabled (wants_dnssec request.edns) q.rtype) response.additionals;
}

-- ---- AD (RFC 4035, 3.2.3; RFC 6840, 5.7 and 5.8)

-- the client asked for it, by DO or by AD
abbrev pub asks_if_authentic : MessageValue → Bool
asks_if_authentic request = wants_dnssec request.edns || request.authentic_data

-- what was asked for is there, and all but signatures is Secure
abbrev pub is_secure_answer : ℕ → MessageValue → Bool
is_secure_answer qtype response =
    (response.response_code == code_no_error)
    && (list_any (λ r. (r.rtype == qtype) && not (is_signature r)) response.answers
    && list_all (λ r. is_signature r || is_secure r.proof) response.answers)

-- nothing is there, and that is proved
abbrev pub is_secure_absence : Denial → Bool
is_secure_absence (Absent Secure) = true
is_secure_absence denial = false

abbrev pub is_secure_denial : List Rr → Denial → Bool
is_secure_denial answers denial = is_empty answers && is_secure_absence denial

abbrev pub is_authentic : Question → ResponseValue → Bool
is_authentic q response =
    is_secure_answer q.rtype response.message || is_secure_denial response.message.answers response.denial

-- ---- the reply

-- a client that doesn't check for itself gets no Bogus answer: neither a Bogus denial nor a Bogus record in answer or authority section
-- (RFC 4035, 3.2.2; RFC 6840, 5.9)
abbrev pub is_withheld : Bool → Bool → MessageValue → Bool
is_withheld checks bogus response =
    not checks
    && (bogus || (list_any (λ r. is_bogus r.proof) response.answers || list_any (λ r. is_bogus r.proof) response.authorities))

-- a code of more than four bits has no place without EDNS (RFC 6891, 6.1.3)
abbrev pub has_no_place : Option EdnsValue → ℕ → Bool
has_no_place None code = nat_lt 15 code
has_no_place (Some edns) code = false

-- by a response that was looked up; `bogus` says whether it is denied and Bogus
abbrev pub judged_reply : MessageValue → Question → MessageValue → Bool → Bool → MessageValue
judged_reply request q response bogus authentic =
    if is_withheld request.checking_disabled bogus response || has_no_place request.edns response.response_code
    then bare_reply request code_serv_fail
    else reply_with request (told_to request q response) authentic false

-- by what the lookup came to; where there was none it failed
abbrev pub looked_up_reply : MessageValue → Question → Outcome → MessageValue
looked_up_reply request q (outcome.Failed error) = bare_reply request code_serv_fail
looked_up_reply request q outcome.None = bare_reply request code_serv_fail
looked_up_reply request q (outcome.Denied response proof) = judged_reply request q response.message (is_bogus proof) false
looked_up_reply request q (outcome.Answered response) =
    judged_reply request q response.message false (asks_if_authentic request && is_authentic q response)

-- by the code by which a request is refused, or by its question
abbrev pub reply_by : MessageValue → Result Question ℕ → Outcome → MessageValue
reply_by request (Err code) outcome = bare_reply request code
reply_by request (Ok q) outcome = looked_up_reply request q outcome

-- the most bytes of a datagram that a client says it takes; without EDNS it says nothing
abbrev pub payload_of : Option EdnsValue → ℕ
payload_of None = 0
payload_of (Some edns) = edns.max_payload

-- the most bytes of a reply (RFC 1035, 4.2.1 and 4.2.2; RFC 6891, 6.2.3 to 6.2.5)
abbrev pub room_of : Protocol → Option EdnsValue → ℕ
room_of Udp edns = max 512 (min (payload_of edns) 1232)
room_of Tcp edns = 65535

-- a reply that is too long: over UDP it is cut off (TC), and over TCP there is none
abbrev pub shortened : MessageValue → Protocol → MessageValue → MessageValue
shortened request Udp reply = record reply { truncated = true; answers = []; authorities = []; additionals = [] }
shortened request Tcp reply = bare_reply request code_serv_fail

abbrev pub fitted : MessageValue → Protocol → MessageValue → MessageValue
fitted request protocol reply =
    if nat_le (length (written reply)) (room_of protocol request.edns) then reply else shortened request protocol reply

-- the reply to a request
unfoldable pub reply_to : MessageValue → Protocol → Outcome → MessageValue
reply_to request protocol outcome = fitted request protocol (reply_by request (course_of request) outcome)

-- the reply to bytes that are no message: their id, QR and the code
abbrev pub unreadable_reply : ℕ → MessageValue
unreadable_reply id = record empty_query { id = id; response = true; response_code = code_form_err }

-- the reply to what came, in wire form
abbrev pub reply_bytes : Received → Protocol → Outcome → Option (List ℕ)
reply_bytes Ignored protocol outcome = None
reply_bytes (Unreadable id) protocol outcome = Some (written (unreadable_reply id))
reply_bytes (Read request) protocol outcome = Some (written (reply_to request protocol outcome))

-- the reply to the bytes of a request
abbrev pub forwarded : List ℕ → Protocol → Outcome → Option (List ℕ)
forwarded bytes protocol outcome = reply_bytes (received_of bytes) protocol outcome
