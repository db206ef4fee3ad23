-- Why a lookup gives each answer that has no response (RFC 4035, 4.3 and 5.4; RFC 1035, 3.2.4).
use Rattle.std.specs.Prelude.{ℕ, ◌≡◌, ◌⊎◌, Bool, true, false, Option, None, Some, Ok, Err}
use Rattle.dns_model.specs.Counts.{Rose}
use Rattle.dns_model.specs.Names.{Labels}
use Rattle.dns_model.specs.Records.{Rr, Question}
use Rattle.dns_model.specs.SoundAnswers.{Told}
use Rattle.dns_rules.specs.Outcome.{foreign_record}
use Rattle.dns_handle.specs.Errors.{Reply, ErrorValue, Dns, ForeignClassRecord, NoMemory, Nsec}
use Rattle.dns_handle.specs.Handles.{Replies, reply_to}
use Rattle.dns_handle.specs.declared.handle.DnsHandle as handle
use Rattle.dns_validation.specs.Received.{received_message, received}
use Rattle.dns_flow.specs.Phases.{judged_ask}
use Rattle.dns_lookup.specs.Calls.{Call, first_ask_of_call}

-- ---- an error that the upstream answered

-- the errors of which a lookup makes none by itself
abbrev pub is_upstreams : ErrorValue → Bool
is_upstreams (Dns (Nsec asked response proof)) = false
is_upstreams (ForeignClassRecord owner class rtype) = false
is_upstreams NoMemory = false
is_upstreams error = true

-- the call made one send and no other, it was answered this error, which has no message, and a fault was met
pub record PassedOn {H : Type 0} (meanings : handle.Ghosts H) (call : Call H) (error : ErrorValue) : Type 0 where
  pub made : first_ask_of_call meanings call call.old (judged_ask call.query) call.new (Err error)
  pub silent : received_message (Err error) ≡ None
  pub rose : Rose (meanings.faults call.old) (meanings.faults call.new)

-- an error that only an upstream makes is passed on; so that there are no records is never answered, since it has a message
abbrev pub PassesOnly : {H : Type 0} → handle.Ghosts H → Call H → Reply → Type 0
PassesOnly meanings call answer =
    (error : ErrorValue) → is_upstreams error ≡ true → answer ≡ Err error → PassedOn meanings call error

-- whatever error without a message a known upstream replies is the answer
abbrev pub PassesOn : Option Replies → Question → Reply → Type 0
PassesOn None q answer = Unit {0}
PassesOn (Some replies) q answer = received_message (reply_to replies.list q) ≡ None → answer ≡ reply_to replies.list q

-- ---- a record of another class

-- the call made one send and no other, and the error names the first record of its reply, in section order, that has
-- another class than the query
pub record NamesForeign {H : Type 0} (meanings : handle.Ghosts H) (call : Call H) (error : ErrorValue) : Type 0 where
  pub reply : Reply
  pub records : Told
  pub first : Rr
  pub made : first_ask_of_call meanings call call.old (judged_ask call.query) call.new reply
  pub received : received reply ≡ Some records
  pub found : foreign_record call.query records ≡ Some first
  pub named : error ≡ ForeignClassRecord first.owner first.class first.rtype

-- a class is complained of where the upstream did so, or for such a record
abbrev pub ForeignOnly : {H : Type 0} → handle.Ghosts H → Call H → Reply → Type 0
ForeignOnly meanings call answer =
    (owner : Labels) (class rtype : ℕ) → answer ≡ Err (ForeignClassRecord owner class rtype)
    → PassedOn meanings call (ForeignClassRecord owner class rtype)
    ⊎ NamesForeign meanings call (ForeignClassRecord owner class rtype)

-- the first such record of a known upstream's reply is named
abbrev pub ForeignNamed : Option Replies → Question → Reply → Type 0
ForeignNamed None q answer = Unit {0}
ForeignNamed (Some replies) q answer =
    (records : Told) (first : Rr) → received (reply_to replies.list q) ≡ Some records → foreign_record q records ≡ Some first
    → answer ≡ Err (ForeignClassRecord first.owner first.class first.rtype)

-- ---- all of these

-- an answer has its cause
pub record HasItsCause {H : Type 0} (meanings : handle.Ghosts H) (call : Call H) (answer : Reply) : Type 0 where
  -- an error that only the handle makes is passed on, after one send that met a fault
  pub passed : PassesOnly meanings call answer
  -- a class is complained of where the handle did so, or for the first record of another class than the query's
  pub foreign : ForeignOnly meanings call answer

-- ---- all else is answered

-- an Ok answer or a denial
abbrev pub has_response : Reply → Bool
has_response (Ok response) = true
has_response (Err (Dns (Nsec asked response proof))) = true
has_response (Err error) = false

-- where a known upstream's reply has records of the query's class alone, they are answered or denied, whatever nested asks meet
abbrev pub AnswersTold : Option Replies → Question → Reply → Type 0
AnswersTold None q answer = Unit {0}
AnswersTold (Some replies) q answer =
    (records : Told) → received (reply_to replies.list q) ≡ Some records → foreign_record q records ≡ None
    → has_response answer ≡ true
