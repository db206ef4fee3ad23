-- Why a session is answered with an error (RFC 4035, 4.3 and 5.4), and what its replies must be answered with.
use Rattle.std.specs.Prelude.{◌≡◌, ◌≢◌, None, Some, Err, IfOk}
use Rattle.dns_model.specs.declared.proof.Proof.{Proof}
use Rattle.dns_model.specs.Records.{Rr}
use Rattle.dns_model.specs.SoundAnswers.{Told, ResponseValue}
use Rattle.dns_model.specs.Trails.{Denied}
use Rattle.dns_rules.specs.Outcome.{foreign_record}
use Rattle.dns_handle.specs.Errors.{Reply, ErrorValue, Dns, ForeignClassRecord, Nsec, NoMemory}
use Rattle.dns_lookup.specs.LookupAnswers.{OfAnswer, ShowsItsDenial}
use Rattle.dns_lookup.specs.Causes.{PassesOn, ForeignNamed, AnswersTold}
use Rattle.dns_session.specs.SessionValue.{SessionValue}
use Rattle.dns_session_lookup.specs.declared.verification.Verification.{Verification}
use Rattle.dns_session_lookup.specs.Replies.{session_told, session_message, session_records}
use Rattle.dns_session_lookup.specs.Answering.{session_replies, IsSessionAnswer}

-- the session's upstream answers this error to its query, which has no message: nothing came in time, the bytes are none, a
-- server failed, or there was a fault
pub record HasNoMessage (s : SessionValue) (error : ErrorValue) : Type 0 where
  pub told : session_told s ≡ Err error
  pub silent : session_message s ≡ None

-- a record of the reply has another class than the query: the first in section order is named
pub record HasForeign (s : SessionValue) (error : ErrorValue) : Type 0 where
  pub records : Told
  pub first : Rr
  pub told : session_records s ≡ Some records
  pub found : foreign_record s.query records ≡ Some first
  pub named : error ≡ ForeignClassRecord first.owner first.class first.rtype

-- why a session is answered with an error
pub data FaultCause (how : Verification) (s : SessionValue) (error : ErrorValue) : Type 0 where
  NoMessage : HasNoMessage s error → FaultCause how s error
  OtherClass : HasForeign s error → FaultCause how s error
  -- an answer is refused, with this proof, by a trail that ends so
  NotDenied : (response : ResponseValue) (proof : Proof) → IsSessionAnswer how s response (Denied proof)
      → error ≡ Dns (Nsec s.query response proof) → FaultCause how s error

-- a lookup of the session's query, over its replies, gives this answer: an answer has its trail and shows what it denies, an
-- error has its cause, and each reply to the query its answer
pub record AnswersSession (how : Verification) (s : SessionValue) (answer : Reply) : Type 0 where
  pub answered : OfAnswer answer (IsSessionAnswer how s)
  pub denies : IfOk answer (λ a. ShowsItsDenial s.moment s.query a)
  pub caused : (error : ErrorValue) → answer ≡ Err error → error ≢ NoMemory → FaultCause how s error
  pub passes : PassesOn (Some (session_replies s)) s.query answer
  pub foreign : ForeignNamed (Some (session_replies s)) s.query answer
  pub answers : AnswersTold (Some (session_replies s)) s.query answer
