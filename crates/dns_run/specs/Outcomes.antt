-- What an input comes to, and what a run leaves.
use Rattle.std.specs.Prelude.{ℕ, ◌≡◌, ◌≢◌, ◌<◌, IsTrue, List, [], length, Option, Ok, Err}
use Rattle.dns_model.specs.SoundAnswers.{ResponseValue}
use Rattle.dns_handle.specs.Errors as seen
use Rattle.dns_handle.specs.Errors.{ErrorValue}
use Rattle.dns_model.specs.Trails.{Answered}
use Rattle.dns_lookup.specs.LookupAnswers.{ShowsItsDenial}
use Rattle.dns_report.specs.declared.parts.Parts.{Parts}
use Rattle.dns_report.specs.View.{View, view_of, fitting_view}
use Rattle.dns_report.specs.Report.{report_text, view_text}
use Rattle.dns_report.specs.Faults.{fault_text}
use Rattle.dns_session_lookup.specs.declared.verification.Verification.{Verification}
use Rattle.dns_session.specs.SessionValue.{SessionValue}
use Rattle.dns_session.specs.Grammar.{session_of}
use Rattle.dns_session.specs.Stops.{bad_line_text}
use Rattle.dns_io.specs.Reading.{input_limit, too_long_text, OfInput}
use Rattle.dns_io.specs.Leaving.{WrotePrefix}
use Rattle.dns_session_lookup.specs.Answering.{IsSessionAnswer}
use Rattle.dns_session_lookup.specs.Soundness.{IsSound}
use Rattle.dns_session_lookup.specs.Causes.{FaultCause}

-- the text is the report of one answer, with its trail or without, and the answer is sound; what is shown of it, its view, fits,
-- and no other fitting view has this text
pub record IsReport (how : Verification) (shows : Parts) (session : SessionValue) (text : List ℕ) : Type 0 where
  pub answer : ResponseValue
  pub sound : IsSound how session answer
  pub spelled : text ≡ report_text shows answer
  pub fits : IsTrue (fitting_view (view_of shows answer))
  pub tells : (other : View) → IsTrue (fitting_view other) → view_text other ≡ text → other ≡ view_of shows answer

-- the text is the report of an answer that has a trail for the session and shows what it denies
pub record IsTrailReport (how : Verification) (shows : Parts) (session : SessionValue) (text : List ℕ) : Type 0 where
  pub report : IsReport how shows session text
  pub given : IsSessionAnswer how session report.answer (Answered report.answer.denial)
  pub denies : ShowsItsDenial session.moment session.query report.answer

-- the text is the line of one error, which has its cause in the session and isn't that memory ran out
pub record IsFault (how : Verification) (session : SessionValue) (text : List ℕ) : Type 0 where
  pub error : ErrorValue
  pub own : error ≢ seen.NoMemory
  pub cause : FaultCause how session error
  pub spelled : text ≡ fault_text error

-- the bytes are a session, and the text is the report of an answer to it
pub record Reports (how : Verification) (shows : Parts) (bytes text : List ℕ) : Type 0 where
  pub session : SessionValue
  pub read : session_of bytes ≡ Ok session
  pub report : IsReport how shows session text

-- the bytes are a session, and the text is the report of an answer that has a trail for it and shows what it denies
pub record Derives (how : Verification) (shows : Parts) (bytes text : List ℕ) : Type 0 where
  pub session : SessionValue
  pub read : session_of bytes ≡ Ok session
  pub report : IsTrailReport how shows session text

-- the bytes are a session, and the text is the line of an error in answer to it
pub record Fails (how : Verification) (bytes text : List ℕ) : Type 0 where
  pub session : SessionValue
  pub read : session_of bytes ≡ Ok session
  pub fault : IsFault how session text

-- the bytes are no session, and the text names the first bad line
pub record Refuses (bytes text : List ℕ) : Type 0 where
  pub number : ℕ
  pub read : session_of bytes ≡ Err number
  pub spelled : text ≡ bad_line_text number

-- what a run over bytes may write: nothing, where memory runs out before a text is there
pub data ComesTo (how : Verification) (shows : Parts) (bytes text : List ℕ) : Type 0 where
  Reported : Derives how shows bytes text → ComesTo how shows bytes text
  Failed : Fails how bytes text → ComesTo how shows bytes text
  Refused : Refuses bytes text → ComesTo how shows bytes text
  TooLong : input_limit < length bytes → text ≡ too_long_text → ComesTo how shows bytes text
  Nothing : text ≡ [] → ComesTo how shows bytes text

-- a prefix of a text that the told bytes come to was written; where none are told, of one that some bytes come to
abbrev pub LeavesPrefix : Verification → Parts → Option (List ℕ) → Option (List ℕ) → Option (List ℕ) → Type 0
LeavesPrefix how shows told before now = OfInput told (λ bytes. WrotePrefix before now (ComesTo how shows bytes))
