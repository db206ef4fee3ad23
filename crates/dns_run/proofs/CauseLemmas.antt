-- What is written of the answer to a session: the report on a response, or the line of an error.
use Rattle.std.proofs.Common.{◌≡◌, ◌≢◌, ◌⊎◌, Bool, false, ℕ, List, Ok, Err, refl, ap, inl, inr}
use Rattle.std.specs.Prelude.{IsTrue}
use Rattle.dns_model.specs.SoundAnswers.{ResponseValue}
use Rattle.dns_handle.specs.ErrorKinds.{is_no_memory}
use Rattle.dns_handle.specs.Errors as seen
use Rattle.dns_handle.specs.Errors.{ErrorValue}
use Rattle.dns_handle.specs.Replies.{error_of}
use Rattle.dns_handle.specs.declared.error.NetError.{NetError}
use Rattle.dns_handle.specs.declared.error.NetError.TheVariants.{NoMemory}
use Rattle.dns_handle.proofs.ErrorLemmas.{untold_no_memory}
use Rattle.dns_report.specs.declared.parts.Parts.{Parts}
use Rattle.dns_report.specs.View.{View, view_of, fitting_view}
use Rattle.dns_report.specs.Report.{report_text, view_text}
use Rattle.dns_report.specs.Faults.{fault_text}
use Rattle.dns_session_lookup.specs.declared.verification.Verification.{Verification}
use Rattle.dns_session.specs.SessionValue.{SessionValue}
use Rattle.dns_session_lookup.specs.Causes.{AnswersSession}
use Rattle.dns_run.specs.Outcomes.{IsTrailReport, IsFault}

-- a report on the answer to a session
pub report_given : (how : Verification) (shows : Parts) (s : SessionValue) (answer : ResponseValue) (text : List ℕ)
    → AnswersSession how s (Ok answer) → text ≡ report_text shows answer → IsTrue (fitting_view (view_of shows answer))
    → ((other : View) → IsTrue (fitting_view other) → view_text other ≡ text → other ≡ view_of shows answer)
    → IsTrailReport how shows s text
report_given how shows s answer text given is fits tells = record {
  report = record { answer = answer; sound = given.answered.sound; spelled = is; fits = fits; tells = tells };
  given = given.answered;
  denies = given.denies;
}

-- the line of an error in answer to a session
fault_given : (how : Verification) (s : SessionValue) (e : ErrorValue) (text : List ℕ)
    → e ≢ seen.NoMemory → AnswersSession how s (Err e) → text ≡ fault_text e → IsFault how s text
fault_given how s e text own given is = record { error = e; own = own; cause = given.caused e refl own; spelled = is }

-- the line of a lookup's error that was tested for want of memory
pub fault_tested : (how : Verification) (s : SessionValue) (e : NetError) (told : Bool) (text : List ℕ)
    → told ≡ is_no_memory (error_of e) → told ≡ false → (e ≡ NoMemory) ⊎ AnswersSession how s (Err (error_of e))
    → text ≡ fault_text (error_of e) → IsFault how s text
fault_tested how s e told text tests untold (inl memory) is =
    absurd (untold_no_memory e told tests untold (ap error_of memory))
fault_tested how s e told text tests untold (inr given) is =
    fault_given how s (error_of e) text (untold_no_memory e told tests untold) given is
