-- What is asked of an input besides the report of its lookup: whether a report that stands behind its session holds (RFC 4035, 4.3, 5.2
-- and 5.3), which questions a verifier must be asked, which keys of a zone are trusted after sightings of them (RFC 5011, 2), and which
-- questions the records of an answer deny (RFC 8198, 5); what an input comes to, and what a run leaves.
use Rattle.std.specs.Prelude.{ℕ, ◌≡◌, ◌⊎◌, ◌<◌, Bool, true, false, List, [], length, Option, None, Some, Result, Ok, Err}
use Rattle.dns_model.specs.Chains.{Judge, judge}
use Rattle.dns_model.specs.SoundAnswers.{ResponseValue}
use Rattle.dns_model.specs.Trails.{AskedValue, EndingValue, Answered, Denied}
use Rattle.dns_evidence.specs.Listing.{answers_of}
use Rattle.dns_handle.specs.Errors.{ErrorValue, Dns, Nsec}
use Rattle.dns_handle.specs.Replies.{error_of}
use Rattle.dns_handle.specs.declared.error.NetError.{NetError}
use Rattle.dns_handle.specs.declared.error.NetError.TheVariants.{NoMemory}
use Rattle.dns_session.specs.SessionValue.{SessionValue}
use Rattle.dns_session.specs.Grammar.{session_of}
use Rattle.dns_session.specs.Stops.{NamesLine}
use Rattle.dns_audit.specs.ReportValue.{ReportValue}
use Rattle.dns_audit.specs.ReportGrammar.{audit_of}
use Rattle.dns_audit.specs.AuditText.{audit_text}
use Rattle.dns_questions.specs.Questions.{questions}
use Rattle.dns_questions.specs.QuestionsText.{questions_text}
use Rattle.dns_roll.specs.RollValue.{RollValue}
use Rattle.dns_roll.specs.RollGrammar.{roll_of}
use Rattle.dns_roll.specs.TrustedText.{rolled_text}
use Rattle.dns_deny.specs.DenyGrammar.{DenyValue, deny_of}
use Rattle.dns_deny.specs.DenialLines.{denials_text}
use Rattle.dns_io.specs.Reading.{input_limit, too_long_text, OfInput}
use Rattle.dns_io.specs.Leaving.{Leaves, WrotePrefix}
use Rattle.dns_run.specs.declared.task.Task.{Task}
use Rattle.dns_run.specs.declared.task.Task.TheVariants.{Audit, Questions, Roll, Deny, Explain}
use Rattle.dns_lookup.specs.LookupAnswers.{ShowsItsDenial}
use Rattle.dns_session_lookup.specs.Answering.{session_limits, IsSessionAnswer, IsSessionTrail}
use Rattle.dns_session_lookup.specs.Causes.{AnswersSession}
use Rattle.dns_run.specs.Explaining.{ExplainEnds}
use Rattle.dns_run.specs.Outcomes.{IsFault}
use Rattle.dns_session_lookup.specs.Soundness.{session_judge}
use Rattle.dns_session_lookup.specs.Verifying.{listing}
use Rattle.dns_session_lookup.specs.declared.verification.Verification.TheVariants.{ByList}

-- ---- what an input comes to: a status and a text

-- status 0, and the text says of each chain of a report whether it is justified, and of its trail whether that is a derivation, by
-- what a session trusts and accepts, at its moment, within its limits, and with no entry of a cache from before
pub record AnswersAudit (s : SessionValue) (report : ReportValue) (status : ℕ) (text : List ℕ) : Type 0 where
  pub done : status ≡ 0
  pub spelled : text ≡ audit_text (session_judge ByList s) (session_limits s) report

-- an audit: lines are counted from the session's first
abbrev pub AuditEnds : Result (SessionValue × ReportValue) ℕ → ℕ → List ℕ → Type 0
AuditEnds (Ok read) status text = AnswersAudit read.0 read.1 status text
AuditEnds (Err number) status text = NamesLine number status text

-- by what questions of a session are found: the algorithms that it supports, and its moment; no signature is accepted yet
abbrev pub question_judge : SessionValue → Judge
question_judge s = judge (answers_of (listing s.algorithms [])) [] s.moment

-- a trail that ends so is that of an answer or of a denial
abbrev pub is_shown : EndingValue → Bool
is_shown (Answered denial) = true
is_shown (Denied proof) = true
is_shown ending = false

-- the text lists the questions of a trail for the session: the trail of its answer, or of its denial
pub record ListsQuestions (s : SessionValue) (text : List ℕ) : Type 0 where
  pub trail : List AskedValue
  pub ending : EndingValue
  pub shown : is_shown ending ≡ true
  pub is : IsSessionTrail ByList s trail ending
  pub spelled : text ≡ questions_text (questions (question_judge s) trail)

-- the trail of the response inside a denial
abbrev pub denied_trail : ErrorValue → Option (List AskedValue)
denied_trail (Dns (Nsec query response proof)) = Some response.trail
denied_trail error = None

-- the text is the line of an error without a trail, in answer to the session
pub record IsBareFault (s : SessionValue) (text : List ℕ) : Type 0 where
  pub fault : IsFault ByList s text
  pub bare : denied_trail fault.error ≡ None

-- the questions of an answer or a denial with status 0, or a fault's line with status 1
pub data AnswersQuestions (s : SessionValue) (status : ℕ) (text : List ℕ) : Type 0 where
  Listed : status ≡ 0 → ListsQuestions s text → AnswersQuestions s status text
  Failed : status ≡ 1 → IsBareFault s text → AnswersQuestions s status text

abbrev pub QuestionsEnd : Result SessionValue ℕ → ℕ → List ℕ → Type 0
QuestionsEnd (Ok session) status text = AnswersQuestions session status text
QuestionsEnd (Err number) status text = NamesLine number status text

-- the lines of the keys that are trusted after the sightings of a text, by what it accepts
abbrev pub followed_text : RollValue → List ℕ
followed_text t = rolled_text (answers_of (listing t.algorithms t.accepts)) t

-- status 0, and a line for each key that is trusted after the sightings of a text
pub record AnswersRoll (t : RollValue) (status : ℕ) (text : List ℕ) : Type 0 where
  pub done : status ≡ 0
  pub spelled : text ≡ followed_text t

abbrev pub RollEnds : Result RollValue ℕ → ℕ → List ℕ → Type 0
RollEnds (Ok t) status text = AnswersRoll t status text
RollEnds (Err number) status text = NamesLine number status text

-- the text says of each question behind a session whether the records of an answer to the session deny it, at its moment; the answer has
-- a trail for the session, and shows what it denies
pub record TellsDenials (t : DenyValue) (text : List ℕ) : Type 0 where
  pub answer : ResponseValue
  pub given : IsSessionAnswer ByList t.session answer (Answered answer.denial)
  pub denies : ShowsItsDenial t.session.moment t.session.query answer
  pub spelled : text ≡ denials_text answer t.session.moment t.questions

-- what is denied by an answer with status 0, or a fault's line with status 1
pub data AnswersDeny (t : DenyValue) (status : ℕ) (text : List ℕ) : Type 0 where
  Told : status ≡ 0 → TellsDenials t text → AnswersDeny t status text
  Faulted : status ≡ 1 → IsFault ByList t.session text → AnswersDeny t status text

-- lines are counted from the session's first
abbrev pub DenyEnds : Result DenyValue ℕ → ℕ → List ℕ → Type 0
DenyEnds (Ok t) status text = AnswersDeny t status text
DenyEnds (Err number) status text = NamesLine number status text

-- what bytes come to by a task
abbrev pub TaskEnds : Task → List ℕ → ℕ → List ℕ → Type 0
TaskEnds Audit bytes status text = AuditEnds (audit_of bytes) status text
TaskEnds Questions bytes status text = QuestionsEnd (session_of bytes) status text
TaskEnds Roll bytes status text = RollEnds (roll_of bytes) status text
TaskEnds Deny bytes status text = DenyEnds (deny_of bytes) status text
TaskEnds (Explain how) bytes status text = ExplainEnds how (session_of bytes) status text

-- ---- what a run leaves

-- what may be written of bytes: the text of a status to which they come; what is said of an input that is too long; or nothing, where
-- memory runs out before a text is there
pub data TaskTells (task : Task) (bytes text : List ℕ) : Type 0 where
  Ended : (status : ℕ) → TaskEnds task bytes status text → TaskTells task bytes text
  TooLong : input_limit < length bytes → text ≡ too_long_text → TaskTells task bytes text
  Nothing : text ≡ [] → TaskTells task bytes text

-- a status below 4 is one to which the told bytes come, and its text was written; and whatever the status, a prefix of a text that
-- they may come to was written
pub record EndsTask (task : Task) (status : ℕ) (told before now : Option (List ℕ)) : Type 0 where
  pub ends : status < 4 → Leaves (λ bytes text. TaskEnds task bytes status text) told before now
  pub prefix : OfInput told (λ bytes. WrotePrefix before now (TaskTells task bytes))

-- ---- for private functions of this crate only

-- memory ran out, or the error is what a lookup answers to the session
abbrev pub MayFail : SessionValue → NetError → Type 0
MayFail s error = (error ≡ NoMemory) ⊎ AnswersSession ByList s (Err (error_of error))

-- status 1, and the text is the line of this error, in answer to the session
pub record EndsAsFault (s : SessionValue) (error : NetError) (status : ℕ) (text : List ℕ) : Type 0 where
  pub done : status ≡ 1
  pub fault : IsFault ByList s text
  pub its : fault.error ≡ error_of error
