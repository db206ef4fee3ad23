-- An answer that is explained: its report with its trail, and why each set of that isn't Secure (RFC 4035, 4.3, 5.2 and 5.3).
use Rattle.std.specs.Prelude.{ℕ, ◌≡◌, ◌≢◌, List, [], ◌++◌, Option, None, Some, Result, Ok, Err}
use Rattle.std.specs.Option.{option_map_or}
use Rattle.dns_model.specs.Chains.{Judge, judge}
use Rattle.dns_model.specs.SoundAnswers.{ResponseValue}
use Rattle.dns_model.specs.Trails.{AskedValue}
use Rattle.dns_rules.specs.Asking.{Limits}
use Rattle.dns_handle.specs.Errors as seen
use Rattle.dns_handle.specs.Errors.{ErrorValue, Reply, Dns, Nsec}
use Rattle.dns_causes.specs.Causes.{causes}
use Rattle.dns_causes.specs.CausesText.{causes_text}
use Rattle.dns_report.specs.declared.parts.Parts.TheVariants.{WithTrail}
use Rattle.dns_report.specs.Report.{report_text}
use Rattle.dns_report.specs.Faults.{fault_text}
use Rattle.dns_session.specs.SessionValue.{SessionValue}
use Rattle.dns_session.specs.Stops.{NamesLine}
use Rattle.dns_session_lookup.specs.Answering.{session_limits}
use Rattle.dns_session_lookup.specs.Causes.{AnswersSession}
use Rattle.dns_session_lookup.specs.Soundness.{session_judge}
use Rattle.dns_session_lookup.specs.Verifying.{verifier_answers}
use Rattle.dns_session_lookup.specs.declared.verification.Verification.{Verification}
use Rattle.dns_run.specs.declared.judging.Judging.{Judging}

-- ---- what is written

-- a line for each set of a trail, with its cause
abbrev pub why_text : Judge → Limits → List AskedValue → List ℕ
why_text j limits trail = causes_text 0 trail (causes j limits trail)

-- the report of an answer with its trail, a line, and why its sets aren't Secure
abbrev pub answer_by : Judge → Limits → ResponseValue → List ℕ → List ℕ
answer_by j limits answer line = report_text WithTrail answer ++ (line ++ why_text j limits answer.trail)

-- the answer inside a denial
abbrev pub denied_answer : ErrorValue → Option ResponseValue
denied_answer (Dns (Nsec query response proof)) = Some response
denied_answer error = None

-- the line of an error, in front of why the sets of the answer inside it aren't Secure, if it has one
abbrev pub refused_by : Judge → Limits → ErrorValue → List ℕ
refused_by j limits error = option_map_or (λ answer. answer_by j limits answer (fault_text error)) (denied_answer error) (fault_text error)

-- status 0 with an answer, or 1 with an error, which isn't that memory ran out
abbrev pub IsExplained : Judge → Limits → Reply → ℕ → List ℕ → Type 0
IsExplained j limits (Ok answer) status text = (status ≡ 0) × (text ≡ answer_by j limits answer [])
IsExplained j limits (Err error) status text = (status ≡ 1) × ((error ≢ seen.NoMemory) × (text ≡ refused_by j limits error))

-- ---- what an input comes to

-- the text explains what a lookup answers to the session: report, trail and causes are those of that answer, by what the session
-- trusts and verifies, at its moment, within its limits
pub record Explains (how : Verification) (s : SessionValue) (status : ℕ) (text : List ℕ) : Type 0 where
  pub reply : Reply
  pub answers : AnswersSession how s reply
  pub is : IsExplained (session_judge how s) (session_limits s) reply status text

abbrev pub ExplainEnds : Verification → Result SessionValue ℕ → ℕ → List ℕ → Type 0
ExplainEnds how (Ok session) status text = Explains how session status text
ExplainEnds how (Err number) status text = NamesLine number status text

-- ---- for private functions of this crate only

abbrev pub judge_by : Judging → Judge
judge_by j = judge (verifier_answers j.verifier) j.anchors j.moment
