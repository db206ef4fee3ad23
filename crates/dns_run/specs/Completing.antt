-- What a run over a valid session ends with (RFC 4035, 4.3 and 5).
use Rattle.std.specs.Prelude.{ℕ, ◌≡◌, ◌≤◌, List, Option, Ok}
use Rattle.dns_io.specs.Leaving.{Wrote}
use Rattle.dns_laws.specs.Valid.{IsValidSession}
use Rattle.dns_lookup.specs.Completing.{first_told, AnswersSecurely}
use Rattle.dns_report.specs.declared.parts.Parts.{Parts}
use Rattle.dns_session_lookup.specs.declared.verification.Verification.{Verification}
use Rattle.dns_session.specs.SessionValue.{SessionValue}
use Rattle.dns_session_lookup.specs.Answering.{session_replies, session_depth}
use Rattle.dns_run.specs.Outcomes.{IsTrailReport}
use Rattle.dns_session_lookup.specs.Soundness.{session_judge}

-- the session is valid for its query, by its keys, algorithms and accepted signatures at its moment, within its depth
abbrev pub IsValid : Verification → SessionValue → Type 0
IsValid how s = IsValidSession (session_judge how s) (first_told (session_replies s)) (session_depth s) s.query

-- the text is the report of an answer that has a trail for the session and no denial, in which the records that were queried
-- stand, each of them Secure
pub record IsSecureReport (how : Verification) (shows : Parts) (s : SessionValue) (text : List ℕ) : Type 0 where
  pub is : IsTrailReport how shows s text
  pub secure : AnswersSecurely s.query (Ok is.report.answer)

-- such a report was written, and the status says so; or the status is 4 or more: a read or a write failed, memory ran out, or the
-- input is too long, as the clauses on the source, the sink and the length say
pub data EndsSecurely (how : Verification) (shows : Parts) (s : SessionValue) (status : ℕ) (before now : Option (List ℕ)) : Type 0 where
  Shown : status ≡ 0 → Wrote before now (IsSecureReport how shows s) → EndsSecurely how shows s status before now
  Stopped : 4 ≤ status → EndsSecurely how shows s status before now
