-- For private functions of this crate only: what is written of an answer over a server, as it is explained or not.
use Rattle.std.specs.Prelude.{ℕ, ◌≡◌, Bool, true, false, List, Option, None, Some}
use Rattle.dns_model.specs.Chains.{Judge}
use Rattle.dns_model.specs.Keys.{anchored}
use Rattle.dns_rules.specs.Asking.{Limits}
use Rattle.dns_handle.specs.Errors.{Reply}
use Rattle.dns_session.specs.SessionValue.{SessionValue}
use Rattle.dns_session_lookup.specs.Answering.{session_limits}
use Rattle.dns_session_lookup.specs.Verifying.{session_answers, verifier_answers}
use Rattle.dns_session_lookup.specs.declared.verification.Verification.{Verification}
use Rattle.dns_run.specs.Asks.{IsReplyText}
use Rattle.dns_run.specs.Explaining.{IsExplained}
use Rattle.dns_run.specs.declared.judging.Judging.{Judging}

-- the text of an answer, by what it is explained, or which isn't explained
abbrev pub IsToldText : Option (Judge × Limits) → Reply → ℕ → List ℕ → Type 0
IsToldText (Some by) reply status text = IsExplained by.0 by.1 reply status text
IsToldText None reply status text = IsReplyText reply status text

-- by what the sets of a session's lookup are judged at a moment
pub record JudgesSession (how : Verification) (s : SessionValue) (now : ℕ) (j : Judging) : Type 0 where
  pub verifier : verifier_answers j.verifier ≡ session_answers how s
  pub anchors : anchored j.anchors ≡ anchored s.anchors
  pub moment : j.moment ≡ now
  pub limits : j.limits ≡ session_limits s

-- where the answer is explained
abbrev pub IsJudgingOf : Bool → Verification → SessionValue → ℕ → Option Judging → Type 0
IsJudgingOf explains how s now (Some j) = (explains ≡ true) × JudgesSession how s now j
IsJudgingOf explains how s now None = explains ≡ false
