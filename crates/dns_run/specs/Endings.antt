-- For private functions of this crate only: what a text is, by how a run ends.
use Rattle.std.specs.Prelude.{ℕ, List}
use Rattle.dns_report.specs.declared.parts.Parts.{Parts}
use Rattle.dns_session_lookup.specs.declared.verification.Verification.{Verification}
use Rattle.dns_session.specs.SessionValue.{SessionValue}
use Rattle.dns_run.specs.Outcomes.{IsTrailReport, IsFault, Derives, Fails, Refuses}
use Rattle.dns_run.specs.declared.outcome.InputEnding.{InputEnding}
use Rattle.dns_run.specs.declared.outcome.InputEnding.TheVariants.{Report, Fault, BadLine}

-- how a session is answered
abbrev pub IsAnswered : Verification → Parts → SessionValue → InputEnding → List ℕ → Type 0
IsAnswered how shows session Report text = IsTrailReport how shows session text
IsAnswered how shows session Fault text = IsFault how session text
IsAnswered how shows session BadLine text = ⊥

-- what bytes come to
abbrev pub IsOutcome : Verification → Parts → List ℕ → InputEnding → List ℕ → Type 0
IsOutcome how shows bytes Report text = Derives how shows bytes text
IsOutcome how shows bytes Fault text = Fails how bytes text
IsOutcome how shows bytes BadLine text = Refuses bytes text
