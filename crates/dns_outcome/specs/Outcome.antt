-- The outcome of a step as the plain one.
use Rattle.dns_rules.specs.Outcome as outcome
use Rattle.dns_outcome.specs.declared.outcome.Outcome.{Outcome}
use Rattle.dns_outcome.specs.declared.outcome.Outcome.TheVariants.{Given, NeedsZone, Denied}

abbrev pub outcome_value : Outcome → outcome.Outcome
outcome_value (Given denial) = outcome.Given denial
outcome_value NeedsZone = outcome.NeedsZone
outcome_value (Denied proof) = outcome.Denied proof
