-- For the calls of this crate: phases, needs and what asks came to, as the definitions have them.
use Rattle.std.specs.Prelude.{◌≡◌, map}
use Rattle.dns_outcome.specs.Outcome.{outcome_value}
use Rattle.dns_trust.specs.Searching.{probe_value}
use Rattle.dns_trust.specs.Verdicts.{verdict_value, listed}
use Rattle.dns_flow.specs.declared.asks.Got.{Got}
use Rattle.dns_flow.specs.declared.asks.Got.TheVariants as got
use Rattle.dns_flow.specs.declared.phases.Phase.{Phase}
use Rattle.dns_flow.specs.declared.phases.Phase.TheVariants as phase
use Rattle.dns_flow.specs.declared.phases.Need.{Need}
use Rattle.dns_flow.specs.declared.phases.Need.TheVariants as need
use Rattle.dns_flow.specs.Phases.{GotValue, Answer, Probe, PhaseValue, Marked, NeedsDs, Trying, AtName, AtZone, Concluded, NeedValue, SetEnds, StepEnds, Asks}

abbrev pub got_value : Got → GotValue
got_value (got.Answer answer) = Answer (listed answer)
got_value (got.Probe probe) = Probe (probe_value probe)

abbrev pub phase_value : Phase → PhaseValue
phase_value (phase.Marked set) = Marked set
phase_value (phase.NeedsDs placed) = NeedsDs placed
phase_value (phase.Trying placed verdicts) = Trying placed (map verdict_value verdicts.items)
phase_value (phase.AtName seeker class name) = AtName seeker class.0 name
phase_value (phase.AtZone seeker class zone) = AtZone seeker class.0 zone
phase_value (phase.Concluded outcome) = Concluded (outcome_value outcome)

abbrev pub need_value : Need → NeedValue
need_value (need.SetEnds set) = SetEnds set
need_value (need.StepEnds outcome) = StepEnds (outcome_value outcome)
need_value (need.Asks ask phase) = Asks ask

-- a phase that asks is given back
abbrev pub Keeps : Phase → Need → Type 0
Keeps phase (need.SetEnds set) = Unit {0}
Keeps phase (need.StepEnds outcome) = Unit {0}
Keeps phase (need.Asks ask same) = same ≡ phase
