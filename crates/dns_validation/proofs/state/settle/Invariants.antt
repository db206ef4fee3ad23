use Rattle.dns_validation.specs.Runs.{Turns}
use Rattle.dns_validation.specs.Terms.{terms_of}
use Rattle.dns_validation.proofs.Work.{work}
use Rattle.dns_validation.proofs.state.settle.Given as goal

abbrev pub invariant-turns : goal.invariant-turns
invariant-turns g l = Turns (terms_of g.V.Verifier.answers l.context) l.initial.state l.state

abbrev pub decreases-turns : goal.decreases-turns
decreases-turns g l = work l.state
