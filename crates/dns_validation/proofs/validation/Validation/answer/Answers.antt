use Rattle.std.proofs.Common.{refl}
use Rattle.dns_validation.proofs.ReachedLemmas.{reached_heard}
use Rattle.dns_validation.proofs.RunLemmas.{taken_goes_on}
use Rattle.dns_validation.proofs.validation.Validation.answer.Goals as goal

pub invariant_of-self : goal.invariant_of-self
invariant_of-self g c = record {
  stands = reached_heard _ _ _ _ c.take.ensures.idle c.take.ensures.heard c.self.invariant.stands;
  accepted = c.self.invariant.accepted;
}

pub returns-clause-run : goal.returns-clause-run
returns-clause-run g c = rw (← c.self.view_is) (taken_goes_on _ _ _ _ _ refl c.take.ensures.heard)
