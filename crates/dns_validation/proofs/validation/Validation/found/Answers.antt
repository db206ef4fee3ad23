use Rattle.std.proofs.Common.{refl}
use Rattle.dns_validation.proofs.ReachedLemmas.{reached_taken}
use Rattle.dns_validation.proofs.RunLemmas.{found_takes_on}
use Rattle.dns_validation.proofs.validation.Validation.found.Goals as goal

pub invariant_of-self : goal.invariant_of-self
invariant_of-self g c = record {
  stands = reached_taken _ _ _ _ c.take_entry.ensures.idle c.take_entry.ensures.taken c.self.invariant.stands;
  accepted = c.take_entry.ensures.accepted;
}

pub returns-clause-run : goal.returns-clause-run
returns-clause-run g c = rw (← c.self.view_is) (found_takes_on _ _ _ _ _ refl c.take_entry.ensures.taken)
