use Rattle.std.proofs.Common.{false, refl}
use Rattle.dns_shared_upstream.specs.Books.{fault_of, is_failure}
use Rattle.dns_shared_upstream.proofs.StepLemmas.{passed_itself}
use Rattle.dns_shared_upstream.proofs.held.Held.write.Goals as goal

pub returns-in-Ok-clause-went : goal.returns-in-Ok-clause-went
returns-in-Ok-clause-went g c = passed_itself _

pub returns-in-Ok-clause-counted : goal.returns-in-Ok-clause-counted
returns-in-Ok-clause-counted g c = record { failed = false; stream = c.in-Ok.ensures.failures; share = refl }

pub returns-in-Err-clause-went : goal.returns-in-Err-clause-went
returns-in-Err-clause-went g c = c.fail.ensures.failed

pub returns-in-Err-clause-counted : goal.returns-in-Err-clause-counted
returns-in-Err-clause-counted g c = record {
  failed = is_failure (fault_of c.in-Err.error);
  stream = c.in-Err.ensures.failures;
  share = c.fail.ensures.failures;
}
