use Rattle.std.proofs.Common.{true, false, refl}
use Rattle.dns_shared_upstream.proofs.StepLemmas.{passed_itself}
use Rattle.dns_shared_upstream.proofs.StreamLemmas.{fed_error, fed_failures}
use Rattle.dns_shared_upstream.proofs.held.Held.read.Goals as goal

pub returns-in-Ok-More-clause-went : goal.returns-in-Ok-More-clause-went
returns-in-Ok-More-clause-went g c = passed_itself _

pub returns-in-Ok-More-clause-counted : goal.returns-in-Ok-More-clause-counted
returns-in-Ok-More-clause-counted g c = record {
  failed = false;
  stream = fed_failures _ _ _ _ _ _ (rw c.in-Ok-More.field-0-is at c.in-Ok-More.ensures.fed);
  share = refl;
}

pub fail-requires : goal.fail-requires
fail-requires g c = fed_error _ _ _ _ _ _ c.in-Err.ensures.fed

pub returns-in_ok-close-in-Ok-Closed-clause-counted :
    goal.returns-in_ok-close-in-Ok-Closed-clause-counted
returns-in_ok-close-in-Ok-Closed-clause-counted g c = record {
  failed = true;
  stream = fed_failures _ _ _ _ _ _ (rw c.in-Ok-Closed.field-0-is at c.in-Ok-Closed.ensures.fed);
  share = c.close.ensures.failures;
}
