use Rattle.std.proofs.Common.{refl}
use Rattle.dns_shared_upstream.proofs.StepLemmas.{canceled}
use Rattle.dns_shared_upstream.proofs.holder.Holder.cancel.Goals as goal

pub returns : goal.returns
returns g c =
    canceled _ _ c.cancel-canceled.ensures.line c.cancel-canceled.ensures.known refl _ c.cancel-canceled.result _
    c.cancel-canceled.ensures.ok c.cancel-canceled.ensures.err c.passed_over.ensures
