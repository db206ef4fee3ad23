use Rattle.std.proofs.Common.{refl}
use Rattle.dns_shared_upstream.proofs.StepLemmas.{popped}
use Rattle.dns_shared_upstream.proofs.holder.Holder.pop.Goals as goal

pub returns : goal.returns
returns g c =
    popped _ _ c.pop_outbound.ensures.line c.pop_outbound.ensures.known refl _ c.pop_outbound.ensures.popped
