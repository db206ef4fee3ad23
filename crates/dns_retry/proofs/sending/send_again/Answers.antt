use Rattle.std.proofs.Common.{◌∙◌, refl}
use Rattle.dns_retry.proofs.RetryLemmas.{no_try, try_more}
use Rattle.dns_retry.proofs.sending.send_again.Goals as goal

pub sends-init : goal.sends-init
sends-init g c = (no_try _ _ _, refl)

pub sends-preserved : goal.sends-preserved
sends-preserved g c = (
  try_more _ _ _ _ _ _ _ _ _ _ c.sends.invariant.0 c.send_copy-reply.ensures.sent
      c.in_default.ensures.due c.in_default.ensures.left c.in_default.ensures.busy,
  c.send_copy-reply.ensures.told ∙ c.sends.invariant.1,
)
