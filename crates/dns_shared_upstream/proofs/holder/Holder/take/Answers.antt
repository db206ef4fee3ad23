use Rattle.std.proofs.Common.{refl}
use Rattle.std.proofs.lemmas.Result.{err_from_is_err_and}
use Rattle.dns_multiplexer.specs.declared.taken.Taken.TheVariants as taken
use Rattle.dns_shared_upstream.proofs.StepLemmas.{take_refused, took}
use Rattle.dns_shared_upstream.proofs.holder.Holder.take.Goals as goal

pub returns-in_err-taken : goal.returns-in_err-taken
returns-in_err-taken g c =
    let p = err_from_is_err_and c.from_residual.result c.from_residual.ensures.1 in
    rw (p.1, p.2)
    (take_refused _ _ c.in_err-taken.ensures.line c.in_err-taken.ensures.known refl _ _ c.in_err-taken.ensures.err)

pub returns-in-Item : goal.returns-in-Item
returns-in-Item g c =
    took _ _ c.in_ok-taken.ensures.line c.in_ok-taken.ensures.known refl c.args.id.0 (taken.Item c.in-Item.reply)
    (rw c.in-Item.is at c.in_ok-taken.ensures.ok)

pub returns-in-Pending : goal.returns-in-Pending
returns-in-Pending g c =
    took _ _ c.in_ok-taken.ensures.line c.in_ok-taken.ensures.known refl c.args.id.0 taken.Pending
    (rw c.in-Pending.is at c.in_ok-taken.ensures.ok)

pub returns-in-Ended : goal.returns-in-Ended
returns-in-Ended g c =
    took _ _ c.in_ok-taken.ensures.line c.in_ok-taken.ensures.known refl c.args.id.0 taken.Ended
    (rw c.in-Ended.is at c.in_ok-taken.ensures.ok)
