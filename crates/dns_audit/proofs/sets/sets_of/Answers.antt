use Rattle.std.proofs.Common.{sym, ◌∙◌}
use Rattle.dns_session.proofs.ManyLemmas.{one_more, stops, ends}
use Rattle.dns_audit.proofs.sets.sets_of.Goals as goal

pub returns-in-None : goal.returns-in-None
returns-in-None c =
    sym (stops _ _ _ _ _ _ c.loop-line.invariant (sym c.in-Some.ensures.next)
    (sym c.in-None.is ∙ c.in_ok-set.ensures))

pub loop-line-preserved : goal.loop-line-preserved
loop-line-preserved c =
    rw c.in_ok-push-in-Some-2.ensures.items
    (one_more _ _ _ _ _ _ _ c.loop-line.invariant (sym c.in-Some.ensures.next)
    (sym c.in-Some-2.is ∙ c.in_ok-set.ensures))

pub returns : goal.returns
returns c = sym (ends _ _ _ _ c.loop-line.invariant c.in_default.ensures.next)
