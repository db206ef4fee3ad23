use Rattle.std.proofs.Common.{sym, ◌∙◌}
use Rattle.dns_session.proofs.ManyLemmas.{one_more, stops, ends}
use Rattle.dns_session.proofs.form.many.Goals as goal

pub returns-in-None : goal.returns-in-None
returns-in-None g c =
    sym (stops g.F.LineForm.form _ _ _ _ _ c.loop-line.invariant (sym c.in-Some.ensures.next) (sym c.in-None.is ∙ c.in_ok-item.ensures))

pub loop-line-preserved : goal.loop-line-preserved
loop-line-preserved g c =
    rw c.in_ok-push-in-Some-2.ensures.items
    (one_more g.F.LineForm.form _ _ _ _ _ _ c.loop-line.invariant (sym c.in-Some.ensures.next) (sym c.in-Some-2.is ∙ c.in_ok-item.ensures))

pub returns : goal.returns
returns g c = sym (ends g.F.LineForm.form _ _ _ c.loop-line.invariant c.in_default.ensures.next)
