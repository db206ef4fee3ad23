use Rattle.dns_session.proofs.PlaceLemmas.{place_after, none_after}
use Rattle.dns_session.proofs.lines.place_of.Goals as goal

pub returns-clause-value : goal.returns-clause-value
returns-clause-value c =
    place_after _ c.args.text.now c.count_before-count.result c.in_ok-at.at c.count_before-count.ensures.within
    c.count_before-count.ensures.others c.in_ok-at.ensures.value

pub returns-in_err-at-clause-value : goal.returns-in_err-at-clause-value
returns-in_err-at-clause-value c =
    rw c.from_residual.ensures
    (none_after _ c.args.text.now c.count_before-count.result c.count_before-count.ensures.within
    c.count_before-count.ensures.others c.in_err-at.ensures.value)
