use Rattle.std.proofs.Common.{None, Some, refl, sym, ap, ◌∙◌}
use Rattle.std.proofs.lemmas.Option.{slice_get_past, slice_get_read}
use Rattle.dns_trail.proofs.WalkLemmas.{asks_next, asks_cut, asks_end, sets_next, sets_cut, sets_end, step_none, step_from, step_asked, ended_here, ended_elsewhere}
use Rattle.dns_trail.proofs.order.+count.Goals as goal

pub count_asks-returns-in_err-counts : goal.count_asks-returns-in_err-counts
count_asks-returns-in_err-counts t c =
    c.from_residual.ensures
    ∙ asks_cut _ _ _ _ _ _ _ c.loop-ask-test.true (sym c.count_ask.ensures ∙ c.in_err-counts.was) c.loop-ask.invariant

pub count_asks-loop-ask-preserved : goal.count_asks-loop-ask-preserved
count_asks-loop-ask-preserved t c =
    asks_next _ _ _ _ _ _ _ _ c.loop-ask-test.true (sym c.count_ask.ensures ∙ c.in_ok-counts.was) c.loop-ask.invariant

pub count_asks-returns : goal.count_asks-returns
count_asks-returns t c = asks_end _ _ _ _ _ _ c.loop-ask-test.false c.loop-ask.invariant

pub count_sets-returns-in_err-counts : goal.count_sets-returns-in_err-counts
count_sets-returns-in_err-counts t c =
    c.from_residual.ensures
    ∙ sets_cut _ _ _ _ _ _ _ _ c.loop-set-test.true c.set-item.is
    (c.deref.ensures.value ∙ ap (λ s. s.asked) c.set.view_is)
    (sym c.count_asks.ensures ∙ c.in_err-counts.was) c.loop-set.invariant

pub count_sets-loop-set-preserved : goal.count_sets-loop-set-preserved
count_sets-loop-set-preserved t c =
    sets_next _ _ _ _ _ _ _ _ _ c.loop-set-test.true c.set-item.is
    (c.deref.ensures.value ∙ ap (λ s. s.asked) c.set.view_is)
    (sym c.count_asks.ensures ∙ c.in_ok-counts.was) c.loop-set.invariant

pub count_sets-returns : goal.count_sets-returns
count_sets-returns t c = sets_end _ _ _ _ _ _ c.loop-set-test.false c.loop-set.invariant

pub count_step-returns-in_err-step : goal.count_step-returns-in_err-step
count_step-returns-in_err-step t c =
    c.from_residual.ensures ∙ step_none _ _ _ (slice_get_past _ _ c.in_err-step.ensures.lookup.3)

pub count_step-returns-in_err-judged : goal.count_step-returns-in_err-judged
count_step-returns-in_err-judged t c =
    c.from_residual-in_err-judged.ensures
    ∙ step_from _ _ c.in_ok-step.step.now _ c.in_ok-step.step.now.excuse _ None None
    (slice_get_read _ _ _ _ refl c.in_ok-step.ensures.lookup.3.0 c.in_ok-step.ensures.lookup.1)
    (c.deref.ensures.value ∙ ap (λ s. s.sets) c.step.view_is) refl (sym c.count_sets.ensures ∙ c.in_err-judged.was) refl

pub count_step-returns-in_err-asked : goal.count_step-returns-in_err-asked
count_step-returns-in_err-asked t c =
    c.from_residual-in_err-asked.ensures
    ∙ step_from _ _ c.in_ok-step.step.now _ _ _ _ None
    (slice_get_read _ _ _ _ refl c.in_ok-step.ensures.lookup.3.0 c.in_ok-step.ensures.lookup.1)
    (c.deref.ensures.value ∙ ap (λ s. s.sets) c.step.view_is)
    (c.deref-2.ensures.value ∙ ap (λ s. s.excuse) c.step.view_is)
    (sym c.count_sets.ensures ∙ c.in_ok-judged.was) (sym c.count_asks.ensures ∙ c.in_err-asked.was)

pub count_step-returns-then-asked-n : goal.count_step-returns-then-asked-n
count_step-returns-then-asked-n t c =
    ended_here _ _ c.if-asked-n.true
    ∙ step_from _ _ c.in_ok-step.step.now _ _ _ _ (Some c.in_ok-asked.asked)
    (slice_get_read _ _ _ _ refl c.in_ok-step.ensures.lookup.3.0 c.in_ok-step.ensures.lookup.1)
    (c.deref.ensures.value ∙ ap (λ s. s.sets) c.step.view_is)
    (c.deref-2.ensures.value ∙ ap (λ s. s.excuse) c.step.view_is)
    (sym c.count_sets.ensures ∙ c.in_ok-judged.was) (sym c.count_asks.ensures ∙ c.in_ok-asked.was)

pub count_step-returns-else-asked-n : goal.count_step-returns-else-asked-n
count_step-returns-else-asked-n t c =
    ended_elsewhere _ _ c.if-asked-n.false
    ∙ step_from _ _ c.in_ok-step.step.now _ _ _ _ (Some c.in_ok-asked.asked)
    (slice_get_read _ _ _ _ refl c.in_ok-step.ensures.lookup.3.0 c.in_ok-step.ensures.lookup.1)
    (c.deref.ensures.value ∙ ap (λ s. s.sets) c.step.view_is)
    (c.deref-2.ensures.value ∙ ap (λ s. s.excuse) c.step.view_is)
    (sym c.count_sets.ensures ∙ c.in_ok-judged.was) (sym c.count_asks.ensures ∙ c.in_ok-asked.was)

pub count_ask-returns-then-from-lt-MOST_SENDS-2 : goal.count_ask-returns-then-from-lt-MOST_SENDS-2
count_ask-returns-then-from-lt-MOST_SENDS-2 t c =
    c.count_step.ensures ∙ step_asked _ _ _ _ _ c.if-number-n.true c.if-from-lt-MOST_SENDS-2.true c.in-Step.is
