use Rattle.std.proofs.Common.{refl, sym, ◌∙◌}
use Rattle.dns_trail.proofs.OrderedLemmas.{too_many, by_turns}
use Rattle.dns_trail.proofs.order.is_in_order.Goals as goal

pub returns-then-steps-gt-MOST_SENDS : goal.returns-then-steps-gt-MOST_SENDS
returns-then-steps-gt-MOST_SENDS c = too_many _ c.if-steps-gt-MOST_SENDS.true

pub returns-then-not-has_top : goal.returns-then-not-has_top
returns-then-not-has_top c =
    by_turns _ _ _ c.if-steps-gt-MOST_SENDS.false (sym c.has_top.ensures ∙ c.if-not-has_top.true) refl

pub returns : goal.returns
returns c =
    by_turns _ _ _ c.if-steps-gt-MOST_SENDS.false (sym c.has_top.ensures ∙ c.if-not-has_top.false)
    (sym c.end_in_turn.ensures)
