use Rattle.std.proofs.Common.{arith, sym, ◌∙◌}
use Rattle.dns_session.proofs.PlaceLemmas.{none_more}
use Rattle.dns_session.proofs.lines.count_before.Goals as goal

pub steps-preserved : goal.steps-preserved
steps-preserved c =
    (omega arith, none_more _ c.args.text.now c.steps.count 64 c.steps.invariant.1 (sym c.has_byte.ensures ∙ c.if-not-has_byte.true))
