use Rattle.std.proofs.Common.{◌∙◌, sym, ap}
use Rattle.std.specs.Option.{is_some}
use Rattle.dns_model.proofs.ViewLaws.{with_part-keeps}
use Rattle.dns_rdata.proofs.CanonicalLemmas.{parts_none, parts_more, parts_decided}
use Rattle.dns_rdata.proofs.canonical.has_shape.Goals as goal

pub returns-in_default : goal.returns-in_default
returns-in_default c =
    sym (sym c.loop-field.invariant ∙ ap is_some (parts_none _ _ _ _ c.loop-field-test.true (sym c.in_default.ensures)))

pub loop-field-preserved : goal.loop-field-preserved
loop-field-preserved c =
    sym (ap is_some (parts_more _ _ _ _ _ _ c.loop-field-test.true (sym c.in-Some.ensures)) ∙ with_part-keeps _ _) ∙ c.loop-field.invariant

pub returns : goal.returns
returns c = c.is_empty.ensures ∙ (sym (parts_decided _ _ _ c.loop-field-test.false) ∙ c.loop-field.invariant)
