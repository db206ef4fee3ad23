use Rattle.std.proofs.Common.{sym, ◌∙◌, arith}
use Rattle.dns_model.proofs.LabelSteps.{wire_split, wire_root, wire_broken}
use Rattle.dns_record.proofs.name_ref.NameRef.split_first.Goals as goal

pub returns-in_err-label : goal.returns-in_err-label
returns-in_err-label c = absurd (wire_broken _ c.self.invariant (sym c.in_err-label.ensures.value))

pub returns-then-label-eq0 : goal.returns-then-label-eq0
returns-then-label-eq0 c = sym c.self.view_is ∙ wire_root _ _ _ c.self.invariant (sym c.in_ok-label.ensures.value) c.if-label-eq0.true

pub invariant_of-result : goal.invariant_of-result
invariant_of-result c = let s =
    wire_split _ _ _ c.self.invariant (sym c.in_ok-label.ensures.value) (omega (arith, c.if-label-eq0.false)) in s.form

pub returns : goal.returns
returns c =
    let s = wire_split _ _ _ c.self.invariant (sym c.in_ok-label.ensures.value) (omega (arith, c.if-label-eq0.false)) in
    sym c.self.view_is ∙ s.labels
