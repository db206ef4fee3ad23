use Rattle.std.proofs.Common.{◌≡◌, ◌<◌, length, ◌∙◌, sym, ap, arith}
use Rattle.std.proofs.lemmas.Bool.Decides.{nat_tests}
use Rattle.dns_rdata.proofs.CanonicalLemmas.{behind, parts_none, parts_more, parts_all, parts_over, behind_with, behind_end}
use Rattle.dns_rdata.proofs.canonical.lowered_rdata.Goals as goal

pub returns-in_default : goal.returns-in_default
returns-in_default c =
    sym (sym c.loop-field.invariant
    ∙ ap (behind c.loop-field.lowered.items) (parts_none _ _ _ _ c.loop-field-test.true (sym c.in_default.ensures)))

pub loop-field-preserved : goal.loop-field-preserved
loop-field-preserved c =
    let more = parts_more _ _ _ _ _ _ c.loop-field-test.true (sym c.in-Some.ensures) in
    rw c.in_ok-push_canonical.ensures (sym (ap (behind c.loop-field.lowered.items) more ∙ behind_with _ _ _) ∙ c.loop-field.invariant)

pub returns-then-is_empty : goal.returns-then-is_empty
returns-then-is_empty c =
    let none : length c.loop-field.rest.now ≡ 0 = grind (arith, nat_tests) in
    sym (sym c.loop-field.invariant ∙ (ap (behind c.loop-field.lowered.items) (parts_all _ _ _ c.loop-field-test.false none)
    ∙ behind_end _))

pub returns-else-is_empty : goal.returns-else-is_empty
returns-else-is_empty c =
    let some : 0 < length c.loop-field.rest.now = grind (arith, nat_tests) in
    sym (sym c.loop-field.invariant ∙ ap (behind c.loop-field.lowered.items) (parts_over _ _ _ c.loop-field-test.false some))
