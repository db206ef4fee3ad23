use Rattle.std.proofs.Common.{◌≡◌, length, ◌∷◌, sym, ap, ◌∙◌, arith}
use Rattle.dns_model.specs.Names.{Labels}
use Rattle.dns_denial.specs.Common.{common_from}
use Rattle.dns_denial.proofs.Ancestors.{common_start, common_more}
use Rattle.dns_denial.proofs.encloser.common_of_aligned.Goals as goal

pub labels-init : goal.labels-init
labels-init c = (
  rw (c.copy-left.ensures.value, c.copy-right.ensures.value, c.copy-common.ensures.value)
      (common_start c.args.one.now c.args.two.now c.requires),
  rw (c.copy-left.ensures.value, c.copy-right.ensures.value) c.requires,
)

pub labels-preserved : goal.labels-preserved
labels-preserved c =
    let above = c.in-Some.above in
    let beyond = c.in-Some-split_first.beyond in
    let same : length above ≡ length beyond = omega
    (arith, ap length c.in-Some.ensures, ap length c.in-Some-split_first.ensures, c.labels.invariant.1) in (
      ap (common_from above beyond) c.common_above-common.ensures
          ∙ common_more c.in-Some.first.now c.in-Some-split_first.second.now above beyond c.labels.common same
          ∙ ap (λ (n : Labels). common_from n (c.in-Some-split_first.second.now ∷ beyond) c.labels.common)
          (sym c.in-Some.ensures)
          ∙ ap (λ (n : Labels). common_from c.labels.left n c.labels.common) (sym c.in-Some-split_first.ensures)
          ∙ c.labels.invariant.0,
      same,
    )
