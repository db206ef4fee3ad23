use Rattle.std.proofs.Common.{◌∙◌}
use Rattle.dns_model.proofs.CommonAncestors.{aligned}
use Rattle.dns_denial.proofs.encloser.common_ancestor.Goals as goal

pub returns : goal.returns
returns c =
    c.common_of_aligned.ensures
    ∙ rw (
      c.skip_labels-one.ensures,
      c.skip_labels-two.ensures,
      c.saturating_sub.ensures,
      c.saturating_sub-2.ensures,
      c.label_count-ours.ensures.value,
      c.label_count-theirs.ensures.value,
    ) (aligned c.args.name.now c.args.other.now)
