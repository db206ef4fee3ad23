use Rattle.std.proofs.Common.{refl, arith}
use Rattle.dns_model.proofs.OrderLemmas.{name_cmp-longer, name_cmp-shorter}
use Rattle.dns_record.proofs.name_ref.NameRef.cmp_name.Goals as goal

pub returns-then-ours-theirs : goal.returns-then-ours-theirs
returns-then-ours-theirs c = rw (
  name_cmp-shorter c.args.self.now c.args.other.now (omega arith),
  c.then.ensures,
  c.cmp_aligned.ensures,
  c.skip_labels.ensures,
  c.label_count-ours.ensures.value,
  c.label_count-theirs.ensures.value,
) refl

pub returns-then-theirs-ours : goal.returns-then-theirs-ours
returns-then-theirs-ours c = rw (
  name_cmp-longer c.args.self.now c.args.other.now (omega arith),
  c.then-then-theirs-ours.ensures,
  c.cmp_aligned-then-theirs-ours.ensures,
  c.skip_labels-then-theirs-ours.ensures,
  c.label_count-ours.ensures.value,
  c.label_count-theirs.ensures.value,
) refl
