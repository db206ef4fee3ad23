use Rattle.std.proofs.Common.{refl, arith}
use Rattle.dns_model.proofs.LabelSteps.{at_or_above-shorter}
use Rattle.dns_record.proofs.name_ref.NameRef.zone_of.Goals as goal

pub returns : goal.returns
returns c =
    rw (
      at_or_above-shorter c.args.self.now c.args.name.now (omega arith),
      c.eq_name.ensures,
      c.skip_labels.ensures,
      c.label_count-labels.ensures.value,
      c.label_count-all.ensures.value,
    ) refl
