use Rattle.std.proofs.Common.{ap, ◌∙◌}
use Rattle.dns_model.specs.Names.{parent}
use Rattle.dns_model.proofs.LabelSteps.{parent-drop}
use Rattle.dns_record.proofs.name_ref.NameRef.skip_labels.Goals as goal

pub loop-skipped-preserved : goal.loop-skipped-preserved
loop-skipped-preserved c = c.parent-rest.ensures ∙ ap parent c.loop-skipped.invariant ∙ parent-drop c.args.self.now c.loop-skipped._skipped
