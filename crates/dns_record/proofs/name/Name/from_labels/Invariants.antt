use Rattle.std.proofs.Common.{take}
use Rattle.dns_record.specs.LabelRuns.{IsRun}
use Rattle.dns_record.proofs.name.Name.from_labels.Given as goal

abbrev pub invariant-loop-label : goal.invariant-loop-label
invariant-loop-label l = IsRun (take l.label-index l.labels) l.wire.items
