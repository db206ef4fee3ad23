use Rattle.std.proofs.Common.{arith}
use Rattle.std.proofs.lemmas.List.{take_all}
use Rattle.std.proofs.lemmas.Result.{err_from_is_err_and}
use Rattle.dns_record.specs.LabelRuns.{IsRun}
use Rattle.dns_record.proofs.ReadSteps.{label_at_fails, name_from_run}
use Rattle.dns_record.proofs.name.Name.from_labels.Goals as goal

pub returns-in_err-push_label : goal.returns-in_err-push_label
returns-in_err-push_label c =
    let refused = rw c.as_slice.ensures at c.in_err-push_label.ensures.value in
    let p = err_from_is_err_and c.from_residual.result c.from_residual.ensures.1 in
    rw (p.1, p.2) (label_at_fails c.args.labels.now c.loop-label.label-index c.loop-label.wire.items c.label-item.result
    c.in_err-push_label.field-0.0 c.loop-label.invariant c.loop-label-test.true c.label-item.is refused)

pub returns : goal.returns
returns c =
    let whole = take_all c.loop-label.label-index c.args.labels.now (omega arith) in
    let run : IsRun c.args.labels.now c.loop-label.wire.items = rw whole at c.loop-label.invariant in
    let named = rw c.root.ensures at (c.name_of_run.ensures c.args.labels.now run) in
    rw (name_from_run c.args.labels.now c.loop-label.wire.items run) named
