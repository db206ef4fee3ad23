use Rattle.std.proofs.Common.{[], ◌∷◌}
use Rattle.dns_record.specs.LabelRuns.{IsRun}
use Rattle.dns_record.proofs.ReadSteps.{no_run, run_more}
use Rattle.dns_record.proofs.name.Name.prepend_label.Goals as goal

pub name_of_run-requires : goal.name_of_run-requires
name_of_run-requires c = record {
  labels = c.args.label.now ∷ [];
  run = rw (c.in_ok-push_label.ensures.after, c.new-wire.ensures.items)
      (run_more [] [] c.args.label.now no_run c.in_ok-push_label.ensures.value);
}

pub returns : goal.returns
returns c =
    let run : IsRun (c.args.label.now ∷ []) c.push_label.new.wire.items =
    rw (c.in_ok-push_label.ensures.after, c.new-wire.ensures.items)
    (run_more [] [] c.args.label.now no_run c.in_ok-push_label.ensures.value) in
    rw (c.in_ok-push_label.ensures.value, ← c.borrowed.ensures) (c.name_of_run.ensures (c.args.label.now ∷ []) run)
