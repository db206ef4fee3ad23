use Rattle.std.proofs.Common.{[], sym, ◌∙◌, ap}
use Rattle.std.specs.Prelude.{nat_eq}
use Rattle.std.specs.Cmp.Lexicographic.{pointwise}
use Rattle.dns_record.proofs.ReadSteps.{no_run, text_root, text_labels}
use Rattle.dns_record.proofs.text_reading.read_text.Goals as goal

pub returns-then-eq : goal.returns-then-eq
returns-then-eq c = rw c.new.ensures.items (record {
  labels = [];
  run = no_run;
  whole = text_root c.args.text.now (ap (pointwise nat_eq c.args.text.now) (sym c.as_slice.ensures) ∙ sym c.eq.ensures ∙ c.if-eq.true);
})

pub returns : goal.returns
returns c =
    rw (text_labels c.args.text.now (ap (pointwise nat_eq c.args.text.now) (sym c.as_slice.ensures) ∙ sym c.eq.ensures
    ∙ c.if-eq.false)) c.labels_of_text.ensures
