use Rattle.std.proofs.Common.{◌<◌, List, ℕ, length, sym, ◌∙◌, ap, arith}
use Rattle.std.proofs.lemmas.Bool.Decides.{nat_tests}
use Rattle.dns_model.specs.NameText.{ended, after_dot}
use Rattle.dns_record.specs.LabelRuns.{read_at}
use Rattle.dns_record.proofs.ReadSteps.{label_more}
use Rattle.dns_record.proofs.text_reading.labels_of_text.Goals as goal

pub labels-preserved : goal.labels-preserved
labels-preserved c =
    let is = rw c.in-Some.is at c.in_ok-rest.ensures.label in
    let some : 0 < length c.in-Some.more.now = grind (arith, nat_tests) in
    let read =
    ap (λ (l : List ℕ). read_at l c.labels.left.now) (sym c.new-label.ensures.items) ∙ is
    ∙ ap (λ (l : List ℕ). ended l (after_dot read_at c.in-Some.more.now)) (sym c.as_slice.ensures.value) in
    rw c.in_ok-push_label.ensures.after (label_more c.args.text.now c.labels.wire.items c.labels.left.now c.in-Some.more.now
    c.as_slice.result.now c.labels.invariant read some c.in_ok-push_label.ensures.value)
