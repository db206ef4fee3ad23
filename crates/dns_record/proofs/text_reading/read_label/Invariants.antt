use Rattle.std.proofs.Common.{◌≡◌, ◌≤◌, length}
use Rattle.dns_record.specs.LabelRuns.{read_at}
use Rattle.dns_record.proofs.text_reading.read_label.Given as goal

abbrev pub invariant-bytes : goal.invariant-bytes
invariant-bytes l = record {
  so_far : read_at l.initial.label.items l.text ≡ read_at l.label.items l.left;
  size : length l.left ≤ length l.text;
}

abbrev pub decreases-bytes : goal.decreases-bytes
decreases-bytes l = length l.left
