use Rattle.std.proofs.Common.{◌≡◌, drop}
use Rattle.dns_record.proofs.name_ref.NameRef.skip_labels.Given as goal

abbrev pub invariant-loop-skipped : goal.invariant-loop-skipped
invariant-loop-skipped l = l.rest ≡ drop l._skipped l.self
