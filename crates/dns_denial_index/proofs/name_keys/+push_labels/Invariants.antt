use Rattle.std.specs.Prelude.{length}
use Rattle.dns_denial_index.proofs.name_keys.+push_labels.Given as goal

-- the name above has a label less
abbrev pub decreases-push_labels : goal.decreases-push_labels
decreases-push_labels l = length l.name.now
