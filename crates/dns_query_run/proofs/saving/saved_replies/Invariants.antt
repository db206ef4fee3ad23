use Rattle.std.proofs.Common.{length}
use Rattle.dns_query_run.proofs.SavingLemmas.{Continues}
use Rattle.dns_query_run.proofs.saving.saved_replies.Given as goal

-- what is saved so far, and of the notes that are left, is what is saved of all
abbrev pub invariant-notes : goal.invariant-notes
invariant-notes l = Continues l.notes l.replies.items l.left

abbrev pub decreases-notes : goal.decreases-notes
decreases-notes l = length l.left
