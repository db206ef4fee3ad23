use Rattle.std.proofs.Common.{◌+◌, ◌*◌, length}
use Rattle.dns_query_answer.proofs.reasons.+reason.Given as goal

abbrev pub decreases-push_deeper : goal.decreases-push_deeper
decreases-push_deeper l = 3 * length l.left.now + 1

abbrev pub decreases-push_ground : goal.decreases-push_ground
decreases-push_ground l = 3 * length l.left.now + 2

abbrev pub decreases-push_reason : goal.decreases-push_reason
decreases-push_reason l = 3 * length l.steps.now
