use Rattle.std.proofs.Common.{length}
use Rattle.dns_measure.proofs.replies.push_replies.Given as goal

abbrev pub decreases-loop-line : goal.decreases-loop-line
decreases-loop-line l = length l.lines.pieces
