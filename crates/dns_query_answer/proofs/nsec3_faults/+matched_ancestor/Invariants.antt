use Rattle.std.proofs.Common.{length}
use Rattle.dns_query_answer.proofs.nsec3_faults.+matched_ancestor.Given as goal

-- the name above has a label less
abbrev pub decreases-matched_ancestor : goal.decreases-matched_ancestor
decreases-matched_ancestor l = length l.name.now
