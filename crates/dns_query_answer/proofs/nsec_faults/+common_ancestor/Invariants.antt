use Rattle.std.proofs.Common.{length}
use Rattle.dns_query_answer.proofs.nsec_faults.+common_ancestor.Given as goal

-- the name above has a label less
abbrev pub decreases-common_ancestor : goal.decreases-common_ancestor
decreases-common_ancestor l = length l.name.now
