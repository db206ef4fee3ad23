use Rattle.std.proofs.Common.{length}
use Rattle.dns_trail.proofs.search.+search_zone.Given as goal

abbrev pub decreases-search_zone : goal.decreases-search_zone
decreases-search_zone g l = length l.name.now
