use Rattle.std.proofs.Common.{length}
use Rattle.dns_aggressive.proofs.zone_search.+longest.Given as goal

abbrev pub decreases-longest : goal.decreases-longest
decreases-longest l = length l.name.now
