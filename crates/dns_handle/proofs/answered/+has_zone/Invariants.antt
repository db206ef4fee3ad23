use Rattle.std.proofs.Common.{length}
use Rattle.dns_handle.proofs.answered.+has_zone.Given as goal

abbrev pub decreases-has_zone : goal.decreases-has_zone
decreases-has_zone l = length l.name.now
