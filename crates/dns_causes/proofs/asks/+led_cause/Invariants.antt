use Rattle.std.proofs.Common.{length}
use Rattle.dns_causes.proofs.asks.+led_cause.Given as goal

abbrev pub decreases-led_cause : goal.decreases-led_cause
decreases-led_cause g l = length l.asked.now
