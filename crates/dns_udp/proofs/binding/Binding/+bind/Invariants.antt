use Rattle.std.proofs.Common.{◌-◌}
use Rattle.dns_udp.proofs.binding.Binding.+bind.Given as goal

abbrev pub decreases-bind : goal.decreases-bind
decreases-bind g l = 12 - l.attempted.now
