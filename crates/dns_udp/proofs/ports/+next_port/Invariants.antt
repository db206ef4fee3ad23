use Rattle.std.proofs.Common.{◌-◌}
use Rattle.dns_udp.proofs.ports.+next_port.Given as goal

abbrev pub decreases-next_port : goal.decreases-next_port
decreases-next_port g l = 10 - l.attempted.now
