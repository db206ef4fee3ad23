use Rattle.std.proofs.Common.{◌≤◌, All}
use Rattle.dns_udp_tests.proofs.binding_tests.drawn.Given as goal

abbrev pub invariant-loop : goal.invariant-loop
invariant-loop g l = All (λ port. 1024 ≤ port) l.ports.items
