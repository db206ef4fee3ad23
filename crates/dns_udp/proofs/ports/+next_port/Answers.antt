use Rattle.std.proofs.Common.{◌<◌, sym, arith}
use Rattle.dns_udp.specs.Ports.{is_avoided}
use Rattle.dns_udp.proofs.PortLemmas.{next_after}
use Rattle.dns_udp.proofs.ports.+next_port.Goals as goal

pub returns-clause-next : goal.returns-clause-next
returns-clause-next g t c =
    let left : c.args.attempted.now < 10 = omega (arith, c.if-attempted-ge-MOST_ATTEMPTS.false) in
    next_after g.R.Draws.draws_port (is_avoided c.args.avoid.now) c.args.draws.now c.port-port.new.self c.next_port.new.draws
    c.args.attempted.now c.port-port.result c.next_port.new.attempted c.next_port.result left c.port-port.ensures.drawn
    (sym c.if-not-contains.ensures) c.next_port.ensures.next
