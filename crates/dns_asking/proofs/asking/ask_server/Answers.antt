use Rattle.dns_asking.specs.Servers.{ByDatagrams, OverConnection}
use Rattle.dns_asking.proofs.asking.ask_server.Goals as goal

pub returns-in-Udp-clause-asked : goal.returns-in-Udp-clause-asked
returns-in-Udp-clause-asked g c =
    rw c.in-Udp.is (ByDatagrams c.socket_addr-server.result c.socket_addr-server.ensures
    c.ask_by_datagrams.ensures.asked)

pub returns-in-Tcp-clause-asked : goal.returns-in-Tcp-clause-asked
returns-in-Tcp-clause-asked g c =
    rw c.in-Tcp.is (OverConnection c.socket_addr-server.result c.socket_addr-server.ensures
    c.ask_over_connection.ensures.asked)
