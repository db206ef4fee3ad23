-- What the adapters over std's sockets count.
use Rattle.dns_link.specs.Counts.{CountsValue}
use Rattle.dns_link.specs.declared.socket_link.SocketLink.{SocketLink}
use Rattle.dns_link.specs.declared.socket_link.TimedLink.{TimedLink}
use Rattle.dns_link.specs.declared.socket_datagrams.SocketDatagrams.{SocketDatagrams}
use Rattle.dns_link.specs.declared.socket_dialer.SocketDialer.{SocketDialer}

abbrev pub link_counts : {S : Type 0} → SocketLink S → CountsValue
link_counts link = link.counts

abbrev pub timed_counts : {S C : Type 0} → TimedLink S C → CountsValue
timed_counts link = link_counts link.link

abbrev pub datagrams_counts : {C : Type 0} → SocketDatagrams C → CountsValue
datagrams_counts socket = socket.counts

abbrev pub dialer_counts : {R : Type 0} → SocketDialer R → CountsValue
dialer_counts dialer = dialer.counts
