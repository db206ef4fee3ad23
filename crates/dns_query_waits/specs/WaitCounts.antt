-- What links, sockets and a dialer count that say whom they wait for. Clauses of traits name these.
use Rattle.dns_link.specs.Counts.{CountsValue}
use Rattle.dns_query_waits.specs.declared.waiting_link.WaitingLink.{WaitingLink}
use Rattle.dns_query_waits.specs.declared.waiting_datagrams.WaitingDatagrams.{WaitingDatagrams}
use Rattle.dns_query_waits.specs.declared.waiting_dialer.WaitingDialer.{WaitingDialer}

abbrev pub link_counts : {L C P : Type 0} → WaitingLink L C P → CountsValue
link_counts link = link.counts

abbrev pub datagrams_counts : {G C P : Type 0} → WaitingDatagrams G C P → CountsValue
datagrams_counts socket = socket.counts

abbrev pub dialer_counts : {D C P : Type 0} → WaitingDialer D C P → CountsValue
dialer_counts dialer = dialer.counts
