use Rattle.std.proofs.Common.{List, Option, inr, subst}
use Rattle.dns_link.specs.Moved.{DatagramValue}
use Rattle.dns_udp.specs.Streams.{HasCome}
use Rattle.dns_udp.proofs.StreamLemmas.{asked_then}
use Rattle.dns_udp.proofs.udp_stream.UdpStream.receive.Goals as goal

pub returns-clause-received : goal.returns-clause-received
returns-clause-received g c = inr (record {
  mid = g.G.Datagrams.counts c.send_all.new.socket;
  sent = c.send_all.ensures.counts;
  come = subst (λ (given : Option (List DatagramValue)). HasCome (g.G.Datagrams.counts c.send_all.new.socket)
      (g.G.Datagrams.counts c.receive_one.new.socket) given (g.G.Datagrams.given c.receive_one.new.socket) c.receive_one.result)
      c.send_all.ensures.given c.receive_one.ensures.come;
})

pub returns-clause-asked : goal.returns-clause-asked
returns-clause-asked g c =
    inr (asked_then _ (g.G.Datagrams.calls c.args.self.now.socket) (g.G.Datagrams.calls c.send_all.new.socket)
    (g.G.Datagrams.calls c.receive_one.new.socket) c.receive_one.result c.send_all.ensures.asked c.receive_one.ensures.asked)
