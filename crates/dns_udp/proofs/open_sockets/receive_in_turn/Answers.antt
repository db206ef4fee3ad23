use Rattle.std.proofs.Common.{refl}
use Rattle.dns_link.specs.Calls.{fault_of}
use Rattle.dns_link.specs.Moved.{received_by}
use Rattle.dns_udp.specs.Met.{one_met}
use Rattle.dns_udp.proofs.AskLemmas.{told_turn}
use Rattle.dns_udp.proofs.SocketLemmas.{heard_more, heard_turn}
use Rattle.dns_udp.proofs.open_sockets.receive_in_turn.Goals as goal

pub returns-clause-turned : goal.returns-clause-turned
returns-clause-turned g c = λ came met heard.
    heard_turn g.G.Datagrams.counts g.G.Datagrams.given c.args.sockets.now.items c.args.turn.now c.index_mut.result.now
    c.recv_from.new.self came (received_by c.recv_from.result c.recv_from.new.buf) met (one_met c.recv_from.result)
    c.requires c.index_mut.ensures.value heard
    (λ own own_met h. heard_more (g.G.Datagrams.counts c.index_mut.result.now)
    (g.G.Datagrams.counts c.recv_from.new.self)
    (g.G.Datagrams.given c.index_mut.result.now) (g.G.Datagrams.given c.recv_from.new.self) own own_met
    c.recv_from.result c.recv_from.new.buf h c.recv_from.ensures.counts c.recv_from.ensures.given)

pub returns-clause-heard : goal.returns-clause-heard
returns-clause-heard g c = (c.recv_from.new.self, refl)

pub returns-clause-asked : goal.returns-clause-asked
returns-clause-asked g c = λ send h.
    told_turn g.G.Datagrams.calls send c.args.sockets.now.items c.args.turn.now c.index_mut.result.now c.recv_from.new.self
    (fault_of c.recv_from.result) c.requires c.index_mut.ensures.value c.recv_from.ensures.calls h
