use Rattle.std.proofs.Common.{refl, sym, ◌∙◌}
use Rattle.dns_udp.proofs.StreamLemmas.{are_sent_first, are_sent_none, sent_first, sent_none}
use Rattle.dns_udp.proofs.udp_stream.send_all.Goals as goal

pub loop-message-init : goal.loop-message-init
loop-message-init g c = (λ last sent. sent, refl, λ last sent. sent)

pub loop-message-preserved : goal.loop-message-preserved
loop-message-preserved g c = (
  λ last later. c.loop-message.invariant.0 last
      (sent_first c.loop-message.queue c.pop.new.self c.in-Some.message (g.G.Datagrams.counts c.loop-message.socket)
      (g.G.Datagrams.counts c.send_one.new.socket) last c.in-Some.ensures.first c.in-Some.ensures.rest
      c.send_one.ensures.counts later),
  c.send_one.ensures.given ∙ c.loop-message.invariant.1,
  λ last later. c.loop-message.invariant.2 last
      (are_sent_first c.loop-message.queue c.pop.new.self c.in-Some.message (g.G.Datagrams.calls c.loop-message.socket)
      (g.G.Datagrams.calls c.send_one.new.socket) last c.in-Some.ensures.first c.in-Some.ensures.rest
      c.send_one.ensures.asked later),
)

pub returns-clause-counts : goal.returns-clause-counts
returns-clause-counts g c =
    c.loop-message.invariant.0 (g.G.Datagrams.counts c.loop-message.socket)
    (sent_none c.loop-message.queue (g.G.Datagrams.counts c.loop-message.socket) (sym c.in_default.ensures.first))

pub returns-clause-asked : goal.returns-clause-asked
returns-clause-asked g c =
    c.loop-message.invariant.2 (g.G.Datagrams.calls c.loop-message.socket)
    (are_sent_none c.loop-message.queue (g.G.Datagrams.calls c.loop-message.socket) (sym c.in_default.ensures.first))
