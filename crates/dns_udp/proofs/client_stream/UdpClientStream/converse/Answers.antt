use Rattle.std.proofs.Common.{inl, refl, ap, subst}
use Rattle.std.proofs.lemmas.Result.{err_from_is_err_and}
use Rattle.dns_handle.specs.Replies.{reply_of}
use Rattle.dns_udp.specs.Met.{dialer_view}
use Rattle.dns_udp.specs.ClientStreams.{asked_of}
use Rattle.dns_udp.specs.Asks.{ask_state}
use Rattle.dns_udp.proofs.AskLemmas.{asks_over}
use Rattle.dns_udp.specs.Requests.{AskedValue}
use Rattle.dns_udp.specs.Waiting.{IsStopped}
use Rattle.dns_udp.proofs.TalkLemmas.{no_talk, talk_over}
use Rattle.dns_udp.proofs.client_stream.UdpClientStream.converse.Goals as goal

pub returns-clause-asked : goal.returns-clause-asked
returns-clause-asked g c =
    let server = ap (λ (asked : AskedValue). asked.server) c.sending-sending.ensures.asked in
    asks_over g.R.Draws.draws_port c.args.self.now.binding (asked_of c.args.self.now c.args.request.now)
    (g.D.Dialer.calls c.args.dial.now) (g.D.Dialer.calls c.retire_all.new.dial) c.args.draws.now
    g.D.Datagrams.Datagrams.calls c.args.bytes.now
    (ask_state g.D.Dialer.calls c.wait-reply.new.dial c.wait-reply.new.draws c.wait-reply.new.sockets.items)
    (reply_of c.wait-reply.result)
    (rw (c.sending-sending.ensures.binding, c.sending-sending.ensures.bytes, server) at c.wait-reply.ensures.asked)
    c.retire_all.ensures.asked c.requires

pub returns-clause-talk : goal.returns-clause-talk
returns-clause-talk g c =
    talk_over g.R.Draws.draws_port (asked_of c.args.self.now c.args.request.now) g.D.Datagrams.Datagrams.counts
    g.D.Datagrams.Datagrams.given (dialer_view g.D.Dialer.counts g.D.Dialer.given_datagrams c.args.dial.now)
    (dialer_view g.D.Dialer.counts g.D.Dialer.given_datagrams c.wait-reply.new.dial)
    (dialer_view g.D.Dialer.counts g.D.Dialer.given_datagrams c.retire_all.new.dial) c.args.draws.now
    c.wait-reply.new.draws
    c.wait-reply.new.sockets.items (reply_of c.wait-reply.result)
    (subst (λ (asked : AskedValue). IsStopped g.D.Datagrams.Datagrams.counts g.D.Datagrams.Datagrams.given
    g.R.Draws.draws_port
    asked (dialer_view g.D.Dialer.counts g.D.Dialer.given_datagrams c.args.dial.now)
    (dialer_view g.D.Dialer.counts g.D.Dialer.given_datagrams c.wait-reply.new.dial) c.args.draws.now
    c.wait-reply.new.draws c.wait-reply.new.sockets.items (reply_of c.wait-reply.result))
    c.sending-sending.ensures.asked c.wait-reply.ensures.stopped)
    (λ came met held. c.retire_all.ensures.met
    (dialer_view g.D.Dialer.counts g.D.Dialer.given_datagrams c.args.dial.now) came met held)

pub returns-in_err-buf-clause-talk : goal.returns-in_err-buf-clause-talk
returns-in_err-buf-clause-talk g c =
    let p = err_from_is_err_and c.from_residual.result c.from_residual.ensures.1 in
    rw (p.1, p.2)
    (no_talk g.R.Draws.draws_port (asked_of c.args.self.now c.args.request.now)
    (dialer_view g.D.Dialer.counts g.D.Dialer.given_datagrams c.args.dial.now) c.args.draws.now _ tt)

pub returns-in_err-buf-clause-asked : goal.returns-in_err-buf-clause-asked
returns-in_err-buf-clause-asked g c =
    let p = err_from_is_err_and c.from_residual.result c.from_residual.ensures.1 in
    rw (p.1, p.2) (inl refl)
