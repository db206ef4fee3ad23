use Rattle.std.proofs.lemmas.Result.{err_from_is_err_and}
use Rattle.dns_udp.specs.Met.{dialer_view}
use Rattle.dns_udp.specs.ClientStreams.{asked_of}
use Rattle.dns_udp.proofs.AskLemmas.{asks_none}
use Rattle.dns_udp.proofs.TalkLemmas.{refused_talk, talk_id, talk_questions}
use Rattle.dns_udp.proofs.client_stream.UdpClientStream.ask.Goals as goal

pub returns-clause-id : goal.returns-clause-id
returns-clause-id g c =
    talk_id g.R.Draws.draws_port (asked_of c.args.self.now c.args.request.now)
    (dialer_view g.D.Dialer.counts g.D.Dialer.given_datagrams c.args.dial.now)
    (dialer_view g.D.Dialer.counts g.D.Dialer.given_datagrams c.converse.new.dial) c.args.draws.now c.converse.new.draws
    c.converse.result c.converse.ensures.talk

pub returns-clause-questions : goal.returns-clause-questions
returns-clause-questions g c =
    talk_questions g.R.Draws.draws_port (asked_of c.args.self.now c.args.request.now)
    (dialer_view g.D.Dialer.counts g.D.Dialer.given_datagrams c.args.dial.now)
    (dialer_view g.D.Dialer.counts g.D.Dialer.given_datagrams c.converse.new.dial) c.args.draws.now c.converse.new.draws
    c.converse.result c.converse.ensures.talk

pub returns-in_err-bytes-clause-talk : goal.returns-in_err-bytes-clause-talk
returns-in_err-bytes-clause-talk g c =
    let p = err_from_is_err_and c.from_residual.result c.from_residual.ensures.1 in
    rw (p.1, p.2)
    (refused_talk g.R.Draws.draws_port (asked_of c.args.self.now c.args.request.now)
    (dialer_view g.D.Dialer.counts g.D.Dialer.given_datagrams c.args.dial.now) c.args.draws.now _ c.in_err-bytes.ensures)

pub returns-in_err-bytes-clause-asked : goal.returns-in_err-bytes-clause-asked
returns-in_err-bytes-clause-asked g c =
    let p = err_from_is_err_and c.from_residual.result c.from_residual.ensures.1 in
    rw (p.1, p.2)
    (asks_none g.R.Draws.draws_port c.args.self.now.binding (asked_of c.args.self.now c.args.request.now)
    (g.D.Dialer.calls c.args.dial.now) c.args.draws.now _ c.in_err-bytes.ensures)
