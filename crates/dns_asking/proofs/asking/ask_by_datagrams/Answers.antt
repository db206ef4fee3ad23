use Rattle.std.proofs.Common.{sym, subst}
use Rattle.dns_handle.specs.Replies.{reply_of}
use Rattle.dns_handle.specs.declared.protocol.Protocol.TheVariants.{Udp}
use Rattle.dns_udp.specs.Met.{dialer_view}
use Rattle.dns_udp.specs.Exchanges.{IsExchangeOf}
use Rattle.dns_asking.specs.Causes.{AnswerCause}
use Rattle.dns_asking.proofs.DatagramLemmas.{datagrams_caused}
use Rattle.dns_asking.proofs.asking.ask_by_datagrams.Goals as goal

pub returns-clause-asked : goal.returns-clause-asked
returns-clause-asked g c = record {
  first = c.exchange-exchange.result;
  last = c.look_up-reply.result.handle;
  made = subst (λ b. IsExchangeOf b c.args.dial c.args.draws c.exchange-exchange.result) c.builder.ensures
      c.exchange-exchange.ensures;
  looked = c.look_up-reply.ensures;
  back = c.into_dialer.ensures;
}

pub returns-clause-caused : goal.returns-clause-caused
returns-clause-caused g c =
    let counts = g.D.Dialer.counts in
    let given = g.D.Dialer.given_datagrams in
    let reply = reply_of c.look_up-reply.result.reply in
    subst (λ d. AnswerCause Udp (dialer_view counts given c.args.dial) (dialer_view counts given d) reply)
    (sym c.into_dialer.ensures)
    (datagrams_caused counts given g.D.Dialer.calls g.R.Draws.draws_id g.R.Draws.draws_port _ g.V.Verifier c.args.inquiry
    (λ old new request now heard sent. sent)
    c.args.server c.args.dial c.args.draws c.exchange-exchange.result c.look_up-reply.result.handle reply c.requires
    (subst (λ b. IsExchangeOf b c.args.dial c.args.draws c.exchange-exchange.result) c.builder.ensures
    c.exchange-exchange.ensures)
    c.look_up-reply.ensures)
