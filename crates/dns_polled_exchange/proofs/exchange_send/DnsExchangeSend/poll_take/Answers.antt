use Rattle.std.proofs.Common.{sym, subst}
use Rattle.dns_shared_exchange.specs.Tokens.{IsTurn}
use Rattle.dns_polled_exchange.specs.Polls.{IsPolled, number_of}
use Rattle.dns_polled_exchange.proofs.PollLemmas.{take_is_polled}
use Rattle.dns_polled_exchange.proofs.exchange_send.DnsExchangeSend.poll_take.Goals as goal

pub returns-clause-polled : goal.returns-clause-polled
returns-clause-polled g c = subst
    (λ p. IsTurn (IsPolled (number_of c.args.self.now) p) c.args.token.now.known c.take.new.token.known)
    (sym c.polled.ensures)
    (take_is_polled (number_of c.args.self.now) c.take.result c.args.token.now.known c.take.new.token.known
    c.take.ensures.ok c.take.ensures.err)
