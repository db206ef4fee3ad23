use Rattle.std.proofs.Common.{◌∙◌, ap, subst}
use Rattle.dns_link.specs.Calls.{IsToldWithThose}
use Rattle.dns_link.specs.Counts.{with_counts}
use Rattle.dns_link.specs.Moved.{and_those}
use Rattle.dns_tcp.specs.ExchangeParts.{parts_of}
use Rattle.dns_query_handle.specs.Connections.{Carried}
use Rattle.dns_query_handle.proofs.connecting_handle.ask_over_connection.Goals as goal

pub returns-in-Ok : goal.returns-in-Ok
returns-in-Ok g c =
    let counts = g.D.Dialer.counts in
    let bytes = g.D.Dialer.given_bytes in
    let met = g.D.Link.Link.counts in
    let gave = g.D.Link.Link.given in
    Carried (record {
      link = (parts_of c.in-Ok.exchange).link;
      is_new = c.in-Ok.ensures.link;
      first = c.in-Ok.exchange;
      last = c.send-reply.new.self;
      made = c.in-Ok.ensures.made;
      sent = (c.send-reply.ensures.sent, c.send-reply.ensures.requested);
      counts =
          c.retire.ensures.counts ∙ ap (λ n. with_counts n (met c.into_link.result)) c.in-Ok.ensures.dialed.0
          ∙ ap (λ l. with_counts (counts c.args.dial.now) (met l)) c.into_link.ensures;
      bytes =
          c.retire.ensures.bytes ∙ ap (λ b. and_those b (gave c.into_link.result)) c.in-Ok.ensures.bytes
          ∙ ap (λ l. and_those (bytes c.args.dial.now) (gave l)) c.into_link.ensures;
      came = c.retire.ensures.datagrams ∙ c.in-Ok.ensures.datagrams;
      dialed = g.D.Dialer.calls c.connect-made.new.dial;
      asked = c.in-Ok.ensures.dialed.1;
      told = subst
          (λ l. IsToldWithThose (g.D.Dialer.calls c.connect-made.new.dial) (g.D.Link.Link.calls l)
          (g.D.Dialer.calls c.retire.new.self))
          c.into_link.ensures c.retire.ensures.calls;
    })
