use Rattle.std.proofs.Common.{◌∙◌, ap, sym, subst}
use Rattle.dns_handle.specs.Replies.{reply_of}
use Rattle.dns_handle.specs.declared.protocol.Protocol.TheVariants.{Tcp}
use Rattle.dns_link.specs.Calls.{IsToldWithThose}
use Rattle.dns_link.specs.Counts.{with_counts}
use Rattle.dns_link.specs.Moved.{and_those}
use Rattle.dns_udp.specs.Met.{dialer_view}
use Rattle.dns_tcp.specs.Links.{link_view}
use Rattle.dns_tcp.specs.ExchangeParts.{parts_of}
use Rattle.dns_asking.specs.Causes.{AnswerCause}
use Rattle.dns_asking.specs.Servers.{Reached}
use Rattle.dns_asking.proofs.ConnectionLemmas.{connection_caused, link_back}
use Rattle.dns_asking.proofs.asking.ask_over_connection.Goals as goal

pub returns-in-Ok-clause-asked : goal.returns-in-Ok-clause-asked
returns-in-Ok-clause-asked g c =
    let counts = g.D.Dialer.counts in
    let bytes = g.D.Dialer.given_bytes in
    let met = g.D.Link.Link.counts in
    let gave = g.D.Link.Link.given in
    Reached (record {
      link = (parts_of c.in-Ok.exchange).link;
      is_new = c.in-Ok.ensures.link;
      first = c.in-Ok.exchange;
      last = c.look_up-reply.result.handle;
      made = c.in-Ok.ensures.made;
      looked = c.look_up-reply.ensures;
      counts =
          c.retire.ensures.counts ∙ ap (λ n. with_counts n (met c.into_link.result)) c.in-Ok.ensures.dialed.0
          ∙ ap (λ l. with_counts (counts c.args.dial) (met l)) c.into_link.ensures;
      bytes =
          c.retire.ensures.bytes ∙ ap (λ b. and_those b (gave c.into_link.result)) c.in-Ok.ensures.bytes
          ∙ ap (λ l. and_those (bytes c.args.dial) (gave l)) c.into_link.ensures;
      came = c.retire.ensures.datagrams ∙ c.in-Ok.ensures.datagrams;
      dialed = g.D.Dialer.calls c.connect-made.new.dial;
      asked = c.in-Ok.ensures.dialed.1;
      told = subst
          (λ l. IsToldWithThose (g.D.Dialer.calls c.connect-made.new.dial) (g.D.Link.Link.calls l) (g.D.Dialer.calls c.retire.new.self))
          c.into_link.ensures c.retire.ensures.calls;
    })

pub returns-in-Ok-clause-caused : goal.returns-in-Ok-clause-caused
returns-in-Ok-clause-caused g c =
    let counts = g.D.Dialer.counts in
    let given = g.D.Dialer.given_datagrams in
    let link = g.D.Link.Link in
    let before = dialer_view counts given c.args.dial in
    let last = c.look_up-reply.result.handle in
    let reply = reply_of c.look_up-reply.result.reply in
    let met = link.counts (parts_of last).link in
    subst (λ v. AnswerCause Tcp before v reply)
    (sym (link_back counts given c.args.dial c.retire.new.self met
    (c.retire.ensures.counts ∙ ap (λ n. with_counts n (link.counts c.into_link.result)) c.in-Ok.ensures.dialed.0
    ∙ ap (λ l. with_counts (counts c.args.dial) (link.counts l)) c.into_link.ensures)
    (c.retire.ensures.datagrams ∙ c.in-Ok.ensures.datagrams)))
    (connection_caused (link_view link.counts link.given link.left link.taken link.calls) g.R.Draws.draws_id _ g.V.Verifier
    c.args.inquiry
    (λ old new request now heard sent. sent) before (parts_of c.in-Ok.exchange).link c.args.server c.args.draws
    c.in-Ok.exchange last reply
    c.requires c.in-Ok.ensures.link.uncounted c.in-Ok.ensures.made c.look_up-reply.ensures)
