use Rattle.std.proofs.Common.{ap, ◌∙◌}
use Rattle.dns_tcp.specs.Feeding.{message_reply}
use Rattle.dns_tcp.proofs.FeedLemmas.{framed_reply, message_fits, message_framed}
use Rattle.dns_tcp.proofs.stream_state.frame_reply.Goals as goal

pub returns-in-Some-clause-reply : goal.returns-in-Some-clause-reply
returns-in-Some-clause-reply c =
    c.message_reply.ensures ∙ ap (message_reply c.args.peer) c.from_vec.ensures
    ∙ framed_reply c.args.peer c.args.reader.now c.in-Some.bytes.items c.in-Some.ensures.whole

pub returns-in-Some-clause-framed : goal.returns-in-Some-clause-framed
returns-in-Some-clause-framed c =
    rw (c.message_reply.ensures, c.from_vec.ensures, c.in-Some.ensures.used, c.in-Some.ensures.whole)
    (message_framed c.args.peer c.in-Some.bytes.items)

pub returns-in-Some-clause-fits : goal.returns-in-Some-clause-fits
returns-in-Some-clause-fits c =
    rw (c.message_reply.ensures, c.from_vec.ensures) (message_fits c.args.peer c.in-Some.bytes.items c.in-Some.ensures.most)
