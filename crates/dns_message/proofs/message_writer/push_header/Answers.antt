use Rattle.std.proofs.Common.{append_assoc}
use Rattle.std.proofs.lemmas.List.{length-map}
use Rattle.dns_message.proofs.message_writer.push_header.Goals as goal

pub returns : goal.returns
returns c =
    rw (
      c.in_ok-push_u16-6.ensures.ok,
      c.in_ok-push_u16-5.ensures.ok,
      c.in_ok-push_u16-4.ensures.ok,
      c.in_ok-push_u16-3.ensures.ok,
      c.in_ok-push_u16-2.ensures.ok,
      c.in_ok-push_u16.ensures.ok,
    )
    (rw (
      c.flags_of.ensures,
      c.counts_of-counts.ensures.queries,
      c.counts_of-counts.ensures.answers,
      c.counts_of-counts.ensures.authorities,
      c.counts_of-counts.ensures.additionals,
    ) (simp (append_assoc, length-map)))
