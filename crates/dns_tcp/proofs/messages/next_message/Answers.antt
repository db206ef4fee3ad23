use Rattle.std.proofs.Common.{ap, arith}
use Rattle.std.proofs.lemmas.Result.{err_from_is_err_and}
use Rattle.dns_multiplexer.specs.Messages.{SerialMessageValue}
use Rattle.dns_tcp.proofs.ReadLemmas.{fed_at, last_read, more_read, reading_last, reading_more}
use Rattle.dns_tcp.proofs.messages.next_message.Goals as goal

pub frame-preserved : goal.frame-preserved
frame-preserved g c =
    reading_more _ _ _ _ _ _ _ c.frame.invariant (rw c.in-More.is at c.in_ok-feed.ensures.framed)
    (more_read _ _ _ _ _ (rw c.in-More.is at c.in_ok-feed.ensures.fed))

pub frame-smaller : goal.frame-smaller
frame-smaller g c =
    let more = more_read _ _ _ _ _ (rw c.in-More.is at c.in_ok-feed.ensures.fed) in
    let longer = more.longer in
    let small = c.in_ok-feed.ensures.small in
    omega (arith, longer, small)

pub returns-in-Message : goal.returns-in-Message
returns-in-Message g c =
    let bytes = ap (λ (m : SerialMessageValue). m.bytes) c.message.view_is in
    let last = last_read _ _ _ _ _ _ (rw c.in-Message.is at c.in_ok-feed.ensures.fed) in
    rw bytes (
      reading_last _ _ _ _ _ _ _ _ c.frame.invariant (rw c.in-Message.is at c.in_ok-feed.ensures.framed)
          (rw c.in-Message.is at c.in_ok-feed.ensures.fits) last,
      last.used,
    )

pub returns-in-Closed : goal.returns-in-Closed
returns-in-Closed g c = fed_at _ _ _ _ _ _ _ _ c.frame.invariant (rw c.in-Closed.is at c.in_ok-feed.ensures.fed)

pub returns-in_err-feed : goal.returns-in_err-feed
returns-in_err-feed g c =
    let p = err_from_is_err_and c.from_residual.result c.from_residual.ensures.1 in
    rw (p.1, p.2) (fed_at _ _ _ _ _ _ _ _ c.frame.invariant c.in_err-feed.ensures.fed)
