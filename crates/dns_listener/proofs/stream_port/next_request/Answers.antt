use Rattle.std.proofs.Common.{ap, arith}
use Rattle.dns_multiplexer.specs.Messages.{SerialMessageValue}
use Rattle.dns_tcp.proofs.ReadLemmas.{fed_at, last_read, more_read, reading_last, reading_more, reading_none}
use Rattle.dns_listener.proofs.stream_port.next_request.Goals as goal

pub frame-init : goal.frame-init
frame-init g c = reading_none _ _

pub frame-preserved : goal.frame-preserved
frame-preserved g c =
    reading_more _ _ _ _ _ _ _ c.frame.invariant (rw c.in-Ok-More.field-0-is at c.in-Ok-More.ensures.framed)
    (more_read _ _ _ _ _ (rw c.in-Ok-More.field-0-is at c.in-Ok-More.ensures.fed))

pub frame-smaller : goal.frame-smaller
frame-smaller g c =
    let more = more_read _ _ _ _ _ (rw c.in-Ok-More.field-0-is at c.in-Ok-More.ensures.fed) in
    let longer = more.longer in
    let small = c.in-Ok-More.ensures.small in
    omega (arith, longer, small)

pub returns-in-Ok-Message : goal.returns-in-Ok-Message
returns-in-Ok-Message g c =
    let bytes = ap (λ (m : SerialMessageValue). m.bytes) c.message.view_is in
    let last = last_read _ _ _ _ _ _ (rw c.in-Ok-Message.field-0-is at c.in-Ok-Message.ensures.fed) in
    rw bytes (
      reading_last _ _ _ _ _ _ _ _ c.frame.invariant (rw c.in-Ok-Message.field-0-is at c.in-Ok-Message.ensures.framed)
          (rw c.in-Ok-Message.field-0-is at c.in-Ok-Message.ensures.fits) last,
      last.used,
    )

pub returns-in-Ok-Closed : goal.returns-in-Ok-Closed
returns-in-Ok-Closed g c =
    fed_at _ _ _ _ _ _ _ _ c.frame.invariant (rw c.in-Ok-Closed.field-0-is at c.in-Ok-Closed.ensures.fed)

pub returns-in-Err : goal.returns-in-Err
returns-in-Err g c = record {
  error = c.in-Err.error;
  fed = fed_at _ _ _ _ _ _ _ _ c.frame.invariant c.in-Err.ensures.fed;
  told = c.fault_of.ensures;
}
