use Rattle.std.proofs.Common.{refl, take}
use Rattle.dns_listener.proofs.datagram_port.next_request.Goals as goal

pub returns-in_default-from_slice : goal.returns-in_default-from_slice
returns-in_default-from_slice g c = record {
  datagram = (take c.in-Some.len c.next_datagram.new.buffer, c.in-Some.from);
  waited = rw c.in-Some.is at c.in-Ok.ensures.waited;
}

pub returns : goal.returns
returns g c = record {
  from = c.in-Some.from;
  sender = refl;
  waited = rw c.in-Ok-from_slice.ensures (rw c.in-Some.is at c.in-Ok.ensures.waited);
}
