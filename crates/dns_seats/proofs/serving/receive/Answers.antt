use Rattle.dns_ports.specs.declared.port.PortFault.TheVariants as fault
use Rattle.dns_seats.proofs.PortLemmas.{came_fault, came_none, came_request}
use Rattle.dns_seats.proofs.serving.receive.Goals as goal

pub returns-in-Ok-Some : goal.returns-in-Ok-Some
returns-in-Ok-Some g c =
    let h = c.in-Ok-Some.ensures in
    let is = c.in-Ok-Some.field-0-is in
    came_request c.in-Ok-Some.request (record {
      gots = rw is at h.gots;
      ends = rw is at h.ends;
      later = h.later;
      received = rw is at h.received;
      replied = h.replied;
    })

pub returns-in-Ok-None : goal.returns-in-Ok-None
returns-in-Ok-None g c =
    let h = c.in-Ok-None.ensures in
    let is = c.in-Ok-None.field-0-is in
    came_none (record {
      gots = rw is at h.gots;
      ends = rw is at h.ends;
      later = h.later;
      received = rw is at h.received;
      replied = h.replied;
    })

pub returns-in-Err-Io : goal.returns-in-Err-Io
returns-in-Err-Io g c =
    let h = c.in-Err-Io.ensures in
    let is = c.in-Err-Io.field-0-is in (
      came_fault (fault.Io c.in-Err-Io.kind)
          (record { gots = h.gots; ends = h.ends; later = h.later; received = h.received; replied = h.replied }),
      rw is at h.cause,
    )

pub returns-in-Err-NoMemory : goal.returns-in-Err-NoMemory
returns-in-Err-NoMemory g c =
    let h = c.in-Err-NoMemory.ensures in
    came_fault fault.NoMemory
    (record { gots = h.gots; ends = h.ends; later = h.later; received = h.received; replied = h.replied })
