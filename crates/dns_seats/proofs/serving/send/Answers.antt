use Rattle.std.proofs.Common.{◌≡◌, Some}
use Rattle.dns_seats.proofs.PortLemmas.{went, unsent}
use Rattle.dns_seats.proofs.serving.send.Goals as goal

pub returns-in-Ok : goal.returns-in-Ok
returns-in-Ok g c =
    let h = c.in-Ok.ensures in
    let is : c.args.reply.now ≡ Some c.as_slice.result.now = cc in
    went g.P.Port c.args.port.now c.reply.new.self c.args.reply.now c.as_slice.result.now is
    (record { gots = h.gots; ends = h.ends; later = h.later; received = h.received; replied = h.replied })

pub returns-in-Err : goal.returns-in-Err
returns-in-Err g c =
    let h = c.in-Err.ensures in
    let is : c.args.reply.now ≡ Some c.as_slice.result.now = cc in
    unsent g.P.Port c.args.port.now c.reply.new.self c.args.reply.now c.as_slice.result.now c.in-Err.kind is
    (record { gots = h.gots; ends = h.ends; later = h.later; received = h.received; replied = h.replied }) h.cause
