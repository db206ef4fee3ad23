use Rattle.std.proofs.Common.{refl}
use Rattle.dns_query_handle.specs.Deadlines.{Late, InTime}
use Rattle.dns_query_handle.proofs.deadline_handle.ask_in_time.Goals as goal

pub returns-then-elapsed_ms-limit_ms : goal.returns-then-elapsed_ms-limit_ms
returns-then-elapsed_ms-limit_ms g c =
    Late c.elapsed_ms.result c.elapsed_ms.ensures c.if-elapsed_ms-limit_ms.true refl refl

pub returns : goal.returns
returns g c =
    InTime c.elapsed_ms.result c.elapsed_ms.ensures c.if-elapsed_ms-limit_ms.false
    (c.send.ensures.sent, c.send.ensures.requested)
