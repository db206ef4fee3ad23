use Rattle.std.proofs.lemmas.Result.{IfOk-weaker}
use Rattle.dns_query_run.proofs.endings.call_told.Goals as goal

pub returns-clause-tells : goal.returns-clause-tells
returns-clause-tells g c =
    IfOk-weaker c.ended_told.result _ _
    (λ told tells. record { ended = c.ask_server-ended.result; asks = c.ask_server-ended.ensures; is_told = tells })
    c.ended_told.ensures.tells
