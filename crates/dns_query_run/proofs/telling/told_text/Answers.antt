use Rattle.std.proofs.Common.{◌∙◌, ap}
use Rattle.std.proofs.lemmas.Result.{IfOk-weaker}
use Rattle.dns_causes.specs.Values.{kinds_by_step}
use Rattle.dns_query_run.proofs.TextLemmas.{told_is}
use Rattle.dns_query_run.proofs.telling.told_text.Goals as goal

pub returns : goal.returns
returns c =
    IfOk-weaker c.write_answer.result _ _
    (λ v wrote.
    wrote ∙ told_is c.args.call.now _ c.args.looked.now _ c.new-verifier.result c.call_limits-limits.result _
    c.call.view_is c.looked.view_is c.new-verifier.ensures c.call_limits-limits.ensures
    (ap kinds_by_step c.deref.ensures.value ∙ c.in_ok-causes.ensures))
    c.write_answer.ensures
