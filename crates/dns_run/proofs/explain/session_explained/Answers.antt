use Rattle.std.proofs.Common.{ap, ◌∙◌}
use Rattle.std.proofs.lemmas.Result.{IfOk-weaker}
use Rattle.dns_session.specs.SessionValue.{SessionValue}
use Rattle.dns_run.proofs.ExplainLemmas.{explains_session}
use Rattle.dns_run.proofs.explain.session_explained.Goals as goal

pub returns-clause-ends : goal.returns-clause-ends
returns-clause-ends c =
    IfOk-weaker c.explained.result _ _
    (λ x. explains_session c.args.how c.args.session c.session_answer-reply.result c.in_ok-judging.judging x.0 x.1.items
    (record {
      verifier = c.in_ok-judging.ensures.verifier;
      anchors = c.in_ok-judging.ensures.anchors;
      moment = c.in_ok-judging.ensures.moment ∙ ap (λ (s : SessionValue). s.moment) c.session.view_is;
      limits = c.in_ok-judging.ensures.limits;
    })
    c.session_answer-reply.ensures) c.explained.ensures.ends
