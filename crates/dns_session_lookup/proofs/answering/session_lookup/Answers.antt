use Rattle.std.proofs.Common.{ap, ◌∙◌, rules}
use Rattle.dns_model.specs.Keys.{anchored}
use Rattle.dns_session_lookup.specs.Verifying.{answers_by, verifier_answers}
use Rattle.dns_session_lookup.proofs.answering.session_lookup.Goals as goal

pub returns : goal.returns
returns c =
    let made = c.in_ok-validator.ensures in
    rw (← c.session.view_is) (record {
      upstream = made.inner ∙ c.in_ok-upstream.ensures;
      anchors = ap anchored made.anchors ∙ c.in_ok-anchors.ensures;
      verifier =
          ap verifier_answers made.verifier ∙ c.in_ok-verifier.ensures
          ∙ ap (λ algorithms. answers_by c.args.how algorithms c.session.inside.accepts.items) c.deref.ensures.value;
      iterations = made.iterations;
      cache = made.cache;
      ranges = made.ranges;
      query = search rules;
      options = search rules;
      moment = search rules;
    })
