use Rattle.std.proofs.Common.{Some, refl}
use Rattle.dns_validation.specs.Terms.{terms_of}
use Rattle.dns_validation.proofs.LeftLemmas.{first_is_left}
use Rattle.dns_validation.proofs.ReachedLemmas.{first_accepted, reached_given}
use Rattle.dns_validation.proofs.validation.Validation.kept.Goals as goal

pub invariant_of-self-2 : goal.invariant_of-self-2
invariant_of-self-2 g c =
    let t = terms_of g.V.Verifier.answers c.self.inside.context in
    let judge = c.self.inside.context.judge in
    record {
      stands = reached_given t c.self.inside.state _ c.in_ok-entry.ensures.leaves c.self.invariant.stands;
      accepted = c.remember.ensures (g.V.Verifier.answers judge.verifier.now) c.self.invariant.accepted
          (first_accepted (g.V.Verifier.answers judge.verifier.now) judge.anchors.now judge.moment t c.self.inside.state
          (Some c.in_ok-entry.entry) refl c.in_ok-entry.ensures.gives c.self.invariant.stands);
    }

pub returns-clause-left : goal.returns-clause-left
returns-clause-left g c =
    rw (← c.self.view_is) (first_is_left (terms_of g.V.Verifier.answers c.self.inside.context) c.self.inside.state
    (Some c.in_ok-entry.entry) c.in_ok-entry.ensures.gives)
