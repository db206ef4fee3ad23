use Rattle.std.proofs.Common.{◌≡◌, IfOk, subst, ap, ◌∙◌}
use Rattle.std.specs.Option.{option_map}
use Rattle.std.specs.Prelude.{take}
use Rattle.dns_rules.specs.Marks.{most_signatures}
use Rattle.dns_trust.specs.Judge.{judge_of}
use Rattle.dns_trust.specs.Delegating.{shown}
use Rattle.dns_trust.specs.Signers.{AreOnce, first_signed_by, signed_value}
use Rattle.dns_trust.proofs.Signing.{matched_once}
use Rattle.dns_trust.proofs.keys.signed_by_matched.Goals as goal

pub returns : goal.returns
returns g c =
    let j = judge_of g.V.Verifier.answers c.args.judge.now in
    subst (λ w. IfOk c.first_signed.result (λ s. option_map signed_value s ≡ w))
    (ap (λ ks. first_signed_by j c.args.set.now (shown ks) (take most_signatures c.args.set.now.signatures)) c.deref-2.ensures.value
    ∙ matched_once j c.args.set.now c.args.ds.now.records (shown c.in_ok-keys.keys.items) (shown c.in_ok-matched.matched.items)
    c.in_ok-matched.ensures
    (subst (λ ks. AreOnce (shown c.in_ok-keys.keys.items) (shown ks)) c.deref.ensures.value
    c.in_ok-keys.ensures.found))
    c.first_signed.ensures
