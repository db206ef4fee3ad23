use Rattle.std.proofs.Common.{◌≡◌, None, subst, sym, ap, ◌∙◌}
use Rattle.std.specs.List.{find}
use Rattle.std.specs.Option.{option_copied}
use Rattle.dns_model.specs.Records.{Rr}
use Rattle.dns_model.specs.Keys.{ds_covers_key}
use Rattle.dns_rules.specs.Delegations.{matching_ds}
use Rattle.dns_trust.specs.Delegating.{DsIndexValue, shown}
use Rattle.dns_trust.proofs.Delegated.{match_unread, match_none, match_there}
use Rattle.dns_trust.proofs.delegation.DsIndex.matching.Goals as goal

pub returns-in_err-pair : goal.returns-in_err-pair
returns-in_err-pair g c =
    rw c.from_residual.ensures
    (sym (match_unread (g.V.Verifier.answers c.args.verifier.now) c.args.self.now.owner c.args.key.now c.args.self.now.records
    (sym c.algorithm_and_tag_of.ensures ∙ c.in_err-pair.was)))

pub returns-in_err-counted : goal.returns-in_err-counted
returns-in_err-counted g c =
    let answers = g.V.Verifier.answers c.args.verifier.now in
    rw c.from_residual-in_err-counted.ensures
    (subst (λ (d : DsIndexValue). None ≡ matching_ds answers d.owner c.args.key.now d.records) c.self.view_is
    (sym (match_none answers c.self.inside.owner.now c.args.key.now (shown c.self.inside.records.items) c.self.inside.counted
    c.in_ok-pair.pair
    (sym c.algorithm_and_tag_of.ensures ∙ c.in_ok-pair.was) c.self.invariant c.in_err-counted.ensures.value)))

pub returns : goal.returns
returns g c =
    let answers = g.V.Verifier.answers c.args.verifier.now in
    let owner = c.self.inside.owner.now in
    subst (λ (d : DsIndexValue). option_copied c.first_match.result ≡ matching_ds answers d.owner c.args.key.now d.records) c.self.view_is
    (c.first_match.ensures
    ∙ ap (λ rs. find (λ (r : Rr). ds_covers_key answers owner c.args.key.now.rdata r.rdata) (shown rs)) c.as_slice.ensures.value
    ∙ match_there answers owner c.args.key.now (shown c.self.inside.records.items) c.self.inside.counted c.in_ok-pair.pair
    c.in_ok-counted.counted.now
    (sym c.algorithm_and_tag_of.ensures ∙ c.in_ok-pair.was) c.self.invariant c.in_ok-counted.ensures.value)
