use Rattle.std.proofs.Common.{◌≡◌, ◌∙◌, List, ℕ, is_some, rules, subst, ap}
use Rattle.std.specs.List.{filter, find, flat_map, list_any}
use Rattle.std.specs.Option.{option_map}
use Rattle.dns_model.specs.Chains.{judge}
use Rattle.dns_model.specs.Views.{is_revoked}
use Rattle.dns_rules.specs.Validity.{is_good_but_for_revoke}
use Rattle.dns_trust.specs.Delegating.{shown}
use Rattle.dns_trust.specs.Signers.{AreOnce}
use Rattle.dns_anchor_roll.specs.Facts.{is_good_by_any, may_accept, original_ttl}
use Rattle.dns_anchor_roll.specs.Findings.{FindsFact, may_revoke}
use Rattle.dns_anchor_roll.specs.Sightings.{SightingValue}
use Rattle.dns_anchor_roll.specs.FollowedKeys.{is_unrevoked, shows_form}
use Rattle.dns_anchor_roll.specs.Tables.{is_trusted, standing_in}
use Rattle.dns_anchor_roll.proofs.Examined.{revoked_found, ttl_found}
use Rattle.dns_anchor_roll.proofs.examining.examine.Goals as goal

pub returns : goal.returns
returns g c =
    let answers = g.V.Verifier.answers c.args.verifier.now in
    let zone = c.args.zone.now in
    let s : SightingValue = record { moment = c.sighting.inside.moment; set = c.sighting.inside.set } in
    let trusted = λ (key : List ℕ). is_trusted (standing_in c.args.table.now.known key) in
    let signatures = shown c.in_ok-signatures.signatures.items in
    let keys = shown c.in_ok-acceptors.acceptors.items in
    let forms = shown c.in_ok-forms.forms.items in
    let records : c.deref.result.now ≡ s.set.records = search rules in
    let records-4 : c.deref-4.result.now ≡ s.set.records = search rules in
    let records-7 : c.deref-7.result.now ≡ s.set.records = search rules in
    let accepting = subst (λ rs. AreOnce keys (filter (may_accept zone trusted) rs)) records c.in_ok-acceptors.ensures in
    let revoking = subst (λ rs. AreOnce forms (filter (may_revoke zone trusted (is_some c.in_ok-ttl.ttl)) rs)) records-4
    (subst (λ b. AreOnce forms (filter (may_revoke zone trusted b) c.deref-4.result.now)) c.is_some.ensures c.in_ok-forms.ensures) in
    subst (λ (seen : SightingValue). FindsFact answers zone trusted seen
    (record { ttl = c.in_ok-ttl.ttl; shown = c.in_ok-shown.shown; revoked = c.in_ok-revoked.revoked })) c.sighting.view_is
    (record {
      ttl =
          c.in_ok-ttl.ensures
          ∙ ap (λ ks. option_map original_ttl (find (is_good_by_any (judge answers c.empty-anchors.result s.moment) s.set (shown ks))
          (shown c.deref-2.result.now))) c.deref-3.ensures.value
          ∙ ap (λ sigs. option_map original_ttl (find (is_good_by_any (judge answers c.empty-anchors.result s.moment) s.set keys)
          (shown sigs))) c.deref-2.ensures.value
          ∙ ap (λ anchors. option_map original_ttl (find (is_good_by_any (judge answers anchors s.moment) s.set keys) signatures))
          c.empty-anchors.ensures
          ∙ ttl_found answers zone trusted s signatures keys c.in_ok-signatures.ensures accepting;
      shown = λ key. c.in_ok-shown.ensures key ∙ ap (list_any (shows_form zone is_unrevoked key)) records-7;
      revoked = λ key.
          c.in_ok-revoked.ensures key
          ∙ ap (λ rs. list_any (shows_form zone is_revoked key) (shown rs)) c.deref-8.ensures.value
          ∙ ap (list_any (shows_form zone is_revoked key)) c.in_ok-signed.ensures
          ∙ ap (λ fs. list_any (shows_form zone is_revoked key) (flat_map (λ sig. filter (is_good_but_for_revoke
          (judge answers c.empty-anchors.result s.moment) s.set sig) (shown fs)) (shown c.deref-5.result.now))) c.deref-6.ensures.value
          ∙ ap (λ sigs. list_any (shows_form zone is_revoked key) (flat_map (λ sig. filter (is_good_but_for_revoke
          (judge answers c.empty-anchors.result s.moment) s.set sig) forms) (shown sigs))) c.deref-5.ensures.value
          ∙ ap (λ anchors. list_any (shows_form zone is_revoked key) (flat_map (λ sig. filter (is_good_but_for_revoke
          (judge answers anchors s.moment) s.set sig) forms) signatures)) c.empty-anchors.ensures
          ∙ revoked_found answers zone trusted (is_some c.in_ok-ttl.ttl) s signatures forms key c.in_ok-signatures.ensures revoking;
    })
