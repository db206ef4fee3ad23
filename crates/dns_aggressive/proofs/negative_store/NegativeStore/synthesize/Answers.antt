use Rattle.std.proofs.Common.{rules, ◌≡◌, Some, option_map, sym, ap, ◌∙◌}
use Rattle.std.proofs.lemmas.Result.{IfOk-weaker}
use Rattle.dns_aggressive.specs.Denials.{decided_among, synthesized, ways_tried, zone_for}
use Rattle.dns_aggressive.proofs.Deciding.{made_by_zone}
use Rattle.dns_aggressive.specs.Flags.{are_plain}
use Rattle.dns_aggressive.proofs.Promises.{denial_holds}
use Rattle.dns_aggressive.proofs.negative_store.NegativeStore.synthesize.Goals as goal

pub returns-in_err-zone-clause-denial : goal.returns-in_err-zone-clause-denial
returns-in_err-zone-clause-denial c =
    denial_holds c.args.self.now c.args.query.now c.args.now
    (ap (λ s. are_plain s.kept) (sym c.self.view_is) ∙ c.self.invariant.plain)

pub returns-clause-denial : goal.returns-clause-denial
returns-clause-denial c =
    denial_holds c.args.self.now c.args.query.now c.args.now
    (ap (λ s. are_plain s.kept) (sym c.self.view_is) ∙ c.self.invariant.plain)

pub returns-clause-made : goal.returns-clause-made
returns-clause-made c =
    let store = c.args.self.now in
    let kept : c.self.inside.kept ≡ store.kept = ap (λ s. s.kept) c.self.view_is in
    let zone : zone_for store.kept c.args.query.now c.args.now ≡ Some c.in_ok-zone.zone =
    ap (λ ks. zone_for ks c.args.query.now c.args.now) (sym kept) ∙ sym c.in-Some.ensures
    ∙ ap Some (sym c.in_ok-zone.ensures) in
    IfOk-weaker c.made_in.result _ _
    (λ denial is. is
    ∙ ap (λ ks. option_map (synthesized ks c.args.now) (decided_among ks c.args.query.now c.args.now c.in_ok-zone.zone
    (ways_tried c.self.inside.most ks c.args.now c.in_ok-zone.zone))) kept
    ∙ ap (λ most. option_map (synthesized store.kept c.args.now)
    (decided_among store.kept c.args.query.now c.args.now c.in_ok-zone.zone
    (ways_tried most store.kept c.args.now c.in_ok-zone.zone))) (ap (λ s. s.most) c.self.view_is)
    ∙ made_by_zone store c.args.query.now c.args.now c.in_ok-zone.zone (search rules) zone)
    c.made_in.ensures
