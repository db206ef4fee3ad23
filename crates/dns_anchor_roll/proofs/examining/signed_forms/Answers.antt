use Rattle.std.proofs.Common.{◌∙◌, ◌++◌, ◌∷◌, [], take, sym, ap}
use Rattle.std.specs.List.{filter, flat_map}
use Rattle.std.proofs.lemmas.List.{flat_map_more, take_more}
use Rattle.dns_model.specs.Records.{Rr}
use Rattle.dns_rules.specs.Validity.{is_good_but_for_revoke}
use Rattle.dns_trust.specs.Judge.{judge_of}
use Rattle.dns_trust.specs.Delegating.{shown}
use Rattle.dns_trust.proofs.Shown.{shown_at, shown_within}
use Rattle.dns_anchor_roll.proofs.examining.signed_forms.Goals as goal

pub loop-signature-preserved : goal.loop-signature-preserved
loop-signature-preserved g c =
    let j = judge_of g.V.Verifier.answers c.args.judge.now in
    let forms = λ (sig : Rr). filter (is_good_but_for_revoke j c.args.set.now sig) (shown c.args.forms.now) in
    let all = shown c.args.signatures.now in
    let i = c.loop-signature.signature-index in
    let x = c.signature-item.result.now in
    c.in_ok-add_signed.ensures
    ∙ ap (λ rs. rs ++ forms x) c.loop-signature.invariant
    ∙ flat_map_more forms [] (take i all) x
    ∙ sym (ap (flat_map forms) (take_more all i x (shown_within c.args.signatures.now i c.loop-signature-test.true)
    ∙ ap (λ y. take i all ++ y ∷ []) (sym (shown_at c.args.signatures.now i c.signature-item.result c.signature-item.is))))
