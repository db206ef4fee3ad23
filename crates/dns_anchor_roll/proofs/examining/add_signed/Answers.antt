use Rattle.std.proofs.Common.{◌≡◌, ◌∙◌, ◌++◌, ◌∷◌, [], refl, sym, ap, append-nil, append_assoc, take}
use Rattle.std.specs.List.{filter}
use Rattle.dns_model.proofs.EachLemmas.{each_of, filter_none}
use Rattle.dns_model.specs.Records.{Rr}
use Rattle.dns_rules.specs.Validity.{is_good_but_for_revoke}
use Rattle.dns_trust.specs.Judge.{judge_of}
use Rattle.dns_trust.specs.Delegating.{shown}
use Rattle.dns_trust.proofs.Reading.{unread_but_for_revoke}
use Rattle.std.proofs.lemmas.List.{map-append}
use Rattle.dns_trust.proofs.Shown.{shown_at, shown_within}
use Rattle.dns_anchor_roll.proofs.Records.{kept_more, left_more}
use Rattle.dns_anchor_roll.proofs.examining.add_signed.Goals as goal
use Rattle.dns_anchor_roll.proofs.examining.add_signed.Goals.{then-branch+in_ok-push, else-branch}

pub returns-in_default : goal.returns-in_default
returns-in_default g c =
    let j = judge_of g.V.Verifier.answers c.args.judge.now in
    let test = is_good_but_for_revoke j c.args.set.now c.args.sig.now in
    let unread = sym c.of.ensures ∙ c.in_default.is in
    sym (ap (λ rs. shown c.args.signed.now.items ++ rs)
    (filter_none test (shown c.args.forms.now)
    (each_of (λ key. test key ≡ _) (λ key. unread_but_for_revoke j c.args.set.now c.args.sig.now key unread) (shown c.args.forms.now)))
    ∙ append-nil (shown c.args.signed.now.items))

pub loop-form-preserved : goal.loop-form-preserved
loop-form-preserved g c =
    let test = is_good_but_for_revoke (judge_of g.V.Verifier.answers c.args.judge.now) c.args.set.now c.args.sig.now in
    let all = shown c.args.forms.now in
    let i = c.loop-form.form-index in
    let x = c.form-item.result.now in
    let before = shown c.args.signed.now.items in
    let within = shown_within c.args.forms.now i c.loop-form-test.true in
    let at = shown_at c.args.forms.now i c.form-item.result c.form-item.is in
    elim c.if-branch.branch [
      | then-branch+in_ok-push w ↦ (
        ap (λ v. shown v.items) w.signed-is ∙ ap shown w.in_ok-push.ensures.items
            ∙ map-append (λ r. r.now) c.loop-form.signed.items _ ∙ ap (λ rs. rs ++ x ∷ []) c.loop-form.invariant.0
            ∙ append_assoc before (filter test (take i all)) (x ∷ [])
            ∙ ap (λ rs. before ++ rs) (kept_more test all i x x _ _ within at (sym c.in_ok-is_good_revoked.ensures.good ∙ w.if-branch.true)
            refl refl refl),
        c.in_ok-is_good_revoked.ensures.built,
      )
      | else-branch w ↦ (
        ap (λ v. shown v.items) w.signed-is ∙ c.loop-form.invariant.0
            ∙ ap (λ rs. before ++ rs) (left_more test all i x _ within at (sym c.in_ok-is_good_revoked.ensures.good ∙ w.if-branch.false) refl),
        c.in_ok-is_good_revoked.ensures.built,
      )
    ]
