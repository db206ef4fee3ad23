use Rattle.std.proofs.Common.{◌≡◌, Ok, Err, inr, arith, sym, ap, subst, ◌∙◌, true}
use Rattle.std.specs.Option.{option_map}
use Rattle.dns_model.specs.Gives.{Gives}
use Rattle.dns_model.specs.Chains.{judge}
use Rattle.dns_rules.specs.KeySets.{is_needing_ds, needs_ds, keys_outcome}
use Rattle.dns_rules.proofs.KeySetLemmas.{needs_ds-outcome}
use Rattle.std.proofs.lemmas.Grind.{common_steps}
use Rattle.dns_trust.specs.declared.keys.AnchoredRow.TheVariants.{Root}
use Rattle.dns_marks.specs.declared.key_marks.KeysMark.TheVariants.{Done}
use Rattle.dns_trust.specs.Rows.{anchored_outcome}
use Rattle.dns_cache.specs.Kinds.{out_of_memory}
use Rattle.dns_marks.specs.KeyMarks.{keys_mark}
use Rattle.dns_marks.specs.ZoneVerdicts.{zone_verdict_value}
use Rattle.dns_marks.proofs.KeyLemmas.{by_row}
use Rattle.dns_marks.proofs.key_marks.mark_keys.Goals as goal

pub returns-in-Signed : goal.returns-in-Signed
returns-in-Signed g c =
    ap (keys_mark c.args.now c.args.set.now)
    (by_row _ _ _ (anchored_outcome c.args.set.now c.in_ok-by.field-0) c.in_ok-by.ensures
    (ap (λ r. is_needing_ds (anchored_outcome c.args.set.now r)) c.in-Signed.is))
    ∙ ap (λ r. keys_mark c.args.now c.args.set.now (anchored_outcome c.args.set.now r)) c.in-Signed.is ∙ ap Ok (sym c.signed.ensures)

pub returns-in-Whole : goal.returns-in-Whole
returns-in-Whole g c =
    ap (keys_mark c.args.now c.args.set.now)
    (by_row _ _ _ (anchored_outcome c.args.set.now c.in_ok-by.field-0) c.in_ok-by.ensures
    (ap (λ r. is_needing_ds (anchored_outcome c.args.set.now r)) c.in-Whole.is))
    ∙ ap (λ r. keys_mark c.args.now c.args.set.now (anchored_outcome c.args.set.now r)) c.in-Whole.is
    ∙ ap (λ p. Ok (Done p)) (sym c.proved_whole.ensures)

pub returns-in_ok-name-in-Root : goal.returns-in_ok-name-in-Root
returns-in_ok-name-in-Root g c =
    let row : keys_mark c.args.now c.args.set.now (anchored_outcome c.args.set.now Root) ≡ Err c.new.result = grind (arith, common_steps) in
    inr
    (ap (keys_mark c.args.now c.args.set.now)
    (by_row _ _ _ (anchored_outcome c.args.set.now c.in_ok-by.field-0) c.in_ok-by.ensures
    (ap (λ r. is_needing_ds (anchored_outcome c.args.set.now r)) c.in-Root.is))
    ∙ ap (λ r. keys_mark c.args.now c.args.set.now (anchored_outcome c.args.set.now r)) c.in-Root.is ∙ row)

pub returns-in-Some : goal.returns-in-Some
returns-in-Some g c =
    let j = judge (g.V.Verifier.answers c.args.verifier.now) c.args.anchors.now c.args.now in
    let needing : needs_ds j c.args.set.now ≡ true =
    ap is_needing_ds (sym c.in_ok-by.ensures ∙ ap (anchored_outcome c.args.set.now) c.in-NeedsDs.is) in
    subst (λ o. Gives (λ mark. mark) out_of_memory c.marked_by_zone.result (keys_mark c.args.now c.args.set.now o))
    (sym (ap (λ zone. keys_outcome j c.args.set.now (option_map (λ z. zone_verdict_value z.now) zone)) c.in-Some.is
    ∙ needs_ds-outcome j c.args.set.now (zone_verdict_value c.in-Some.zone.now) needing))
    c.marked_by_zone.ensures
