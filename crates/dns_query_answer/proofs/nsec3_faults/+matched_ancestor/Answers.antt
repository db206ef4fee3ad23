use Rattle.std.proofs.Common.{rules, ◌≡◌, true, false, None, Some, [], ◌∷◌, Option, sym, ap, ◌∙◌}
use Rattle.std.specs.List.{find}
use Rattle.dns_model.specs.Names.{Labels, at_or_above}
use Rattle.dns_rules.specs.Nsec3Covering.{nsec3_matches}
use Rattle.dns_query_answer.proofs.MatchLemmas.{none_of_root, none_outside, found_above, found_further}
use Rattle.dns_query_answer.proofs.nsec3_faults.+matched_ancestor.Goals as goal

pub returns-in_err-above : goal.returns-in_err-above
returns-in_err-above t c =
    let root : c.args.name.now ≡ [] = search rules in
    let gives : ◌≡◌ {A = Option Labels} c.from_residual.result None = search rules in
    gives ∙ sym (none_of_root c.args.by.now c.args.zone.now c.args.nsec3s.now c.args.name.now root)

pub returns-then-not-zone_of : goal.returns-then-not-zone_of
returns-then-not-zone_of t c =
    let above = c.in_ok-above.above in
    let split : c.args.name.now ≡ c.in_ok-above.field-0-0.now ∷ above = search rules in
    let outside : at_or_above c.args.zone.now above ≡ false = search rules in
    sym (none_outside c.args.by.now c.args.zone.now c.args.nsec3s.now c.args.name.now c.in_ok-above.field-0-0.now above
    split outside)

pub returns-in-Some : goal.returns-in-Some
returns-in-Some t c =
    let by = c.args.by.now in
    let nsec3s = c.args.nsec3s.now in
    let above = c.in_ok-above.above in
    let split : c.args.name.now ≡ c.in_ok-above.field-0-0.now ∷ above = search rules in
    let inside : at_or_above c.args.zone.now above ≡ true = search rules in
    let found : find (nsec3_matches c.hash.result) nsec3s ≡ Some c.in-Some.field-0.now = search rules in
    let there = ap (λ h. find (nsec3_matches h) nsec3s) (sym c.hash.ensures) ∙ found in
    sym (found_above by c.args.zone.now nsec3s c.args.name.now c.in_ok-above.field-0-0.now above c.in-Some.field-0.now
    split inside there)

pub returns-in-None : goal.returns-in-None
returns-in-None t c =
    let by = c.args.by.now in
    let nsec3s = c.args.nsec3s.now in
    let above = c.in_ok-above.above in
    let split : c.args.name.now ≡ c.in_ok-above.field-0-0.now ∷ above = search rules in
    let inside : at_or_above c.args.zone.now above ≡ true = search rules in
    let none : find (nsec3_matches c.hash.result) nsec3s ≡ None = search rules in
    let missing = ap (λ h. find (nsec3_matches h) nsec3s) (sym c.hash.ensures) ∙ none in
    c.matched_ancestor.ensures
    ∙ sym (found_further by c.args.zone.now nsec3s c.args.name.now c.in_ok-above.field-0-0.now above
    split inside missing)
