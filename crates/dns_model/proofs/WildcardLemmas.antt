-- The wildcard below a name is a name too where a label stood there (RFC 4592, 2.1.1).
use Rattle.std.proofs.Common.{◌≡◌, ◌+◌, ◌≤◌, true, false, cond, [], ◌∷◌, length, Some, refl, sym, ap, ◌∙◌, arith, length-append}
use Rattle.std.specs.Prelude.{nat_le}
use Rattle.std.specs.List.{list_all}
use Rattle.std.proofs.lemmas.Bool.{and_parts, and_from, cond_both}
use Rattle.std.proofs.lemmas.Bool.Decides.{nat_tests}
use Rattle.std.proofs.lemmas.List.{append-nil}
use Rattle.dns_model.specs.Names.{Label, Labels, at_or_above, is_name, is_label, wire, star, common_ancestor}
use Rattle.dns_model.specs.NameForm.{name_in}
use Rattle.dns_model.proofs.LabelSteps.{is_name-above, label_size}
use Rattle.dns_model.proofs.WireLemmas.{name_in-wire}

pub star_fits : (label : Label) (name : Labels) → is_name (label ∷ name) ≡ true → is_name (star name) ≡ true
star_fits label name good =
    let parts = and_parts (list_all is_label (label ∷ name)) (nat_le (length (wire (label ∷ name))) 255) good in
    let halves = and_parts (is_label label) (list_all is_label name) parts.0 in
    let size = label_size label halves.0 in
    let whole : length (wire (label ∷ name)) ≤ 255 = grind (arith, nat_tests, parts.1) in
    let fits : 2 + length (wire name) ≤ 255 = omega (arith, whole, size.0, length-append label (wire name)) in
    let limit : nat_le (length (wire (star name))) 255 ≡ true = grind (arith, nat_tests, fits) in
    and_from (list_all is_label (star name)) (nat_le (length (wire (star name))) 255) halves.1 limit

star_below : (label : Label) (name other : Labels) → is_name (label ∷ name) ≡ true → is_name (star (common_ancestor name other)) ≡ true
unfolding common_ancestor
star_below label [] other good = refl
star_below label (next ∷ name) other good =
    cond_both (at_or_above (next ∷ name) other) (next ∷ name) (common_ancestor name other) (λ n. is_name (star n) ≡ true)
    (λ h. star_fits label (next ∷ name) good) (λ h. star_below next name other (is_name-above label (next ∷ name) good))

pub star_of_common : (name other : Labels) → is_name name ≡ true → at_or_above name other ≡ false
    → is_name (star (common_ancestor name other)) ≡ true
unfolding common_ancestor
star_of_common [] other good differs = refl
star_of_common (label ∷ name) other good differs =
    ap (λ b. is_name (star (cond b (label ∷ name) (common_ancestor name other)))) differs ∙ star_below label name other good

-- ---- the wildcard in wire form

pub star_read : (name : Labels) → is_name (star name) ≡ true → name_in (wire (star name)) ≡ Some (star name, [])
star_read name good = ap name_in (sym (append-nil (wire (star name)))) ∙ name_in-wire (star name) [] good
