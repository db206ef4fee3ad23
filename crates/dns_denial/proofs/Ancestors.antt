-- How the common ancestor of two names with as many labels is found from the leaf on.
use Rattle.std.proofs.Common.{◌≡◌, Bool, true, false, cond, [], ◌∷◌, length, refl, sym, ap, ◌∙◌}
use Rattle.dns_model.specs.Names.{Label, Labels, name_eq, common_ancestor}
use Rattle.dns_model.proofs.CommonAncestors.{above_aligned, common_of_unequal}
use Rattle.dns_denial.specs.Common.{same_label, common_from}

-- equal names have the whole in common
pub common_start : (one two : Labels) → length one ≡ length two → common_from one two one ≡ common_ancestor one two
unfolding common_ancestor
common_start [] two same = elim (name_eq [] two) as (λ b. cond {A = Labels} b [] [] ≡ []) [ true ↦ refl | false ↦ refl ]
common_start (label ∷ one) two same =
    let e = above_aligned (label ∷ one) two same in
    let step = λ (b : Bool). elim b as
    (λ (v : Bool). cond v (label ∷ one) (cond v (label ∷ one) (common_ancestor one two)) ≡ cond v (label ∷ one) (common_ancestor one two))
    [ true ↦ refl | false ↦ refl ] in
    ap (λ b. cond (name_eq (label ∷ one) two) (label ∷ one) (cond b (label ∷ one) (common_ancestor one two))) e
    ∙ step (name_eq (label ∷ one) two) ∙ ap (λ b. cond b (label ∷ one) (common_ancestor one two)) (sym e)

step_by : (first second : Label) (above beyond common : Labels) (b e : Bool) → length above ≡ length beyond
    → same_label first second ≡ b → name_eq above beyond ≡ e
    → common_from (first ∷ above) (second ∷ beyond) common ≡ common_from above beyond (cond b common above)
step_by first second above beyond common true true same labels rest = rw (labels, rest) refl
step_by first second above beyond common true false same labels rest =
    let differs : name_eq (first ∷ above) (second ∷ beyond) ≡ false = rw (labels, rest) refl in
    rw (labels, rest) (common_of_unequal first second above beyond same differs)
step_by first second above beyond common false true same labels rest =
    let differs : name_eq (first ∷ above) (second ∷ beyond) ≡ false = rw labels refl in
    let start : common_from above beyond above ≡ common_ancestor above beyond = common_start above beyond same in
    rw labels (common_of_unequal first second above beyond same differs ∙ sym start)
step_by first second above beyond common false false same labels rest =
    let differs : name_eq (first ∷ above) (second ∷ beyond) ≡ false = rw labels refl in
    let start : common_from above beyond above ≡ common_ancestor above beyond = common_start above beyond same in
    rw labels (common_of_unequal first second above beyond same differs ∙ sym start)

-- one label more is compared
pub common_more : (first second : Label) (above beyond common : Labels) → length above ≡ length beyond
    → common_from above beyond (cond (same_label first second) common above) ≡ common_from (first ∷ above)
    (second ∷ beyond) common
common_more first second above beyond common same =
    sym (step_by first second above beyond common (same_label first second) (name_eq above beyond) same refl refl)
