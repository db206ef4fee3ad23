-- The common ancestor of a name and another, sought upwards.
use Rattle.std.proofs.Common.{◌≡◌, true, false, [], ◌∷◌, refl, sym, ap, ◌∙◌}
use Rattle.dns_model.specs.Names.{Label, Labels, at_or_above, common_ancestor}

here : (label : Label) (above other : Labels) → at_or_above (label ∷ above) other ≡ true
    → common_ancestor (label ∷ above) other ≡ label ∷ above
unfolding common_ancestor
here label above other h = rw h refl

-- the name itself, where it is at or above the other
pub ancestor_here : (name : Labels) (label : Label) (above other : Labels) → name ≡ label ∷ above
    → at_or_above name other ≡ true → common_ancestor name other ≡ name
ancestor_here name label above other split h =
    ap (λ (n : Labels). common_ancestor n other) split
    ∙ here label above other (ap (λ (n : Labels). at_or_above n other) (sym split) ∙ h) ∙ sym split

further : (label : Label) (above other : Labels) → at_or_above (label ∷ above) other ≡ false
    → common_ancestor (label ∷ above) other ≡ common_ancestor above other
unfolding common_ancestor
further label above other h = rw h refl

-- that of the name right above, where it isn't
pub ancestor_above : (name : Labels) (label : Label) (above other : Labels) → name ≡ label ∷ above
    → at_or_above name other ≡ false → common_ancestor name other ≡ common_ancestor above other
ancestor_above name label above other split h =
    ap (λ (n : Labels). common_ancestor n other) split
    ∙ further label above other (ap (λ (n : Labels). at_or_above n other) (sym split) ∙ h)

root : (other : Labels) → common_ancestor [] other ≡ []
unfolding common_ancestor
root other = refl

-- the root, which is above all
pub ancestor_of_root : (name other : Labels) → name ≡ [] → common_ancestor name other ≡ name
ancestor_of_root name other none = ap (λ (n : Labels). common_ancestor n other) none ∙ root other ∙ sym none
