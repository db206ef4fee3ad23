-- The common ancestor of two names: it is above both and below all that are, and only their last labels matter.
use Rattle.std.proofs.Common.{◌≡◌, ℕ, zero, suc, ◌+◌, ◌-◌, ◌≤◌, Bool, true, false, cond, [], ◌∷◌, ◌++◌, length, drop, refl, sym, ap, ◌∙◌, arith, true≢false, ◌⊎◌, inl, inr, length-drop, ⊎_elim}
use Rattle.std.specs.Prelude.{nat_lt}
use Rattle.std.proofs.lemmas.Bool.{cases_lt}
use Rattle.std.proofs.lemmas.Bool.Decides.{nat_tests}
use Rattle.std.proofs.lemmas.List.{drop-drop}
use Rattle.dns_model.specs.Names.{Label, Labels, name_eq, at_or_above, common_ancestor, longer}
use Rattle.dns_model.proofs.LabelSteps.{at_or_above-shorter, at_or_above-longer}
use Rattle.dns_model.proofs.AboveLemmas.{above_alike, above_itself, root_above, above_trans, above_tail, above_one_more, above_nested, Ends}

-- ---- it is above both, and below all that are

common_ends_by : (label : Label) (name other : Labels) (b : Bool) → Ends (common_ancestor name other) name
    → Ends (cond b (label ∷ name) (common_ancestor name other)) (label ∷ name)
common_ends_by label name other true e = record { front = []; whole = refl }
common_ends_by label name other false e = record { front = label ∷ e.front; whole = ap (λ (rest : Labels). label ∷ rest) e.whole }

pub common_ends : (name other : Labels) → Ends (common_ancestor name other) name
unfolding common_ancestor
common_ends [] other = record { front = []; whole = refl }
common_ends (label ∷ name) other = common_ends_by label name other (at_or_above (label ∷ name) other) (common_ends name other)

common_above_by : (label : Label) (name other : Labels) (b : Bool) → at_or_above (label ∷ name) other ≡ b
    → at_or_above (common_ancestor name other) other ≡ true → at_or_above (cond b (label ∷ name) (common_ancestor name other)) other ≡ true
common_above_by label name other true e h = e
common_above_by label name other false e h = h

pub common_above : (name other : Labels) → at_or_above (common_ancestor name other) other ≡ true
unfolding common_ancestor
common_above [] other = root_above other
common_above (label ∷ name) other = common_above_by label name other (at_or_above (label ∷ name) other) refl (common_above name other)

common_below_by : (above : Labels) (label : Label) (name other : Labels) (b : Bool) → at_or_above (label ∷ name) other ≡ b
    → at_or_above above (label ∷ name) ≡ true → at_or_above above other ≡ true
    → (at_or_above above name ≡ true → at_or_above above (common_ancestor name other) ≡ true)
    → at_or_above above (cond b (label ∷ name) (common_ancestor name other)) ≡ true
common_below_by above label name other true e h k more = h
common_below_by above label name other false e h k more = by (above_tail above label name h)
  where
    by : (name_eq above (label ∷ name) ≡ true) ⊎ (at_or_above above name ≡ true) → at_or_above above (common_ancestor name other) ≡ true
    by (inl same) = absurd (true≢false (sym (above_alike above (label ∷ name) other same k) ∙ e))
    by (inr lower) = more lower

-- a name above both is above their common ancestor
pub common_below : (above name other : Labels) → at_or_above above name ≡ true → at_or_above above other ≡ true
    → at_or_above above (common_ancestor name other) ≡ true
unfolding common_ancestor
common_below above [] other h k = h
common_below above (label ∷ name) other h k =
    common_below_by above label name other (at_or_above (label ∷ name) other) refl h k (λ lower. common_below above name other lower k)

above_front : (front last : Labels) → at_or_above last (front ++ last) ≡ true
above_front [] last = above_itself last
above_front (label ∷ front) last = above_one_more last label (front ++ last) (above_front front last)

pub ends_above : (last name : Labels) → Ends last name → at_or_above last name ≡ true
ends_above last name e = ap (at_or_above last) e.whole ∙ above_front e.front last

-- what is above one of two names, both above a name, is above the longer one
pub longer_below : (above one two name : Labels) → at_or_above one name ≡ true → at_or_above two name ≡ true
    → (at_or_above above one ≡ true) ⊎ (at_or_above above two ≡ true) → at_or_above above (longer one two) ≡ true
longer_below above one two name h k either = by (nat_lt (length one) (length two)) refl either
  where
    by : (b : Bool) → nat_lt (length one) (length two) ≡ b → (at_or_above above one ≡ true) ⊎ (at_or_above above two ≡ true)
        → at_or_above above (cond b two one) ≡ true
    by true e (inl first) =
        let short : length one ≤ length two = grind (arith, nat_tests, e) in
        above_trans above one two first (above_nested one two name h k short)
    by true e (inr second) = second
    by false e (inl first) = first
    by false e (inr second) =
        let short : length two ≤ length one = grind (arith, nat_tests, e) in
        above_trans above two one second (above_nested two one name k h short)

-- ---- only the last labels matter

drop_one : (k : ℕ) (label : Label) (name other : Labels) → length other + suc k ≤ length (label ∷ name)
    → common_ancestor (label ∷ name) other ≡ common_ancestor name other
unfolding common_ancestor
drop_one k label name other long =
    ap (λ b. cond b (label ∷ name) (common_ancestor name other)) (sym (at_or_above-longer (label ∷ name) other (omega (arith, long))))

drop_ours : (k : ℕ) (name other : Labels) → length other + k ≤ length name
    → common_ancestor name other ≡ common_ancestor (drop k name) other
drop_ours zero name other long = refl
drop_ours (suc k) [] other long = absurd (omega (arith, long))
drop_ours (suc k) (label ∷ name) other long = drop_one k label name other long ∙ drop_ours k name other (omega (arith, long))

above_dropped : (k : ℕ) (zone name : Labels) → length zone + k ≤ length name → at_or_above zone name ≡ at_or_above zone (drop k name)
above_dropped k zone name long =
    let rest : length (drop k name) ≡ length name - k = length-drop k name in
    let e : length name - length zone ≡ k + (length (drop k name) - length zone) = omega (arith, rest, long) in
    at_or_above-shorter zone name (omega (arith, long)) ∙ ap (λ n. name_eq zone (drop n name)) e
    ∙ ap (name_eq zone) (sym (drop-drop (length (drop k name) - length zone) k name))
    ∙ sym (at_or_above-shorter zone (drop k name) (omega (arith, rest, long)))

drop_theirs : (k : ℕ) (name other : Labels) → length name + k ≤ length other
    → common_ancestor name other ≡ common_ancestor name (drop k other)
unfolding common_ancestor
drop_theirs k [] other long = refl
drop_theirs k (label ∷ name) other long =
    ap (λ b. cond b (label ∷ name) (common_ancestor name other)) (above_dropped k (label ∷ name) other long)
    ∙ ap (cond (at_or_above (label ∷ name) (drop k other)) (label ∷ name)) (drop_theirs k name other (omega (arith, long)))

-- the common ancestor is that of as many last labels of both
pub aligned : (name other : Labels)
    → common_ancestor (drop (length name - length other) name) (drop (length other - length name) other) ≡ common_ancestor name other
aligned name other =
    ⊎_elim
    (λ less. let none : length name - length other ≡ 0 = omega (arith, less) in
    ap (λ n. common_ancestor (drop n name) (drop (length other - length name) other)) none
    ∙ sym (drop_theirs (length other - length name) name other (omega (arith, less))))
    (λ more. let none : length other - length name ≡ 0 = omega (arith, more) in
    ap (λ n. common_ancestor (drop (length name - length other) name) (drop n other)) none
    ∙ sym (drop_ours (length name - length other) name other (omega (arith, more))))
    (cases_lt (length name) (length other))

-- names with as many labels
pub above_aligned : (one two : Labels) → length one ≡ length two → at_or_above one two ≡ name_eq one two
above_aligned one two same =
    let none : length two - length one ≡ 0 = omega (arith, same) in
    at_or_above-shorter one two (omega (arith, same)) ∙ ap (λ n. name_eq one (drop n two)) none

-- unequal names have in common what those above them have
pub common_of_unequal : (first second : Label) (above beyond : Labels) → length above ≡ length beyond
    → name_eq (first ∷ above) (second ∷ beyond) ≡ false
    → common_ancestor (first ∷ above) (second ∷ beyond) ≡ common_ancestor above beyond
unfolding common_ancestor
common_of_unequal first second above beyond same differs =
    ap (λ b. cond b (first ∷ above) (common_ancestor above (second ∷ beyond)))
    (above_aligned (first ∷ above) (second ∷ beyond) (omega (arith, same)) ∙ differs)
    ∙ drop_theirs 1 above (second ∷ beyond) (omega (arith, same))
