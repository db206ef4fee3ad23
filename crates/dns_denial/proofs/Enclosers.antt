-- The closest encloser of a covered name is above it, so the wildcard below that is a name too.
use Rattle.std.proofs.Common.{◌≡◌, Bool, true, false, not, ◌&&◌, ◌||◌, cond, List, [], ◌∷◌, length, Option, None, Some, refl, sym, ap, ◌∙◌, ⊎_elim, Ordering}
use Rattle.std.specs.Prelude.{nat_lt}
use Rattle.std.specs.List.{find}
use Rattle.std.specs.Ordering.{is_lt, is_le, ordering_reverse}
use Rattle.std.specs.declared.cmp.Ordering.TheVariants.{Less, Equal, Greater}
use Rattle.std.proofs.lemmas.Bool.{and_parts, and_cases, or_cases, not-false, cond_both, both_ways, false_from_ne_true}
use Rattle.dns_model.specs.Names.{Labels, name_eq, name_cmp, at_or_above, strictly_above, is_name, star, before, common_ancestor}
use Rattle.dns_model.specs.Owned.{OwnedNsec}
use Rattle.dns_model.proofs.OrderLemmas.{name_total}
use Rattle.dns_model.proofs.NamesInOrder.{above_is_first, order_if_alike}
use Rattle.dns_model.proofs.WildcardLemmas.{star_of_common}
use Rattle.dns_rules.specs.Covering.{leads_back, nsec_spans, is_nearest, counts_for, is_silent_on, unless_silent, nsec_covering}
use Rattle.dns_rules.specs.NsecVerdict.{closest_encloser}

-- ---- what a record that spans a name says of it

not_less : (o : Ordering) → is_lt (ordering_reverse o) ≡ true → is_le o ≡ false
not_less Less h = cc
not_less Equal h = cc
not_less Greater h = refl

owner_is_not_below : (name : Labels) (nsec : OwnedNsec) → nsec_spans name nsec ≡ true → at_or_above name nsec.owner ≡ false
owner_is_not_below name nsec h =
    let parts = and_parts (before nsec.owner name)
    (before name nsec.fields.next || (leads_back nsec && at_or_above nsec.fields.next name)) h in
    false_from_ne_true (at_or_above name nsec.owner)
    (λ above. both_ways (before nsec.owner name) (above_is_first name nsec.owner above) parts.0)

next_is_not : (name : Labels) (nsec : OwnedNsec) → nsec_spans name nsec ≡ true → name_eq name nsec.fields.next ≡ false
next_is_not name nsec h =
    let parts = and_parts (before nsec.owner name)
    (before name nsec.fields.next || (leads_back nsec && at_or_above nsec.fields.next name)) h in
    false_from_ne_true (name_eq name nsec.fields.next) (λ same.
    let tied : name_cmp name nsec.fields.next ≡ Equal = order_if_alike name nsec.fields.next same in
    let later : is_lt (ordering_reverse (name_cmp name nsec.owner)) ≡ true = ap is_lt
    (sym (name_total.antisymm nsec.owner name)) ∙ parts.0 in
    let back : leads_back nsec ≡ false = ap is_le (sym (name_total.congr name nsec.fields.next nsec.owner tied))
    ∙ not_less (name_cmp name nsec.owner) later in
    ⊎_elim (λ less. both_ways (before name nsec.fields.next) (ap is_lt tied) less)
    (λ both. let halves = and_parts (leads_back nsec) (at_or_above nsec.fields.next name) both in both_ways (leads_back nsec) back halves.0)
    (or_cases (before name nsec.fields.next) (leads_back nsec && at_or_above nsec.fields.next name) parts.1))

-- the wildcard below the closest encloser is a name
pub wildcard_is_name : (name : Labels) (nsec : OwnedNsec) → is_name name ≡ true → nsec_spans name nsec ≡ true
    → strictly_above name nsec.fields.next ≡ false
    → is_name (star (closest_encloser name nsec)) ≡ true
unfolding closest_encloser
wildcard_is_name name nsec good h differs =
    let apart : at_or_above name nsec.fields.next ≡ false =
    ⊎_elim (λ e. e) (λ e. absurd (both_ways (name_eq name nsec.fields.next) (next_is_not name nsec h)
    (not-false (name_eq name nsec.fields.next) e)))
    (and_cases (at_or_above name nsec.fields.next) (not (name_eq name nsec.fields.next)) differs) in
    cond_both (nat_lt (length (common_ancestor name nsec.owner)) (length (common_ancestor name nsec.fields.next)))
    (common_ancestor name nsec.fields.next) (common_ancestor name nsec.owner) (λ n. is_name (star n) ≡ true)
    (λ _. star_of_common name nsec.fields.next good apart)
    (λ _. star_of_common name nsec.owner good (owner_is_not_below name nsec h))

find_passes : {X : Type 0} (test : X → Bool) (xs : List X) (x : X) → find test xs ≡ Some x → test x ≡ true
find_passes test [] x is = cc
find_passes test (y ∷ ys) x is = find_step test y ys x (test y) refl is (find_passes test ys x)
  where
    find_step : {X : Type 0} (test : X → Bool) (y : X) (ys : List X) (x : X) (b : Bool) → test y ≡ b
        → cond b (Some y) (find test ys) ≡ Some x → (find test ys ≡ Some x → test x ≡ true) → test x ≡ true
    find_step test y ys x true holds is more = let same : y ≡ x = cc in ap test (sym same) ∙ holds
    find_step test y ys x false differs is more = more is

-- ---- the record that covers a name spans it

loud : (name : Labels) (found : Option OwnedNsec) (nsec : OwnedNsec) → unless_silent name found ≡ Some nsec
    → found ≡ Some nsec
loud name None nsec is = cc
loud name (Some one) nsec is = loud_by (is_silent_on name one) one nsec is
  where
    loud_by : (b : Bool) (one nsec : OwnedNsec) → cond b None (Some one) ≡ Some nsec → Some one ≡ Some nsec
    loud_by true one nsec is = cc
    loud_by false one nsec is = is

pub covering_spans : (name : Labels) (nsecs : List OwnedNsec) (nsec : OwnedNsec)
    → nsec_covering name nsecs ≡ Some nsec → nsec_spans name nsec ≡ true
unfolding nsec_covering
covering_spans name nsecs nsec is =
    let passed = find_passes (counts_for name nsecs) nsecs nsec
    (loud name (find (counts_for name nsecs) nsecs) nsec is) in
    let parts = and_parts (nsec_spans name nsec) (is_nearest name nsecs nsec) passed in
    parts.0
