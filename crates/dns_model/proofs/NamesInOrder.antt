-- Names in canonical order: of two one comes first, an ancestor comes before all below it, and those lie together (RFC 4034, 6.1).
use Rattle.std.proofs.Common.{◌≡◌, true, false, [], ◌∷◌, ◌++◌, reverse, refl, sym, ap, ◌∙◌, true≢false, Ordering}
use Rattle.std.specs.Cmp.{IsTotalOrder}
use Rattle.std.specs.Cmp.Lexicographic.{slice_cmp}
use Rattle.std.specs.Ordering.{nat_cmp, is_lt, is_le, is_eq, ordering_then, ordering_reverse}
use Rattle.std.specs.declared.cmp.Ordering.TheVariants.{Less, Equal, Greater}
use Rattle.std.specs.FinMap.{slice_cmp-IsAntisymmetric, nat_cmp-IsAntisymmetric}
use Rattle.std.proofs.lemmas.Cmp.{nat_list_cmp_total, tied_itself, alike_right}
use Rattle.std.proofs.lemmas.List.{reverse-append, reverse-reverse}
use Rattle.dns_model.specs.Names.{Label, Labels, folded, name_eq, name_cmp, before, at_or_above}
use Rattle.dns_model.proofs.OrderLemmas.{name_total, name_ties}
use Rattle.dns_model.proofs.AboveLemmas.{IsBelow, below_parts, below_made}

-- ---- one before the other

pub lt_from : (r : Ordering) → is_lt r ≡ true → r ≡ Less
lt_from Less h = refl
lt_from Equal h = absurd (true≢false (sym h))
lt_from Greater h = absurd (true≢false (sym h))

pub le_from_Less : (r : Ordering) → r ≡ Less → is_le r ≡ true
le_from_Less r h = ap is_le h

reversed_le : (r s : Ordering) → s ≡ ordering_reverse r → is_lt r ≡ false → is_le s ≡ true
reversed_le Less s e h = absurd (true≢false h)
reversed_le Equal s e h = ap is_le e
reversed_le Greater s e h = ap is_le e

-- a name that doesn't come before another comes after it, or is it
pub le_from_not_lt : (one two : Labels) → is_lt (name_cmp one two) ≡ false → is_le (name_cmp two one) ≡ true
le_from_not_lt one two h = reversed_le (name_cmp one two) (name_cmp two one) (name_total.antisymm two one) h

reversed_lt : (r s : Ordering) → s ≡ ordering_reverse r → is_le r ≡ true → is_lt s ≡ false
reversed_lt Less s e h = ap is_lt e
reversed_lt Equal s e h = ap is_lt e
reversed_lt Greater s e h = absurd (true≢false (sym h))

not_lt_from_le : (one two : Labels) → is_le (name_cmp one two) ≡ true → is_lt (name_cmp two one) ≡ false
not_lt_from_le one two h = reversed_lt (name_cmp one two) (name_cmp two one) (name_total.antisymm two one) h

lt_le_trans : (x y z : Labels) → name_cmp x y ≡ Less → is_le (name_cmp y z) ≡ true → name_cmp x z ≡ Less
lt_le_trans x y z lt le = by (name_cmp y z) refl
  where
    by : (r : Ordering) → name_cmp y z ≡ r → name_cmp x z ≡ Less
    by Less e = name_total.trans x y z lt e
    by Equal e = sym (alike_right name_total y z x e) ∙ lt
    by Greater e = absurd (true≢false (sym le ∙ ap is_le e))

pub le_trans : (x y z : Labels) → is_le (name_cmp x y) ≡ true → is_le (name_cmp y z) ≡ true → is_le (name_cmp x z) ≡ true
le_trans x y z p q = by (name_cmp x y) refl
  where
    by : (r : Ordering) → name_cmp x y ≡ r → is_le (name_cmp x z) ≡ true
    by Less e = le_from_Less (name_cmp x z) (lt_le_trans x y z e q)
    by Equal e = ap is_le (name_total.congr x y z e) ∙ q
    by Greater e = absurd (true≢false (sym p ∙ ap is_le e))

-- equal names have one place
pub order_if_alike : (one two : Labels) → name_eq one two ≡ true → name_cmp one two ≡ Equal
order_if_alike one two same = tied (name_cmp one two) (sym (name_ties one two) ∙ same)
  where
    tied : (r : Ordering) → is_eq r ≡ true → r ≡ Equal
    tied Less h = absurd (true≢false (sym h))
    tied Equal h = refl
    tied Greater h = absurd (true≢false (sym h))

pub le_if_alike : (one two : Labels) → name_eq one two ≡ true → is_le (name_cmp one two) ≡ true
le_if_alike one two same = ap is_le (order_if_alike one two same)

-- a name doesn't come before one that comes before it, or is it
pub not_both : (one two : Labels) → name_cmp one two ≡ Less → is_le (name_cmp two one) ≡ true → ⊥
not_both one two lt le = true≢false (sym (ap is_lt lt) ∙ not_lt_from_le two one le)

pub less_back : (o : Ordering) → is_lt o ≡ true → is_lt (ordering_reverse o) ≡ false
less_back Less h = refl
less_back Equal h = refl
less_back Greater h = cc

pub less_past : {K : Type 0} (R : K → K → Ordering) → IsTotalOrder R → (x y z : K) (o : Ordering) → R x y ≡ o → is_lt o ≡ false
    → is_lt (R x z) ≡ true → is_lt (R y z) ≡ true
less_past R t x y z Less is differs holds = cc
less_past R t x y z Equal is differs holds = sym (ap is_lt (t.congr x y z is)) ∙ holds
less_past R t x y z Greater is differs holds =
    let back : R y x ≡ Less = t.antisymm y x ∙ ap ordering_reverse is in
    ap is_lt (t.trans y x z back (lt_from (R x z) holds))

pub before_itself : (x : Labels) → before x x ≡ false
before_itself x = ap is_lt (tied_itself name_total x)

pub before_back : (x y : Labels) → before x y ≡ true → before y x ≡ false
before_back x y h = ap is_lt (name_total.antisymm y x) ∙ less_back (name_cmp x y) h

-- what isn't after x comes before all that x comes before
pub before_past : (x y z : Labels) → before x y ≡ false → before x z ≡ true → before y z ≡ true
before_past x y z differs holds = less_past name_cmp name_total x y z (name_cmp x y) refl differs holds

-- ---- names below a name lie together

front_le : (front rest : Labels) → is_le (slice_cmp (slice_cmp nat_cmp) front (front ++ rest)) ≡ true
front_le [] [] = refl
front_le [] (label ∷ rest) = refl
front_le (label ∷ front) rest = rw (tied_itself nat_list_cmp_total label) (front_le front rest)

-- the front of a list
record StartsWith (front whole : Labels) : Type 0 where
  rest : Labels
  is : whole ≡ front ++ rest

-- what two orders that both end in `at or before` say of their first parts
record AreTied (first later last : Ordering) : Type 0 where
  first_is : first ≡ Equal
  later_is : is_le later ≡ true
  last_is : is_le last ≡ true

tied : (first back later last : Ordering) → back ≡ ordering_reverse first → is_le (ordering_then first later) ≡ true
    → is_le (ordering_then back last) ≡ true → AreTied first later last
tied Less back later last e g h = absurd (true≢false (sym h ∙ ap (λ (o : Ordering). is_le (ordering_then o last)) e))
tied Equal back later last e g h =
    record { first_is = refl; later_is = g; last_is = sym (ap (λ (o : Ordering). is_le (ordering_then o last)) e) ∙ h }
tied Greater back later last e g h = absurd (true≢false (sym g))

together : (front rest middle : Labels) → is_le (slice_cmp (slice_cmp nat_cmp) front middle) ≡ true
    → is_le (slice_cmp (slice_cmp nat_cmp) middle (front ++ rest)) ≡ true → StartsWith front middle
together [] rest middle g h = record { rest = middle; is = refl }
together (label ∷ front) rest [] g h = absurd (true≢false (sym g))
together (label ∷ front) rest (other ∷ middle) g h =
    let t = tied (slice_cmp nat_cmp label other) (slice_cmp nat_cmp other label) (slice_cmp (slice_cmp nat_cmp) front middle)
    (slice_cmp (slice_cmp nat_cmp) middle (front ++ rest)) (nat_list_cmp_total.antisymm other label) g h in
    let same : label ≡ other = slice_cmp-IsAntisymmetric nat_cmp-IsAntisymmetric label other t.first_is in
    let later = together front rest middle t.later_is t.last_is in
    record { rest = later.rest; is = ap (λ (first : Label). first ∷ middle) (sym same) ∙ ap (λ (more : Labels). label ∷ more) later.is }

from_the_root : (above name : Labels) (i : IsBelow above name) → reverse (folded name) ≡ reverse (folded above) ++ reverse i.front
from_the_root above name i = ap reverse i.whole ∙ reverse-append i.front (folded above)

-- a name comes before those below it
pub above_comes_first : (above name : Labels) → at_or_above above name ≡ true → is_le (name_cmp above name) ≡ true
above_comes_first above name h =
    let i = below_parts above name h in
    rw (from_the_root above name i) (front_le (reverse (folded above)) (reverse i.front))

-- a name between another one and a name below that is below it too
pub between_is_below : (above middle name : Labels) → at_or_above above name ≡ true → is_le (name_cmp above middle) ≡ true
    → is_le (name_cmp middle name) ≡ true → at_or_above above middle ≡ true
between_is_below above middle name h g k =
    let i = below_parts above name h in
    let s = together (reverse (folded above)) (reverse i.front) (reverse (folded middle)) g (rw (from_the_root above name i) at k) in
    below_made above middle (record {
      front = reverse s.rest;
      whole = sym (reverse-reverse (folded middle)) ∙ ap reverse s.is ∙ reverse-append (reverse (folded above)) s.rest
          ∙ ap (λ (back : Labels). reverse s.rest ++ back) (reverse-reverse (folded above));
    })

-- a name at or above another comes no later
pub above_is_first : (a b : Labels) → at_or_above a b ≡ true → before b a ≡ false
above_is_first a b h = not_lt_from_le a b (above_comes_first a b h)
