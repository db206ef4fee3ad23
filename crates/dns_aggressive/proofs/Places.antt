-- The order of places tells them apart as equality does.
use Rattle.std.proofs.Common.{◌≡◌, Bool, true, false, ◌&&◌, ◌==◌, refl, ap, ◌∙◌}
use Rattle.std.specs.Prelude.{nat_eq}
use Rattle.std.specs.Cmp.{IsTotalOrder, nat_cmp_total, on_total, then_total, tied_then}
use Rattle.std.specs.Cmp.Lexicographic.{nat_list_cmp_total, pointwise}
use Rattle.std.specs.Ordering.{is_eq, ordering_then}
use Rattle.std.specs.declared.cmp.Ordering.{Ordering}
use Rattle.dns_model.proofs.OrderLemmas.{bytes_ties, name_ties, name_total, nat_ties}
use Rattle.dns_model.specs.Names.{name_eq}
use Rattle.dns_aggressive.specs.Records.{KeptValue}
use Rattle.dns_aggressive.specs.Lists.{Place, is_same, place_of, same_place}
use Rattle.dns_aggressive.specs.Places.{group_cmp, place_cmp, record_cmp}

pub group_total : IsTotalOrder group_cmp
group_total =
    then_total (then_total (then_total
    (on_total (λ p. p.zone) name_total) (on_total (λ p. p.rtype) nat_cmp_total))
    (on_total (λ p. p.iterations) nat_cmp_total))
    (on_total (λ p. p.salt) nat_list_cmp_total)

pub place_total : IsTotalOrder place_cmp
place_total = then_total group_total (on_total (λ p. p.owner) name_total)

pub record_total : IsTotalOrder record_cmp
record_total = on_total place_of place_total

pub both_tie : (p q : Bool) (a b : Ordering) → p ≡ is_eq a → q ≡ is_eq b → (p && q) ≡ is_eq (ordering_then a b)
both_tie p q a b h k = ap (λ e. e && q) h ∙ ap (λ e. is_eq a && e) k ∙ tied_then a b

and_true : (b : Bool) → b ≡ (b && true)
and_true true = refl
and_true false = refl

and_false : (b : Bool) → false ≡ (b && false)
and_false true = refl
and_false false = refl

owner_last : (zone owner rtype iterations salt : Bool)
    → (zone && owner && rtype && iterations && salt) ≡ (zone && rtype && iterations && salt && owner)
owner_last true true rtype iterations salt = and_true (rtype && iterations && salt)
owner_last true false rtype iterations salt = and_false (rtype && iterations && salt)
owner_last false owner rtype iterations salt = refl

pub place_ties : (a b : Place) → is_same a b ≡ is_eq (place_cmp a b)
place_ties a b =
    owner_last (name_eq a.zone b.zone) (name_eq a.owner b.owner) (a.rtype == b.rtype) (a.iterations == b.iterations)
    (pointwise nat_eq a.salt b.salt)
    ∙ both_tie _ _ _ _
    (both_tie _ _ _ _
    (both_tie _ _ _ _
    (both_tie _ _ _ _ (name_ties a.zone b.zone) (nat_ties a.rtype b.rtype))
    (nat_ties a.iterations b.iterations))
    (bytes_ties a.salt b.salt))
    (name_ties a.owner b.owner)

-- two records have one place where neither comes first
pub record_ties : (one two : KeptValue) → same_place one two ≡ is_eq (record_cmp one two)
record_ties one two = place_ties (place_of one) (place_of two)
