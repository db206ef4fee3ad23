-- What a search in the order in which records expire tells of those of a zone or of a group.
use Rattle.std.proofs.Common.{◌≡◌, ℕ, zero, suc, ◌+◌, ◌-◌, ◌^◌, ◌<◌, ◌≤◌, min, Bool, true, false, ◌&&◌, ◌==◌, List, [], ◌∷◌, length, drop, get_or, Option, None, Some, refl, sym, ap, ◌∙◌, subst, ⊎_elim, arith}
use Rattle.std.specs.Prelude.{nat_eq, nat_lt}
use Rattle.std.specs.Cmp.{IsTotalOrder, alike_right, nat_cmp_total, on_total, ranks, then_total, tied_back, upto}
use Rattle.std.specs.Cmp.Lexicographic.{pointwise}
use Rattle.std.specs.List.{Contains}
use Rattle.std.specs.Ordering.{MatchOrdering, is_eq, is_le, nat_cmp, ordering_then}
use Rattle.std.specs.declared.cmp.Ordering.{Ordering}
use Rattle.std.specs.declared.cmp.Ordering.TheVariants.{Less, Equal, Greater}
use Rattle.std.proofs.lemmas.Bool.{both_ways, cases_lt, false_from_ne_true}
use Rattle.std.proofs.lemmas.List.{get_or_default, get_or-drop, length-drop}
use Rattle.std.proofs.lemmas.List.Folds.{Any-from_list_any}
use borrow.Author.Tests.{lt-ltb, ltb-true}
use Rattle.dns_model.specs.Names.{Labels, name_cmp, name_eq}
use Rattle.dns_model.proofs.NamesInOrder.{le_trans}
use Rattle.dns_model.proofs.OrderLemmas.{bytes_ties, name_ties, name_total, nat_ties}
use Rattle.dns_rules.specs.Nsec3Verdict.{Parameters}
use Rattle.dns_aggressive.specs.declared.kept.KeptRecord.{KeptRecord}
use Rattle.dns_aggressive.specs.declared.kept.KeptRecord.TheVariants.{Nsec, Nsec3}
use Rattle.dns_aggressive.specs.declared.sorting.Sorting.TheVariants.{ByZone, ByGroup}
use Rattle.dns_aggressive.specs.Records.{KeptValue, is_live, way_of}
use Rattle.dns_aggressive.specs.Lists.{Place, place_in, place_of}
use Rattle.dns_aggressive.specs.Places.{group_cmp}
use Rattle.dns_aggressive.specs.Denials.{group, has_live, is_in_group, is_live_in, is_of_way, seconds_left}
use Rattle.dns_aggressive.specs.Orders.{at, nowhere, nth, nth_of, IsFront, IsParted}
use Rattle.dns_aggressive.specs.Expiring.{ExpiryKey, expiry_cmp, group_at, group_in, left_if, moment_cmp, AreSorted, HasAll, IsOrder}
use Rattle.dns_aggressive.proofs.Agreeing.{any_from}
use Rattle.dns_aggressive.proofs.Expiring.{le_from, not_gt, nth_there}
use Rattle.dns_aggressive.proofs.Places.{both_tie, group_total}
use Rattle.dns_aggressive.proofs.ZoneRuns.{filter_from, filter_into}

-- ---- tests

left_true : (a b : Bool) → (a && b) ≡ true → a ≡ true
left_true true b h = refl
left_true false b h = cc

right_true : (a b : Bool) → (a && b) ≡ true → b ≡ true
right_true true b h = h
right_true false b h = cc

both_true : (a b : Bool) → a ≡ true → b ≡ true → (a && b) ≡ true
both_true true b h k = k
both_true false b h k = cc

same_bool : (a b : Bool) → (a ≡ true → b ≡ true) → (b ≡ true → a ≡ true) → a ≡ b
same_bool true b there back = sym (there refl)
same_bool false true there back = back refl
same_bool false false there back = refl

equal_from : (o : Ordering) → is_eq o ≡ true → o ≡ Equal
equal_from Less h = cc
equal_from Equal h = refl
equal_from Greater h = cc

-- ---- numbers

up_to_by : (x y : ℕ) (o : Ordering) → MatchOrdering o (x < y) (x ≡ y) (y < x) → is_le o ≡ true → x ≤ y
up_to_by x y Less m h = omega (arith, m)
up_to_by x y Equal m h = omega (arith, m)
up_to_by x y Greater m h = cc

up_to : (x y : ℕ) → is_le (nat_cmp x y) ≡ true → x ≤ y
up_to x y h = up_to_by x y (nat_cmp x y) (ranks x y) h

above_by : (x y : ℕ) (o : Ordering) → MatchOrdering o (x < y) (x ≡ y) (y < x) → is_le o ≡ false → y < x
above_by x y Less m h = cc
above_by x y Equal m h = cc
above_by x y Greater m h = m

above : (x y : ℕ) → is_le (nat_cmp x y) ≡ false → y < x
above x y h = above_by x y (nat_cmp x y) (ranks x y) h

not_up_to : (x y : ℕ) → y < x → is_le (nat_cmp x y) ≡ false
not_up_to x y lt = false_from_ne_true (is_le (nat_cmp x y)) (λ h. let le = up_to x y h in absurd (omega (arith, lt, le)))

-- ---- two orders one after the other

then_equal : (o p : Ordering) → o ≡ Equal → ordering_then o p ≡ p
then_equal Less p h = cc
then_equal Equal p h = refl
then_equal Greater p h = cc

pub first_le : (o p : Ordering) → is_le (ordering_then o p) ≡ true → is_le o ≡ true
first_le Less p h = refl
first_le Equal p h = refl
first_le Greater p h = h

-- of three names, where the first and the last are alike, the one between is too
between_by : (x y z : Labels) (o p : Ordering) → name_cmp x y ≡ o → name_cmp y z ≡ p → is_le o ≡ true → is_le p ≡ true
    → name_cmp x z ≡ Equal → name_cmp x y ≡ Equal
between_by x y z Equal p h k le le_ same = h
between_by x y z Greater p h k le le_ same = cc
between_by x y z Less Less h k le le_ same = let lt : name_cmp x z ≡ Less = name_total.trans x y z h k in cc
between_by x y z Less Equal h k le le_ same = alike_right name_total y z x k ∙ same
between_by x y z Less Greater h k le le_ same = cc

pub name_between : (x y z : Labels) → is_le (name_cmp x y) ≡ true → is_le (name_cmp y z) ≡ true → name_cmp x z ≡ Equal
    → name_cmp x y ≡ Equal
name_between x y z h k same = between_by x y z (name_cmp x y) (name_cmp y z) refl refl h k same

-- ---- the records that are left

in_list : (kept : List KeptValue) (gone position : ℕ) → gone ≤ position → position < length kept
    → Contains (drop gone kept) (at kept position)
in_list kept gone position after within =
    let back : gone + (position - gone) ≡ position = omega (arith, after) in (
      position - gone,
      omega (arith, after, within, length-drop gone kept),
      get_or-drop gone kept (position - gone) (at kept position)
          ∙ ap (λ (n : ℕ). get_or kept n (at kept position)) back
          ∙ get_or_default kept position (at kept position) nowhere within,
    )

pub in_list_within : (kept : List KeptValue) (gone : ℕ) (x : KeptValue) (t : Contains (drop gone kept) x)
    → gone + t.0 < length kept
in_list_within kept gone x t = let lt = t.1 in omega (arith, lt, length-drop gone kept)

pub in_list_at : (kept : List KeptValue) (gone : ℕ) (x : KeptValue) (t : Contains (drop gone kept) x)
    → at kept (gone + t.0) ≡ x
in_list_at kept gone x t =
    get_or_default kept (gone + t.0) nowhere x (in_list_within kept gone x t) ∙ sym (get_or-drop gone kept t.0 x) ∙ t.2

-- the number of a record in an order of all
pub record IsAt (kept : List KeptValue) (order : List ℕ) (x : KeptValue) : Type 0 where
  pub number : ℕ
  pub within : number < length order
  pub is : nth_of kept order number ≡ x

number_of : (kept : List KeptValue) (order : List ℕ) (gone : ℕ) (x : KeptValue) → HasAll gone (length kept) order
    → Contains (drop gone kept) x → IsAt kept order x
number_of kept order gone x all t =
    let there = all.there (gone + t.0) (omega arith) (in_list_within kept gone x t) in
    record {
      number = there.0;
      within = there.1;
      is = ap (at kept) (nth_there order (gone + t.0) there) ∙ in_list_at kept gone x t;
    }

listed : (kept : List KeptValue) (order : List ℕ) (gone i : ℕ) (cmp : KeptValue → KeptValue → Ordering)
    → HasAll gone (length kept) order → IsOrder cmp kept (length kept) order → i < length order
    → Contains (drop gone kept) (nth_of kept order i)
listed kept order gone i cmp all h within =
    in_list kept gone (nth order i) (all.later i within) (h.inside.each i within)

-- ---- whether a zone has a live record

pub front_of_zones : (kept : List KeptValue) (order : List ℕ) (zone : Labels)
    → AreSorted (expiry_cmp ByZone) kept order → IsFront (λ k. is_le (name_cmp k.zone zone)) kept order
front_of_zones kept order zone h = record {
  each = λ i j le within pass.
      ⊎_elim (λ (lt : i < j).
      le_trans (nth_of kept order i).zone (nth_of kept order j).zone zone
      (first_le (name_cmp (nth_of kept order i).zone (nth_of kept order j).zone)
      (nat_cmp (nth_of kept order i).expires (nth_of kept order j).expires) (h.each i j lt within)) pass)
      (λ (ge : j ≤ i).
      let same : i ≡ j = omega (arith, le, ge) in
      ap (λ (n : ℕ). is_le (name_cmp (nth_of kept order n).zone zone)) same ∙ pass)
      (cases_lt i j);
}

-- groups and moments
moment_total : IsTotalOrder (λ (one two : Place × ℕ). ordering_then (group_cmp one.0 two.0) (nat_cmp one.1 two.1))
moment_total = then_total (on_total (λ (p : Place × ℕ). p.0) group_total) (on_total (λ (p : Place × ℕ). p.1) nat_cmp_total)

pub front_of_moment : (kept : List KeptValue) (order : List ℕ) (key : ExpiryKey)
    → AreSorted (expiry_cmp ByGroup) kept order → IsFront (λ k. is_le (moment_cmp k key)) kept order
front_of_moment kept order key h = record {
  each = λ i j le within pass.
      ⊎_elim (λ (lt : i < j).
      le_from (moment_cmp (nth_of kept order i) key)
      (upto moment_total (place_of (nth_of kept order i), (nth_of kept order i).expires)
      (place_of (nth_of kept order j), (nth_of kept order j).expires) (group_in key, key.4)
      (not_gt (expiry_cmp ByGroup (nth_of kept order i) (nth_of kept order j)) (h.each i j lt within))
      (not_gt (moment_cmp (nth_of kept order j) key) pass)))
      (λ (ge : j ≤ i).
      let same : i ≡ j = omega (arith, le, ge) in
      ap (λ (n : ℕ). is_le (moment_cmp (nth_of kept order n) key)) same ∙ pass)
      (cases_lt i j);
}

pub live_none : (kept : List KeptValue) (order : List ℕ) (gone now : ℕ) (zone : Labels)
    → HasAll gone (length kept) order
    → IsParted (λ k. is_le (name_cmp k.zone zone)) kept order 0 0 → false ≡ has_live now (drop gone kept) zone
live_none kept order gone now zone all parted =
    sym (false_from_ne_true (has_live now (drop gone kept) zone) (λ any.
    let found = Any-from_list_any (is_live_in now zone) (drop gone kept) any in
    let x : KeptValue = found.1 in
    let a = number_of kept order gone found.1 all (found.0, found.2, found.3) in
    let zone_is = right_true (is_live now found.1) (name_eq (found.1).zone zone) found.4 in
    let tie = equal_from (name_cmp (found.1).zone zone) (sym (name_ties (found.1).zone zone) ∙ zone_is) in
    both_ways (is_le (name_cmp (nth_of kept order a.number).zone zone)) (parted.back a.number (omega arith) a.within)
    (ap (λ k. is_le (name_cmp k.zone zone)) a.is ∙ ap is_le tie)))

live_before : (now one two : ℕ) → one ≤ two → nat_lt now one ≡ true → nat_lt now two ≡ true
live_before now one two le live = let lt = ltb-true now one live in lt-ltb now two (omega (arith, lt, le))

pub live_last : (kept : List KeptValue) (order : List ℕ) (gone now n : ℕ) (zone : Labels) (last : KeptValue)
    → HasAll gone (length kept) order → IsOrder (expiry_cmp ByZone) kept (length kept) order
    → IsParted (λ k. is_le (name_cmp k.zone zone)) kept order (n + 1) (n + 1) → nth_of kept order n ≡ last
    → (is_live now last && name_eq last.zone zone) ≡ has_live now (drop gone kept) zone
live_last kept order gone now n zone last all h parted is =
    let within : n + 1 ≤ length order = parted.within in
    let lt : n < length order = omega (arith, within) in
    same_bool (is_live now last && name_eq last.zone zone) (has_live now (drop gone kept) zone)
    (λ pass.
    any_from (is_live_in now zone) (drop gone kept) last
    (subst (λ (k : KeptValue). Contains (drop gone kept) k) is
    (listed kept order gone n (expiry_cmp ByZone) all h lt)) pass)
    (λ any.
    let found = Any-from_list_any (is_live_in now zone) (drop gone kept) any in
    let a = number_of kept order gone found.1 all (found.0, found.2, found.3) in
    let live = left_true (is_live now found.1) (name_eq (found.1).zone zone) found.4 in
    let zone_is = right_true (is_live now found.1) (name_eq (found.1).zone zone) found.4 in
    let tie = equal_from (name_cmp (found.1).zone zone) (sym (name_ties (found.1).zone zone) ∙ zone_is) in
    let front : is_le (name_cmp last.zone zone) ≡ true =
    ap (λ k. is_le (name_cmp k.zone zone)) (sym is) ∙ parted.front n (omega arith) in
    let below : a.number < n + 1 = ⊎_elim (λ (less : a.number < n + 1). less)
    (λ (ge : n + 1 ≤ a.number). absurd (both_ways (is_le (name_cmp (nth_of kept order a.number).zone zone))
    (parted.back a.number ge a.within) (ap (λ k. is_le (name_cmp k.zone zone)) a.is ∙ ap is_le tie)))
    (cases_lt a.number (n + 1)) in
    ⊎_elim (λ (less : a.number < n).
    let le : is_le (expiry_cmp ByZone found.1 last) ≡ true =
    ap (λ k. is_le (expiry_cmp ByZone k last)) (sym a.is)
    ∙ ap (λ k. is_le (expiry_cmp ByZone (nth_of kept order a.number) k)) (sym is)
    ∙ h.sorted.each a.number n less lt in
    let zones : name_cmp (found.1).zone last.zone ≡ Equal =
    name_between (found.1).zone last.zone zone
    (first_le (name_cmp (found.1).zone last.zone) (nat_cmp (found.1).expires last.expires) le) front tie in
    let later : (found.1).expires ≤ last.expires =
    up_to (found.1).expires last.expires
    (sym (ap is_le (then_equal (name_cmp (found.1).zone last.zone) (nat_cmp (found.1).expires last.expires) zones)) ∙ le) in
    both_true (is_live now last) (name_eq last.zone zone) (live_before now (found.1).expires last.expires later live)
    (name_ties last.zone zone
    ∙ ap is_eq (sym (name_total.congr (found.1).zone last.zone zone zones) ∙ tie)))
    (λ (ge : n ≤ a.number).
    let same : a.number ≡ n = omega (arith, ge, below) in
    let here : found.1 ≡ last = sym a.is ∙ ap (nth_of kept order) same ∙ is in
    ap (is_live_in now zone) (sym here) ∙ found.4)
    (cases_lt a.number n))

-- ---- groups

group_tie : (a b : Place)
    → (name_eq a.zone b.zone && (a.rtype == b.rtype) && (a.iterations == b.iterations) && pointwise nat_eq a.salt b.salt)
    ≡ is_eq (group_cmp a b)
group_tie a b =
    both_tie _ _ _ _
    (both_tie _ _ _ _
    (both_tie _ _ _ _ (name_ties a.zone b.zone) (nat_ties a.rtype b.rtype))
    (nat_ties a.iterations b.iterations))
    (bytes_ties a.salt b.salt)

all_alike : (n : Bool) → (n && true) ≡ (n && true && true && true)
all_alike true = refl
all_alike false = refl

none_alike : (n b c : Bool) → (n && false) ≡ (n && false && b && c)
none_alike true b c = refl
none_alike false b c = refl

other_way : (n a b : Bool) → (n && (a && b)) ≡ (n && true && b && a)
other_way true true true = refl
other_way true true false = refl
other_way true false true = refl
other_way true false false = refl
other_way false a b = refl

-- a record is of a group where neither comes first
group_ties : (zone_of : Labels) (item : KeptRecord) (zone : Labels) (way : Option Parameters)
    → (name_eq zone_of zone && is_of_way way (way_of item)) ≡ is_eq (group_cmp (place_in zone_of item) (group_at zone way))
group_ties z (Nsec n) zone None = all_alike (name_eq z zone) ∙ group_tie (place_in z (Nsec n)) (group_at zone None)
group_ties z (Nsec n) zone (Some way) =
    none_alike (name_eq z zone) (0 == way.iterations) (pointwise nat_eq [] way.salt)
    ∙ group_tie (place_in z (Nsec n)) (group_at zone (Some way))
group_ties z (Nsec3 n) zone None =
    none_alike (name_eq z zone) (n.fields.iterations == 0) (pointwise nat_eq n.fields.salt [])
    ∙ group_tie (place_in z (Nsec3 n)) (group_at zone None)
group_ties z (Nsec3 n) zone (Some way) =
    other_way (name_eq z zone) (pointwise nat_eq n.fields.salt way.salt) (n.fields.iterations == way.iterations)
    ∙ group_tie (place_in z (Nsec3 n)) (group_at zone (Some way))

abbrev counts : Labels → Option Parameters → KeptValue → Bool
counts zone way k = name_eq k.zone zone && is_of_way way (way_of k.item)

tied_group : (k : KeptValue) (zone : Labels) (way : Option Parameters) → counts zone way k ≡ true
    → group_cmp (place_of k) (group_at zone way) ≡ Equal
tied_group k zone way h = equal_from (group_cmp (place_of k) (group_at zone way)) (sym (group_ties k.zone k.item zone way) ∙ h)

group_counts : (k : KeptValue) (zone : Labels) (way : Option Parameters)
    → group_cmp (place_of k) (group_at zone way) ≡ Equal → counts zone way k ≡ true
group_counts k zone way h = group_ties k.zone k.item zone way ∙ ap is_eq h

-- ---- seconds

seconds_most : (now : ℕ) (xs : List KeptValue) → seconds_left now xs ≤ 2 ^ 32 - 1
unfolding seconds_left
seconds_most now [] = omega arith
seconds_most now (x ∷ xs) = let le = seconds_most now xs in omega (arith, le)

seconds_upto : (now : ℕ) (xs : List KeptValue) (x : KeptValue) (i : ℕ) → i < length xs → get_or xs i x ≡ x
    → seconds_left now xs ≤ x.expires - now
unfolding seconds_left
seconds_upto now [] x i within is = absurd (omega (arith, within))
seconds_upto now (y ∷ xs) x zero within is =
    subst (λ (k : KeptValue). min (y.expires - now) (seconds_left now xs) ≤ k.expires - now) is (omega arith)
seconds_upto now (y ∷ xs) x (suc i) within is =
    let le = seconds_upto now xs x i (omega (arith, within)) is in omega (arith, le)

seconds_from : (now : ℕ) (xs : List KeptValue) (s : ℕ) → s ≤ 2 ^ 32 - 1
    → ((x : KeptValue) → Contains xs x → s ≤ x.expires - now) → s ≤ seconds_left now xs
unfolding seconds_left
seconds_from now [] s most each_ = most
seconds_from now (y ∷ xs) s most each_ =
    let le = seconds_from now xs s most (λ x t. each_ x (suc t.0, (let lt = t.1 in omega (arith, lt)), t.2)) in
    let here = each_ y (zero, omega arith, refl) in
    omega (arith, le, here)

-- no record is left
seconds_empty : (now : ℕ) (xs : List KeptValue) → ((x : KeptValue) → Contains xs x → ⊥) → 2 ^ 32 - 1 ≡ seconds_left now xs
seconds_empty now xs none =
    let le = seconds_from now xs (2 ^ 32 - 1) (omega arith) (λ x t. absurd (none x t)) in
    let ge = seconds_most now xs in
    omega (arith, le, ge)

-- the one that has the least
seconds_least : (now : ℕ) (xs : List KeptValue) (x : KeptValue) → Contains xs x
    → ((y : KeptValue) → Contains xs y → x.expires ≤ y.expires)
    → min (x.expires - now) (2 ^ 32 - 1) ≡ seconds_left now xs
seconds_least now xs x t least =
    let le = seconds_from now xs (min (x.expires - now) (2 ^ 32 - 1)) (omega arith)
    (λ y u. let l = least y u in omega (arith, l)) in
    let most = seconds_most now xs in
    let upto = seconds_upto now xs x t.0 t.1 t.2 in
    omega (arith, le, most, upto)

-- ---- a group's records in the order

left_true3 : (a b c : Bool) → ((a && b) && c) ≡ true → a ≡ true
left_true3 true b c h = refl
left_true3 false b c h = cc

counts_both : (a b c : Bool) → ((a && b) && c) ≡ true → (b && c) ≡ true
counts_both true b c h = h
counts_both false b c h = cc

counts_live : (a b c : Bool) → a ≡ true → (b && c) ≡ true → ((a && b) && c) ≡ true
counts_live true b c h k = k
counts_live false b c h k = cc

module _ (kept : List KeptValue) (order : List ℕ) (gone now number : ℕ) (zone : Labels) (way : Option Parameters)
    (key : ExpiryKey) (all : HasAll gone (length kept) order)
    (h : IsOrder (expiry_cmp ByGroup) kept (length kept) order)
    (parted : IsParted (λ k. is_le (moment_cmp k key)) kept order number number)
    (group_is : group_in key ≡ group_at zone way) (now_is : key.4 ≡ now) where
  abbrev those : List KeptValue
  those = group now zone (drop gone kept) way

  beside : (k : KeptValue) → moment_cmp k key
      ≡ ordering_then (group_cmp (place_of k) (group_at zone way)) (nat_cmp k.expires now)
  beside k =
      ap (λ (p : Place). ordering_then (group_cmp (place_of k) p) (nat_cmp k.expires key.4)) group_is
      ∙ ap (λ (n : ℕ). ordering_then (group_cmp (place_of k) (group_at zone way)) (nat_cmp k.expires n)) now_is

  member_counts : (y : KeptValue) → Contains those y → counts zone way y ≡ true
  member_counts y t =
      let p = filter_from (is_in_group now zone way) (drop gone kept) y t.0 t.1 t.2 in
      counts_both (is_live now y) (name_eq y.zone zone) (is_of_way way (way_of y.item)) p.passes

  -- where a record of the group stands
  member_at : (y : KeptValue) → Contains those y → IsAt kept order y
  member_at y t =
      number_of kept order gone y all (filter_from (is_in_group now zone way) (drop gone kept) y t.0 t.1 t.2).there

  member_behind : (y : KeptValue) (t : Contains those y) → number ≤ (member_at y t).number
  member_behind y t =
      let p = filter_from (is_in_group now zone way) (drop gone kept) y t.0 t.1 t.2 in
      let a = member_at y t in
      let lt = ltb-true now y.expires (left_true3 (is_live now y) (name_eq y.zone zone) (is_of_way way (way_of y.item)) p.passes) in
      ⊎_elim (λ (less : a.number < number). absurd (both_ways (is_le (moment_cmp y key))
      (ap is_le (beside y ∙ then_equal (group_cmp (place_of y) (group_at zone way)) (nat_cmp y.expires now)
      (tied_group y zone way (member_counts y t))) ∙ not_up_to y.expires now lt)
      (ap (λ k. is_le (moment_cmp k key)) (sym a.is) ∙ parted.front a.number less)))
      (λ (ge : number ≤ a.number). ge)
      (cases_lt a.number number)

  pub left_none : length order ≤ number → 2 ^ 32 - 1 ≡ seconds_left now those
  left_none end =
      seconds_empty now those (λ y t.
      let a = member_at y t in
      let ge = member_behind y t in
      let lt = a.within in
      let none : ⊥ = absurd (omega (arith, end, ge, lt)) in none)

  abbrev one : KeptValue
  one = nth_of kept order number

  -- a record of the group expires no sooner
  member_after : number < length order → (y : KeptValue) (t : Contains those y) → (a : IsAt kept order y)
      → number < a.number
      → is_le (ordering_then (group_cmp (place_of one) (place_of y)) (nat_cmp (one).expires y.expires)) ≡ true
  member_after within y t a lt =
      ap (λ k. is_le (expiry_cmp ByGroup (nth_of kept order number) k)) (sym a.is) ∙ h.sorted.each number a.number lt a.within

  live_here : number < length order → counts zone way one ≡ true → now < (one).expires
  live_here within counted =
      above (one).expires now
      (sym (ap is_le (beside one ∙ then_equal (group_cmp (place_of one) (group_at zone way)) (nat_cmp (one).expires now)
      (tied_group one zone way counted)))
      ∙ parted.back number (omega arith) within)

  here_in : number < length order → counts zone way one ≡ true → Contains those one
  here_in within counted =
      let t = listed kept order gone number (expiry_cmp ByGroup) all h within in
      filter_into (is_in_group now zone way) (drop gone kept) t.0 one t.1 t.2
      (counts_live (is_live now one) (name_eq (one).zone zone) (is_of_way way (way_of (one).item))
      (lt-ltb now (one).expires (live_here within counted)) counted)

  least_here : number < length order → counts zone way one ≡ true → (y : KeptValue) → Contains those y
      → (one).expires ≤ y.expires
  least_here within counted y t =
      let a = member_at y t in
      let ge = member_behind y t in
      ⊎_elim (λ (less : number < a.number).
      let same : group_cmp (place_of one) (place_of y) ≡ Equal =
      group_total.congr (place_of one) (group_at zone way) (place_of y) (tied_group one zone way counted)
      ∙ tied_back group_total (place_of y) (group_at zone way) (tied_group y zone way (member_counts y t)) in
      up_to (one).expires y.expires
      (sym (ap is_le (then_equal (group_cmp (place_of one) (place_of y)) (nat_cmp (one).expires y.expires) same))
      ∙ member_after within y t a less))
      (λ (le : a.number ≤ number).
      let same : a.number ≡ number = omega (arith, le, ge) in
      let e : one ≡ y = ap (nth_of kept order) (sym same) ∙ a.is in
      let es : (one).expires ≡ y.expires = ap (λ k. k.expires) e in
      omega (arith, es))
      (cases_lt number a.number)

  group_front : (o : Ordering) → group_cmp (place_of one) (group_at zone way) ≡ o → is_le o ≡ true
      → is_le (moment_cmp one key) ≡ false → group_cmp (place_of one) (group_at zone way) ≡ Equal
  group_front Less is le fails =
      absurd (both_ways (is_le (moment_cmp one key)) fails (ap is_le (beside one
      ∙ ap (λ (o : Ordering). ordering_then o (nat_cmp (one).expires now)) is)))
  group_front Equal is le fails = is
  group_front Greater is le fails = cc

  none_here : number < length order → counts zone way one ≡ false → (y : KeptValue) → Contains those y → ⊥
  none_here within out y t =
      let a = member_at y t in
      let ge = member_behind y t in
      ⊎_elim (λ (less : number < a.number).
      let le : is_le (group_cmp (place_of one) (place_of y)) ≡ true =
      first_le (group_cmp (place_of one) (place_of y)) (nat_cmp (one).expires y.expires) (member_after within y t a less) in
      let to : group_cmp (place_of one) (place_of y) ≡ group_cmp (place_of one) (group_at zone way) =
      alike_right group_total (place_of y) (group_at zone way) (place_of one)
      (tied_group y zone way (member_counts y t)) in
      both_ways (counts zone way one) out
      (group_counts one zone way
      (group_front (group_cmp (place_of one) (group_at zone way)) refl (sym (ap is_le to) ∙ le)
      (parted.back number (omega arith) within))))
      (λ (le : a.number ≤ number).
      let same : a.number ≡ number = omega (arith, le, ge) in
      let e : one ≡ y = ap (nth_of kept order) (sym same) ∙ a.is in
      both_ways (counts zone way one) out (ap (counts zone way) e ∙ member_counts y t))
      (cases_lt number a.number)

  left_by : number < length order → (b : Bool) → counts zone way one ≡ b
      → left_if b ((one).expires - now) ≡ seconds_left now those
  left_by within true is = seconds_least now those one (here_in within is) (least_here within is)
  left_by within false is = seconds_empty now those (none_here within is)

  pub left_here : number < length order → left_if (counts zone way one) ((one).expires - now) ≡ seconds_left now those
  left_here within = left_by within (counts zone way one) refl
