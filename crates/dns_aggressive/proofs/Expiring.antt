-- Positions of records by when these expire: as one is put in, as some go, and as all are gone over.
use Rattle.std.proofs.Common.{◌≡◌, inl, inr, ℕ, ◌+◌, ◌-◌, ◌<◌, ◌≤◌, Bool, true, false, List, ◌++◌, length, map, take, get_or, refl, sym, ap, ◌∙◌, subst, ⊎_elim, arith}
use Rattle.std.specs.Prelude.{nat_le}
use Rattle.std.specs.Cmp.{IsTotalOrder, nat_cmp_total, on_total, then_total, upto}
use Rattle.std.specs.List.{AllPairs, Contains, filter, insert}
use Rattle.std.specs.Ordering.{is_gt, is_le, ordering_reverse}
use Rattle.std.specs.declared.cmp.Ordering.{Ordering}
use Rattle.std.specs.declared.cmp.Ordering.TheVariants.{Less, Equal, Greater}
use Rattle.std.proofs.lemmas.Bool.{cases_lt, le-leb, leb-true}
use Rattle.std.proofs.lemmas.List.{get_or_append_left, get_or_default, length-map}
use Rattle.std.proofs.lemmas.List.Edits.{get_or-insert_above, get_or-insert_at, get_or-insert_below, length-insert}
use Rattle.std.proofs.lemmas.List.Elements.{filter_passes}
use Rattle.std.proofs.lemmas.List.Kept.{AllPairs-filter}
use Rattle.dns_model.proofs.OrderLemmas.{name_total}
use Rattle.dns_aggressive.specs.declared.sorting.Sorting.{Sorting}
use Rattle.dns_aggressive.specs.declared.sorting.Sorting.TheVariants.{ByZone, ByGroup}
use Rattle.dns_aggressive.specs.Records.{KeptValue}
use Rattle.dns_aggressive.specs.Lists.{place_of}
use Rattle.dns_aggressive.specs.Flags.{flagged}
use Rattle.dns_aggressive.specs.Compaction.{AreCounted, count_set, flag_at}
use Rattle.dns_aggressive.specs.Orders.{at, nowhere, nth, nth_of, AreInside, IsFront, IsParted}
use Rattle.dns_aggressive.specs.declared.expiries.Expiries.{Expiries}
use Rattle.dns_aggressive.specs.Expiring.{expiry_cmp, AreExpiries, AreSorted, HasAll, HaveAll, IsOrder, IsWith}
use Rattle.dns_aggressive.specs.KeptLists.{IsKeptList}
use Rattle.dns_aggressive.proofs.Places.{group_total}
use Rattle.dns_aggressive.proofs.Latest.{in_above, in_below, in_here}
use Rattle.dns_aggressive.proofs.Compaction.{contains_filter, contains_map, fewer_latest, moved_at, moved_from, moved_within, nth_map, set_within}
use Rattle.dns_aggressive.proofs.ZoneRuns.{filter_from}

pub expiry_total : (sorting : Sorting) → IsTotalOrder (expiry_cmp sorting)
expiry_total ByZone = then_total (on_total (λ k. k.zone) name_total) (on_total (λ k. k.expires) nat_cmp_total)
expiry_total ByGroup = then_total (on_total place_of group_total) (on_total (λ k. k.expires) nat_cmp_total)

pub not_gt : (o : Ordering) → is_le o ≡ true → is_gt o ≡ false
not_gt Less h = refl
not_gt Equal h = refl
not_gt Greater h = cc

pub le_from : (o : Ordering) → is_gt o ≡ false → is_le o ≡ true
le_from Less h = refl
le_from Equal h = refl
le_from Greater h = cc

le_turned : (o p : Ordering) → p ≡ ordering_reverse o → is_le o ≡ false → is_le p ≡ true
le_turned Less p is h = cc
le_turned Equal p is h = cc
le_turned Greater p is h = ap is_le is

-- the number that stands at a place of a list
pub nth_there : (order : List ℕ) (x : ℕ) (t : Contains order x) → nth order t.0 ≡ x
nth_there order x t = get_or_default order t.0 0 x t.1 ∙ t.2

-- ---- what stands in front, and one position more

module _ (cmp : KeptValue → KeptValue → Ordering) (total : IsTotalOrder cmp) (kept : List KeptValue) (order : List ℕ) where
  le_chain : (x y z : KeptValue) → is_le (cmp x y) ≡ true → is_le (cmp y z) ≡ true → is_le (cmp x z) ≡ true
  le_chain x y z p q = le_from (cmp x z) (upto total x y z (not_gt (cmp x y) p) (not_gt (cmp y z) q))

  pub front_sorted : (x : KeptValue) → AreSorted cmp kept order → IsFront (λ k. is_le (cmp k x)) kept order
  front_sorted x h = record {
    each = λ i j le within pass.
        ⊎_elim (λ (lt : i < j). le_chain (nth_of kept order i) (nth_of kept order j) x (h.each i j lt within) pass)
        (λ (ge : j ≤ i).
        let same : i ≡ j = omega (arith, le, ge) in
        ap (λ (n : ℕ). is_le (cmp (nth_of kept order n) x)) same ∙ pass)
        (cases_lt i j);
  }

  not_before : (x k : KeptValue) → is_le (cmp k x) ≡ false → is_le (cmp x k) ≡ true
  not_before x k h = le_turned (cmp k x) (cmp x k) (total.antisymm x k) h

  pub sorted_in : (number position : ℕ) → AreSorted cmp kept order
      → IsParted (λ k. is_le (cmp k (at kept position))) kept order number number
      → AreSorted cmp kept (insert order number position)
  sorted_in number position h is =
      let le : number ≤ length order = is.within in
      record {
        each = λ i j lt j_within_.
            let j_within : j < length order + 1 = omega (arith, j_within_, length-insert order number position le) in
            ⊎_elim (λ (low : i < number).
            ap (λ (n : ℕ). is_le (cmp (at kept n) (nth_of kept (insert order number position) j)))
            (in_below kept order number position i le low)
            ∙ ⊎_elim (λ (below : j < number).
            ap (λ (n : ℕ). is_le (cmp (nth_of kept order i) (at kept n)))
            (in_below kept order number position j le below)
            ∙ h.each i j lt (omega (arith, below, le)))
            (λ (from : number ≤ j).
            ⊎_elim (λ (above : number < j).
            ap (λ (n : ℕ). is_le (cmp (nth_of kept order i) (at kept n)))
            (in_above kept order number position j le above)
            ∙ h.each i (j - 1) (omega (arith, low, above)) (omega (arith, j_within, above)))
            (λ (to : j ≤ number).
            let here : j ≡ number = omega (arith, from, to) in
            ap (λ (n : ℕ). is_le (cmp (nth_of kept order i) (nth_of kept (insert order number position) n))) here
            ∙ ap (λ (n : ℕ). is_le (cmp (nth_of kept order i) (at kept n))) (in_here kept order number position le)
            ∙ is.front i low)
            (cases_lt number j))
            (cases_lt j number))
            (λ (high : number ≤ i).
            ap (λ (n : ℕ). is_le (cmp (nth_of kept (insert order number position) i) (at kept n)))
            (in_above kept order number position j le (omega (arith, high, lt)))
            ∙ ⊎_elim (λ (above : number < i).
            ap (λ (n : ℕ). is_le (cmp (at kept n) (nth_of kept order (j - 1))))
            (in_above kept order number position i le above)
            ∙ h.each (i - 1) (j - 1) (omega (arith, above, lt)) (omega (arith, j_within, lt)))
            (λ (to : i ≤ number).
            let here : i ≡ number = omega (arith, high, to) in
            ap (λ (n : ℕ). is_le (cmp (nth_of kept (insert order number position) n) (nth_of kept order (j - 1)))) here
            ∙ ap (λ (n : ℕ). is_le (cmp (at kept n) (nth_of kept order (j - 1))))
            (in_here kept order number position le)
            ∙ not_before (at kept position) (nth_of kept order (j - 1))
            (is.back (j - 1) (omega (arith, here, lt)) (omega (arith, j_within, lt))))
            (cases_lt number i))
            (cases_lt i number);
      }

  -- ---- some of them

  pub sorted_filter : (test : ℕ → Bool) → AreSorted cmp kept order → AreSorted cmp kept (filter test order)
  sorted_filter test h = record {
    each = λ i j lt within.
        AllPairs-filter (λ one two. is_le (cmp (at kept one) (at kept two)) ≡ true) test order pairs i j 0 lt within;
  }
    where
      pairs : AllPairs (λ one two. is_le (cmp (at kept one) (at kept two)) ≡ true) order
      pairs i j d lt within =
          ap (λ (n : ℕ). is_le (cmp (at kept n) (at kept (get_or order j d))))
          (get_or_default order i d 0 (omega (arith, lt, within)))
          ∙ ap (λ (n : ℕ). is_le (cmp (nth_of kept order i) (at kept n))) (get_or_default order j d 0 within)
          ∙ h.each i j lt within

  pub order_filter : (test : ℕ → Bool) (count : ℕ) → IsOrder cmp kept count order → IsOrder cmp kept count (filter test order)
  order_filter test count h = record {
    inside = record {
      each = λ i within.
          let p = filter_from test order (nth (filter test order) i) i within
          (get_or_default (filter test order) i (nth (filter test order) i) 0 within) in
          let t = p.there in
          let e = nth_there order (nth (filter test order) i) t in
          let lt = h.inside.each t.0 t.1 in
          omega (arith, e, lt);
    };
    sorted = sorted_filter test h.sorted;
  }

  -- records behind the others change nothing of these
  pub order_before : (more : List KeptValue) → IsOrder cmp kept (length kept) order
      → IsOrder cmp (kept ++ more) (length kept) order
  order_before more h = record {
    inside = h.inside;
    sorted = record {
      each = λ i j lt j_within.
          ap (λ k. is_le (cmp k (nth_of (kept ++ more) order j)))
          (get_or_append_left kept more nowhere (nth order i) (h.inside.each i (omega (arith, lt, j_within))))
          ∙ ap (λ k. is_le (cmp (nth_of kept order i) k))
          (get_or_append_left kept more nowhere (nth order j) (h.inside.each j j_within))
          ∙ h.sorted.each i j lt j_within;
    };
  }

  -- those that stay, where they move to
  pub order_staying : (flags : List Bool) (numbers : List ℕ) → IsOrder cmp kept (length kept) order
      → length flags ≡ length kept → AreCounted flags (length flags) numbers
      → IsOrder cmp (flagged flags kept) (length (flagged flags kept)) (map (nth numbers) (filter (flag_at flags) order))
  order_staying flags numbers h long counted =
      let left : List ℕ = filter (flag_at flags) order in
      let stayed : List KeptValue = flagged flags kept in
      let stays : (i : ℕ) → i < length left → get_or flags (nth left i) false ≡ true =
      λ i within. filter_passes (flag_at flags) order i 0 within in
      let counts : (i : ℕ) → i < length left → nth (map (nth numbers) left) i ≡ count_set (take (nth left i) flags) =
      λ i within. nth_map (nth numbers) left i within
      ∙ counted.each (nth left i) (set_within flags (nth left i) (stays i within)) in
      let same : (i : ℕ) → i < length left → nth_of stayed (map (nth numbers) left) i ≡ nth_of kept left i =
      λ i within. ap (at stayed) (counts i within) ∙ moved_at flags kept (nth left i) nowhere long (stays i within) in
      let sorted : AreSorted cmp kept left = sorted_filter (flag_at flags) h.sorted in
      record {
        inside = record {
          each = λ i within.
              let i_within : i < length left = omega (arith, within, length-map left (nth numbers)) in
              let e = counts i i_within in
              let lt = moved_within flags kept (nth left i) long (stays i i_within) in
              omega (arith, e, lt);
        };
        sorted = record {
          each = λ i j lt j_within_.
              let j_within : j < length left = omega (arith, j_within_, length-map left (nth numbers)) in
              ap (λ k. is_le (cmp k (nth_of stayed (map (nth numbers) left) j)))
              (same i (omega (arith, lt, j_within)))
              ∙ ap (λ k. is_le (cmp (nth_of kept left i) k)) (same j j_within)
              ∙ sorted.each i j lt j_within;
        };
      }

-- ---- one position more

pub with_in : (order : List ℕ) (number position : ℕ) → number ≤ length order
    → IsWith order (insert order number position) position
with_in order number position le = record {
  long = length-insert order number position le;
  here = (number, omega (arith, le, length-insert order number position le), get_or-insert_at order number position position le);
  there = λ other t.
      let long = length-insert order number position le in
      let within : t.0 < length order = t.1 in
      ⊎_elim (λ (low : t.0 < number).
      (t.0, omega (arith, long, within), get_or-insert_below order number position other t.0 low le ∙ t.2))
      (λ (from : number ≤ t.0). (
        t.0 + 1,
        omega (arith, long, within),
        get_or-insert_above order number position other t.0 from le ∙ t.2,
      ))
      (cases_lt t.0 number);
  only = λ i i_within_.
      let i_within : i < length order + 1 = omega (arith, i_within_, length-insert order number position le) in
      ⊎_elim (λ (low : i < number).
      inr (
        i,
        omega (arith, low, le),
        get_or_default order i (nth (insert order number position) i) 0 (omega (arith, low, le))
            ∙ sym (get_or-insert_below order number position 0 i low le),
      ))
      (λ (from : number ≤ i).
      ⊎_elim (λ (above : number < i).
      let e : i ≡ i - 1 + 1 = omega (arith, above) in
      inr (
        i - 1,
        omega (arith, above, i_within),
        get_or_default order (i - 1) (nth (insert order number position) i) 0 (omega (arith, above, i_within))
            ∙ sym (ap (λ (n : ℕ). nth (insert order number position) n) e
            ∙ get_or-insert_above order number position 0 (i - 1) (omega (arith, above)) le),
      ))
      (λ (to : i ≤ number).
      let here : i ≡ number = omega (arith, from, to) in
      inl (ap (λ (n : ℕ). nth (insert order number position) n) here ∙ get_or-insert_at order number position 0 le))
      (cases_lt number i))
      (cases_lt i number);
}

pub inside_with : (before after : List ℕ) (count more position : ℕ) → IsWith before after position
    → AreInside count before → count ≤ more → position < more → AreInside more after
inside_with before after count more position h inside le within = record {
  each = λ i i_within.
      ⊎_elim (λ (here : nth after i ≡ position). omega (arith, here, within))
      (λ (t : Contains before (nth after i)).
      let e = nth_there before (nth after i) t in
      let lt = inside.each t.0 t.1 in
      omega (arith, e, lt, le))
      (h.only i i_within);
}

pub all_with : (before after : List ℕ) (gone position : ℕ) → IsWith before after position → gone ≤ position
    → HasAll gone position before → HasAll gone (position + 1) after
all_with before after gone position h le all = record {
  later = λ i within.
      ⊎_elim (λ (here : nth after i ≡ position). omega (arith, here, le))
      (λ (t : Contains before (nth after i)).
      let e = nth_there before (nth after i) t in
      let ge = all.later t.0 t.1 in
      omega (arith, e, ge))
      (h.only i within);
  there = λ p from within.
      ⊎_elim (λ (lt : p < position). h.there p (all.there p from lt))
      (λ (ge : position ≤ p).
      let same : position ≡ p = omega (arith, ge, within) in
      subst (λ (n : ℕ). Contains after n) same h.here)
      (cases_lt p position);
}

-- ---- positions that go

pub all_left : (order : List ℕ) (gone more count : ℕ) → HasAll gone count order → gone ≤ more
    → HasAll more count (filter (λ position. nat_le more position) order)
all_left order gone more count h le = record {
  later = λ i within.
      leb-true more (nth (filter (λ position. nat_le more position) order) i)
      (filter_passes (λ position. nat_le more position) order i 0 within);
  there = λ p from within.
      let t = h.there p (omega (arith, le, from)) within in
      contains_filter (λ position. nat_le more position) order t.0 p t.1 t.2 (le-leb more p from);
}

pub all_staying : (kept : List KeptValue) (order : List ℕ) (gone : ℕ) (flags : List Bool) (numbers : List ℕ)
    → HasAll gone (length kept) order → length flags ≡ length kept
    → ((position : ℕ) → get_or flags position false ≡ true → gone ≤ position)
    → AreCounted flags (length flags) numbers
    → HasAll 0 (length (flagged flags kept)) (map (nth numbers) (filter (flag_at flags) order))
all_staying kept order gone flags numbers h long stay counted = record {
  later = λ i within. omega arith;
  there = λ to from within.
      let moved = moved_from flags kept to within in
      let lt = set_within flags moved.from moved.stays in
      let t = h.there moved.from (stay moved.from moved.stays) (omega (arith, lt, long)) in
      let among = contains_filter (flag_at flags) order t.0 moved.from t.1 t.2 moved.stays in
      let e : nth numbers moved.from ≡ to = counted.each moved.from lt ∙ moved.is in
      subst (λ (n : ℕ). Contains (map (nth numbers) (filter (flag_at flags) order)) n) e
      (contains_map (nth numbers) (filter (flag_at flags) order) among.0 moved.from among.1 among.2);
}

pub inside_up : (order : List ℕ) (count more : ℕ) → AreInside count order → count ≤ more → AreInside more order
inside_up order count more h le = record { each = λ i within. let lt = h.each i within in omega (arith, lt, le) }

pub parted_same : (test : KeptValue → KeptValue → Bool) (kept : List KeptValue) (order seen : List ℕ) (number : ℕ)
    (x y : KeptValue) → seen ≡ order → x ≡ y → IsParted (λ k. test k x) kept seen number number
    → IsParted (λ k. test k y) kept order number number
parted_same test kept order seen number x y same is h =
    subst (λ (z : KeptValue). IsParted (λ k. test k z) kept order number number) is
    (subst (λ (l : List ℕ). IsParted (λ k. test k x) kept l number number) same h)

-- ---- all that stays, and what stood before

pub order_compacted : (cmp : KeptValue → KeptValue → Ordering) (total : IsTotalOrder cmp) (kept : List KeptValue)
    (order : List ℕ) (flags : List Bool) (numbers : List ℕ) (stayed : List KeptValue) (moved : List ℕ)
    → IsOrder cmp kept (length kept) order → length flags ≡ length kept → AreCounted flags (length flags) numbers
    → stayed ≡ flagged flags kept → moved ≡ map (nth numbers) (filter (flag_at flags) order)
    → IsOrder cmp stayed (length stayed) moved
order_compacted cmp total kept order flags numbers stayed moved h long counted stayed_is moved_is =
    subst (λ (l : List KeptValue). IsOrder cmp l (length l) moved) (sym stayed_is)
    (subst (λ (os : List ℕ). IsOrder cmp (flagged flags kept) (length (flagged flags kept)) os) (sym moved_is)
    (order_staying cmp total kept order flags numbers h long counted))

pub all_compacted : (kept : List KeptValue) (order : List ℕ) (gone : ℕ) (flags : List Bool) (numbers : List ℕ)
    (stayed : List KeptValue) (moved : List ℕ)
    → HasAll gone (length kept) order → length flags ≡ length kept
    → ((position : ℕ) → get_or flags position false ≡ true → gone ≤ position)
    → AreCounted flags (length flags) numbers → stayed ≡ flagged flags kept
    → moved ≡ map (nth numbers) (filter (flag_at flags) order) → HasAll 0 (length stayed) moved
all_compacted kept order gone flags numbers stayed moved h long stay counted stayed_is moved_is =
    subst (λ (l : List KeptValue). HasAll 0 (length l) moved) (sym stayed_is)
    (subst (λ (os : List ℕ). HasAll 0 (length (flagged flags kept)) os) (sym moved_is)
    (all_staying kept order gone flags numbers h long stay counted))

pub expiries_before : (kept more all : List KeptValue) (count : ℕ) (before after : Expiries) → all ≡ kept ++ more
    → length kept ≡ count → after.by_zone.items ≡ before.by_zone.items
    → after.by_group.items ≡ before.by_group.items → AreExpiries kept (length kept) before → AreExpiries all count after
expiries_before kept more all count before after all_is long zones groups h =
    subst (λ (l : List KeptValue). AreExpiries l count after) (sym all_is)
    (subst (λ (n : ℕ). AreExpiries (kept ++ more) n after) long
    (record {
      by_zone = subst (λ (os : List ℕ). IsOrder (expiry_cmp ByZone) (kept ++ more) (length kept) os) (sym zones)
          (order_before (expiry_cmp ByZone) (expiry_total ByZone) kept before.by_zone.items more h.by_zone);
      by_group = subst (λ (os : List ℕ). IsOrder (expiry_cmp ByGroup) (kept ++ more) (length kept) os) (sym groups)
          (order_before (expiry_cmp ByGroup) (expiry_total ByGroup) kept before.by_group.items more h.by_group);
    }))

pub all_before : (gone length_ count : ℕ) (before after : Expiries) → length_ ≡ count
    → after.by_zone.items ≡ before.by_zone.items → after.by_group.items ≡ before.by_group.items
    → HaveAll gone length_ before → HaveAll gone count after
all_before gone length_ count before after long zones groups h =
    subst (λ (n : ℕ). HaveAll gone n after) long
    (record {
      by_zone = subst (λ (os : List ℕ). HasAll gone length_ os) (sym zones) h.by_zone;
      by_group = subst (λ (os : List ℕ). HasAll gone length_ os) (sym groups) h.by_group;
    })

-- the first ones go
pub kept_list_left : (kept : List KeptValue) (gone more : ℕ) (order : List ℕ) (before after : Expiries) (reaching : List ℕ)
    → IsKeptList kept gone order before reaching → gone + more ≤ length kept
    → after.by_zone.items ≡ filter (λ position. nat_le (gone + more) position) before.by_zone.items
    → after.by_group.items ≡ filter (λ position. nat_le (gone + more) position) before.by_group.items
    → IsKeptList kept (gone + more) order after reaching
kept_list_left kept gone more order before after reaching h within zones groups = record {
  within = within;
  latest = fewer_latest kept gone (gone + more) h.latest (omega arith);
  placed = h.placed;
  expiring = record {
    by_zone = subst (λ (os : List ℕ). IsOrder (expiry_cmp ByZone) kept (length kept) os) (sym zones)
        (order_filter (expiry_cmp ByZone) (expiry_total ByZone) kept before.by_zone.items
        (λ position. nat_le (gone + more) position) (length kept) h.expiring.by_zone);
    by_group = subst (λ (os : List ℕ). IsOrder (expiry_cmp ByGroup) kept (length kept) os) (sym groups)
        (order_filter (expiry_cmp ByGroup) (expiry_total ByGroup) kept before.by_group.items
        (λ position. nat_le (gone + more) position) (length kept) h.expiring.by_group);
  };
  all = record {
    by_zone = subst (λ (os : List ℕ). HasAll (gone + more) (length kept) os) (sym zones)
        (all_left before.by_zone.items gone (gone + more) (length kept) h.all.by_zone (omega arith));
    by_group = subst (λ (os : List ℕ). HasAll (gone + more) (length kept) os) (sym groups)
        (all_left before.by_group.items gone (gone + more) (length kept) h.all.by_group (omega arith));
  };
  reach = h.reach;
}
