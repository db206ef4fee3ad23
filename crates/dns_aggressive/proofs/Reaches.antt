-- NSEC records that reach: as one more record is noted, as records move, and those of one zone.
use Rattle.std.proofs.Common.{◌≡◌, ℕ, ◌+◌, ◌-◌, ◌<◌, ◌≤◌, Bool, true, false, ◌&&◌, ◌||◌, List, [], ◌++◌, length, map, take, get_or, Some, refl, sym, ap, ◌∙◌, subst, ⊎_elim, arith}
use Rattle.std.specs.Prelude.{slice_range}
use Rattle.std.specs.Cmp.{tied_itself}
use Rattle.std.specs.Cmp.Lexicographic.{slice_cmp}
use Rattle.std.specs.List.{Contains, filter}
use Rattle.std.specs.Ordering.{is_eq, is_le, is_lt, nat_cmp, ordering_reverse, ordering_then}
use Rattle.std.specs.declared.cmp.Ordering.{Ordering}
use Rattle.std.specs.declared.cmp.Ordering.TheVariants.{Less, Equal, Greater}
use Rattle.std.proofs.lemmas.Bool.{both_ways, cases_lt}
use Rattle.std.proofs.lemmas.List.{get_or_append_left}
use Rattle.std.proofs.lemmas.List.Edits.{get_or-between, length-between}
use Rattle.dns_model.specs.Names.{Labels, before, name_cmp, name_eq}
use Rattle.dns_model.specs.Owned.{OwnedNsec, OwnedNsec3}
use Rattle.dns_model.proofs.NamesInOrder.{lt_from}
use Rattle.dns_model.proofs.OrderLemmas.{name_ties, name_total}
use Rattle.dns_rules.specs.Covering.{leads_back}
use Rattle.dns_aggressive.specs.declared.kept.KeptRecord.{KeptRecord}
use Rattle.dns_aggressive.specs.declared.kept.KeptRecord.TheVariants.{Nsec, Nsec3}
use Rattle.dns_aggressive.specs.declared.sorting.Sorting.TheVariants.{ByZone}
use Rattle.dns_aggressive.specs.declared.zone_run.ZoneRun.{ZoneRun}
use Rattle.dns_aggressive.specs.Records.{KeptValue, nsec_of}
use Rattle.dns_aggressive.specs.Lists.{place_in, place_of, same_place}
use Rattle.dns_aggressive.specs.Places.{place_cmp, record_cmp}
use Rattle.dns_aggressive.specs.Flags.{flagged}
use Rattle.dns_aggressive.specs.Compaction.{AreCounted, AreMarked, count_set, flag_at}
use Rattle.dns_aggressive.specs.Expiring.{expiry_cmp, AreSorted, IsOrder}
use Rattle.dns_aggressive.specs.Orders.{at, nowhere, nth, nth_of, AreInside, IsFront, IsLatest, IsParted, IsPlaced}
use Rattle.dns_aggressive.specs.Reaching.{nsec_reaches, reaches, AreReaching, IsSearchable, IsZonePart}
use Rattle.dns_aggressive.specs.ZoneRuns.{IsZoneRun}
use Rattle.dns_aggressive.proofs.Places.{record_total}
use Rattle.dns_aggressive.proofs.Orders.{equal_from}
use Rattle.dns_aggressive.proofs.Latest.{latest_last, latest_less}
use Rattle.dns_aggressive.proofs.Compaction.{contains_filter, contains_map, moved_at, moved_from, set_within}
use Rattle.dns_aggressive.proofs.Expiring.{expiry_total, inside_up, nth_there, order_before, order_compacted}
use Rattle.dns_aggressive.proofs.ExpiryFinds.{first_le, name_between}
use Rattle.dns_aggressive.proofs.ZoneRuns.{hashed_behind, zone_not_after}

-- ---- tests

left_true : (a b : Bool) → (a && b) ≡ true → a ≡ true
left_true true b h = refl
left_true false b h = cc

right_true : (a b : Bool) → (a && b) ≡ true → b ≡ true
right_true true b h = h
right_true false b h = cc

both_true : (a b : Bool) → a ≡ true → b ≡ true → (a && b) ≡ true
both_true true b h k = k
both_true false b h k = cc

or_left : (a b : Bool) → a ≡ true → (a || b) ≡ true
or_left true b h = refl
or_left false b h = cc

or_right : (a b : Bool) → b ≡ true → (a || b) ≡ true
or_right true b h = refl
or_right false b h = h

-- ---- two records of a zone

-- the order of NSEC records of one zone is that of their owners
pub nsec_order : (z w : Labels) (a b : OwnedNsec) → name_cmp z w ≡ Equal
    → place_cmp (place_in z (Nsec a)) (place_in w (Nsec b)) ≡ name_cmp a.owner b.owner
nsec_order z w a b same =
    ap (λ (o : Ordering). ordering_then (ordering_then (ordering_then (ordering_then o (nat_cmp 47 47))
    (nat_cmp 0 0)) (slice_cmp nat_cmp [] [])) (name_cmp a.owner b.owner)) same

-- the same where it is known what they are
pub owners_order : (one two : KeptValue) (a b : OwnedNsec) → name_cmp one.zone two.zone ≡ Equal
    → one.item ≡ Nsec a → two.item ≡ Nsec b → record_cmp one two ≡ name_cmp a.owner b.owner
owners_order one two a b same one_is two_is =
    ap (λ (i : KeptRecord). place_cmp (place_in one.zone i) (place_of two)) one_is
    ∙ ap (λ (i : KeptRecord). place_cmp (place_in one.zone (Nsec a)) (place_in two.zone i)) two_is
    ∙ nsec_order one.zone two.zone a b same

-- no NSEC3 record comes before an NSEC record
pub hashed_after : (one two : KeptValue) (n : OwnedNsec3) (b : OwnedNsec) → name_cmp one.zone two.zone ≡ Equal
    → one.item ≡ Nsec3 n → two.item ≡ Nsec b → record_cmp one two ≡ Less → ⊥
hashed_after one two n b same one_is two_is less =
    let greater : record_cmp one two ≡ Greater =
    ap (λ (i : KeptRecord). place_cmp (place_in one.zone i) (place_of two)) one_is
    ∙ ap (λ (i : KeptRecord). place_cmp (place_in one.zone (Nsec3 n)) (place_in two.zone i)) two_is
    ∙ hashed_behind one.zone two.zone n b same in
    cc

record ItemsReach (i j : KeptRecord) : Type 0 where
  pub a : OwnedNsec
  pub b : OwnedNsec
  pub first : i ≡ Nsec a
  pub second : j ≡ Nsec b
  pub after : before a.owner b.owner ≡ true
  pub past : (before b.owner a.fields.next || leads_back a) ≡ true

items_reach : (i j : KeptRecord) → nsec_reaches (nsec_of i) (nsec_of j) ≡ true → ItemsReach i j
items_reach (Nsec a) (Nsec b) h = record {
  a = a;
  b = b;
  first = refl;
  second = refl;
  after = left_true (before a.owner b.owner) (before b.owner a.fields.next || leads_back a) h;
  past = right_true (before a.owner b.owner) (before b.owner a.fields.next || leads_back a) h;
}
items_reach (Nsec a) (Nsec3 b) h = cc
items_reach (Nsec3 a) j h = cc

reach_items : (one two : KeptValue) → reaches one two ≡ true → ItemsReach one.item two.item
reach_items one two h =
    items_reach one.item two.item
    (right_true (name_eq one.zone two.zone) (nsec_reaches (nsec_of one.item) (nsec_of two.item)) h)

reach_zones : (one two : KeptValue) → reaches one two ≡ true → name_cmp one.zone two.zone ≡ Equal
reach_zones one two h =
    equal_from (name_cmp one.zone two.zone)
    (sym (name_ties one.zone two.zone)
    ∙ left_true (name_eq one.zone two.zone) (nsec_reaches (nsec_of one.item) (nsec_of two.item)) h)

reach_less : (one two : KeptValue) → reaches one two ≡ true → record_cmp one two ≡ Less
reach_less one two h =
    let r = reach_items one two h in
    owners_order one two r.a r.b (reach_zones one two h) r.first r.second ∙ lt_from (name_cmp r.a.owner r.b.owner) r.after

past_by : (m b next : Labels) (back c : Bool) → before b next ≡ c → name_cmp m b ≡ Less → (c || back) ≡ true
    → (before m next || back) ≡ true
past_by m b next back true is lt h =
    or_left (before m next) back (ap is_lt (name_total.trans m b next lt (lt_from (name_cmp b next) is)))
past_by m b next back false is lt h = or_right (before m next) back h

pub reaches_of : (one two : KeptValue) (a b : OwnedNsec) → name_cmp one.zone two.zone ≡ Equal → one.item ≡ Nsec a
    → two.item ≡ Nsec b → before a.owner b.owner ≡ true → (before b.owner a.fields.next || leads_back a) ≡ true
    → reaches one two ≡ true
reaches_of one two a b zones one_is two_is after past =
    both_true (name_eq one.zone two.zone) (nsec_reaches (nsec_of one.item) (nsec_of two.item))
    (name_ties one.zone two.zone ∙ ap is_eq zones)
    (ap (λ (i : KeptRecord). nsec_reaches (nsec_of i) (nsec_of two.item)) one_is
    ∙ ap (λ (i : KeptRecord). nsec_reaches (Some a) (nsec_of i)) two_is
    ∙ both_true (before a.owner b.owner) (before b.owner a.fields.next || leads_back a) after past)

-- what reaches behind a record reaches behind those before it
reach_middle : (one mid two : KeptValue) → record_cmp one mid ≡ Less → record_cmp mid two ≡ Less
    → reaches one two ≡ true → reaches one mid ≡ true
reach_middle one mid two h k r = by_item mid.item refl
  where
    items : ItemsReach one.item two.item
    items = reach_items one two r

    ends : name_cmp one.zone two.zone ≡ Equal
    ends = reach_zones one two r

    first_zones : name_cmp one.zone mid.zone ≡ Equal
    first_zones = name_between one.zone mid.zone two.zone (zone_not_after one mid h) (zone_not_after mid two k) ends

    last_zones : name_cmp mid.zone two.zone ≡ Equal
    last_zones = sym (name_total.congr one.zone mid.zone two.zone first_zones) ∙ ends

    by_item : (item : KeptRecord) → mid.item ≡ item → reaches one mid ≡ true
    by_item (Nsec3 n) is = absurd (hashed_after mid two n items.b last_zones is items.second k)
    by_item (Nsec m) is =
        reaches_of one mid items.a m first_zones items.first is
        (ap is_lt (sym (owners_order one mid items.a m first_zones items.first is) ∙ h))
        (past_by m.owner items.b.owner items.a.fields.next (leads_back items.a)
        (before items.b.owner items.a.fields.next) refl
        (sym (owners_order mid two m items.b last_zones is items.second) ∙ k) items.past)

-- ---- one more record

not_itself : (x : KeptValue) → is_lt (record_cmp x x) ≡ false
not_itself x = ap is_lt (tied_itself record_total x)

not_back : (x y : KeptValue) → record_cmp x y ≡ Less → is_lt (record_cmp y x) ≡ false
not_back x y h = ap is_lt (record_total.antisymm y x ∙ ap ordering_reverse h)

module _ (kept : List KeptValue) (order reaching after : List ℕ) (number position : ℕ)
    (placed : IsPlaced kept (position + 1) order)
    (parted : IsParted (λ k. is_lt (record_cmp k (at kept position))) kept order number number)
    (old : AreReaching kept position reaching) (ordered : IsOrder (expiry_cmp ByZone) kept (length kept) after)
    (there : (p : ℕ) → Contains reaching p → Contains after p)
    (below : 0 < number → reaches (nth_of kept order (number - 1)) (at kept position) ≡ true
    → Contains after (nth order (number - 1)))
    (above : number + 1 < length order → reaches (at kept position) (nth_of kept order (number + 1)) ≡ true
    → Contains after position) where
  latest_at : (i : ℕ) → i < length order → IsLatest kept position (nth order i)
  latest_at i within = latest_less kept position (nth order i) (placed.last i within)

  here_is : Contains order position
  here_is = placed.there position (omega arith) (latest_last kept position)

  here_at : nth order number ≡ position
  here_at =
      let t = here_is in
      let e = nth_there order position t in
      ⊎_elim (λ (low : t.0 < number).
      absurd (both_ways (is_lt (record_cmp (at kept position) (at kept position))) (not_itself (at kept position))
      (ap (λ (n : ℕ). is_lt (record_cmp (at kept n) (at kept position))) (sym e) ∙ parted.front t.0 low)))
      (λ (from : number ≤ t.0).
      ⊎_elim (λ (less : number < t.0).
      absurd (both_ways (is_lt (record_cmp (nth_of kept order number) (at kept position)))
      (parted.back number (omega arith) (let w = t.1 in omega (arith, less, w)))
      (ap (λ (n : ℕ). is_lt (record_cmp (nth_of kept order number) (at kept n))) (sym e)
      ∙ ap is_lt (placed.rising.each number t.0 less t.1))))
      (λ (to : t.0 ≤ number).
      let same : number ≡ t.0 = omega (arith, from, to) in
      ap (nth order) same ∙ e)
      (cases_lt number t.0))
      (cases_lt t.0 number)

  -- of two older ones
  old_pair : (p q : ℕ) → p < position → q < position → IsLatest kept position p → IsLatest kept position q
      → reaches (at kept p) (at kept q) ≡ true → Contains after p
  old_pair p q p_lt q_lt p_latest q_latest r = there p (old.each p q p_lt q_lt p_latest q_latest r)

  -- an older one that reaches behind the new one
  from_below : (p : ℕ) → p < position → IsLatest kept (position + 1) p → reaches (at kept p) (at kept position) ≡ true
      → Contains after p
  from_below p p_lt latest r =
      let t = placed.there p (omega (arith, p_lt)) latest in
      let e = nth_there order p t in
      let low : t.0 < number = ⊎_elim (λ (lt : t.0 < number). lt)
      (λ (ge : number ≤ t.0). absurd (both_ways (is_lt (record_cmp (nth_of kept order t.0) (at kept position)))
      (parted.back t.0 ge t.1)
      (ap (λ (n : ℕ). is_lt (record_cmp (at kept n) (at kept position))) e
      ∙ ap is_lt (reach_less (at kept p) (at kept position) r))))
      (cases_lt t.0 number) in
      let within : number ≤ length order = parted.within in
      let last_within : number - 1 < length order = omega (arith, low, within) in
      ⊎_elim (λ (less : t.0 < number - 1).
      let a_less = lt_from (record_cmp (nth_of kept order (number - 1)) (at kept position))
      (parted.front (number - 1) (omega (arith, low))) in
      let differs : nth order (number - 1) ≡ position → ⊥ = λ same.
      both_ways (is_lt (record_cmp (at kept position) (at kept position))) (not_itself (at kept position))
      (ap (λ (n : ℕ). is_lt (record_cmp (at kept n) (at kept position))) (sym same) ∙ ap is_lt a_less) in
      let a_within : nth order (number - 1) < position + 1 = placed.inside.each (number - 1) last_within in
      let a_lt : nth order (number - 1) < position =
      ⊎_elim (λ (lt : nth order (number - 1) < position). lt)
      (λ (ge : position ≤ nth order (number - 1)). absurd (differs (omega (arith, ge, a_within))))
      (cases_lt (nth order (number - 1)) position) in
      let p_less : record_cmp (at kept p) (nth_of kept order (number - 1)) ≡ Less =
      ap (λ (n : ℕ). record_cmp (at kept n) (nth_of kept order (number - 1))) (sym e)
      ∙ placed.rising.each t.0 (number - 1) less last_within in
      old_pair p (nth order (number - 1)) p_lt a_lt (latest_less kept position p latest)
      (latest_at (number - 1) last_within)
      (reach_middle (at kept p) (nth_of kept order (number - 1)) (at kept position) p_less a_less r))
      (λ (ge : number - 1 ≤ t.0).
      let same : number - 1 ≡ t.0 = omega (arith, ge, low) in
      let is : nth order (number - 1) ≡ p = ap (nth order) same ∙ e in
      subst (λ (n : ℕ). Contains after n) is
      (below (omega (arith, low)) (ap (λ (n : ℕ). reaches (at kept n) (at kept position)) is ∙ r)))
      (cases_lt t.0 (number - 1))

  -- the new one reaches behind an older one
  to_above : (q : ℕ) → q < position → IsLatest kept (position + 1) q → reaches (at kept position) (at kept q) ≡ true
      → Contains after position
  to_above q q_lt latest r =
      let t = placed.there q (omega (arith, q_lt)) latest in
      let e = nth_there order q t in
      let less = reach_less (at kept position) (at kept q) r in
      let from : number ≤ t.0 = ⊎_elim (λ (lt : t.0 < number).
      absurd (both_ways (is_lt (record_cmp (at kept q) (at kept position))) (not_back (at kept position) (at kept q) less)
      (ap (λ (n : ℕ). is_lt (record_cmp (at kept n) (at kept position))) (sym e) ∙ parted.front t.0 lt)))
      (λ (ge : number ≤ t.0). ge) (cases_lt t.0 number) in
      let differs : number ≡ t.0 → ⊥ = λ same.
      let is : position ≡ q = sym here_at ∙ ap (nth order) same ∙ e in
      absurd (omega (arith, is, q_lt)) in
      let next : number < t.0 = ⊎_elim (λ (lt : number < t.0). lt)
      (λ (ge : t.0 ≤ number). absurd (differs (omega (arith, from, ge)))) (cases_lt number t.0) in
      let t_within : t.0 < length order = t.1 in
      ⊎_elim (λ (more : number + 1 < t.0).
      above (omega (arith, more, t_within))
      (reach_middle (at kept position) (nth_of kept order (number + 1)) (at kept q)
      (ap (λ (n : ℕ). record_cmp (at kept n) (nth_of kept order (number + 1))) (sym here_at)
      ∙ placed.rising.each number (number + 1) (omega arith) (omega (arith, more, t_within)))
      (ap (λ (n : ℕ). record_cmp (nth_of kept order (number + 1)) (at kept n)) (sym e)
      ∙ placed.rising.each (number + 1) t.0 more t.1) r))
      (λ (ge : t.0 ≤ number + 1).
      let same : number + 1 ≡ t.0 = omega (arith, ge, next) in
      above (omega (arith, same, t_within))
      (ap (λ (n : ℕ). reaches (at kept position) (nth_of kept order n)) same
      ∙ ap (λ (n : ℕ). reaches (at kept position) (at kept n)) e ∙ r))
      (cases_lt (number + 1) t.0)

  pub noted : AreReaching kept (position + 1) after
  noted = record {
    order = ordered;
    each = λ p q p_within q_within p_latest q_latest r.
        ⊎_elim (λ (p_lt : p < position).
        ⊎_elim (λ (q_lt : q < position).
        old_pair p q p_lt q_lt (latest_less kept position p p_latest) (latest_less kept position q q_latest) r)
        (λ (q_ge : position ≤ q).
        let same : q ≡ position = omega (arith, q_ge, q_within) in
        from_below p p_lt p_latest (ap (λ (n : ℕ). reaches (at kept p) (at kept n)) (sym same) ∙ r))
        (cases_lt q position))
        (λ (p_ge : position ≤ p).
        let p_same : p ≡ position = omega (arith, p_ge, p_within) in
        let r_here : reaches (at kept position) (at kept q) ≡ true =
        ap (λ (n : ℕ). reaches (at kept n) (at kept q)) (sym p_same) ∙ r in
        subst (λ (n : ℕ). Contains after n) (sym p_same)
        (⊎_elim (λ (q_lt : q < position). to_above q q_lt q_latest r_here)
        (λ (q_ge : position ≤ q).
        let same : q ≡ position = omega (arith, q_ge, q_within) in
        absurd (both_ways (is_lt (record_cmp (at kept position) (at kept position))) (not_itself (at kept position))
        (ap is_lt (reach_less (at kept position) (at kept position)
        (ap (λ (n : ℕ). reaches (at kept position) (at kept n)) (sym same) ∙ r_here)))))
        (cases_lt q position)))
        (cases_lt p position);
  }

-- ---- records behind the others, and records that move

latest_back : (kept more : List KeptValue) (p : ℕ) → p < length kept → IsLatest (kept ++ more) (length kept) p
    → IsLatest kept (length kept) p
latest_back kept more p p_within l = record {
  each = λ later lt within.
      sym (ap (λ k. same_place k (at (kept ++ more) later)) (get_or_append_left kept more nowhere p p_within)
      ∙ ap (same_place (at kept p)) (get_or_append_left kept more nowhere later within)) ∙ l.each later lt within;
}

pub reaching_before : (kept more : List KeptValue) (reaching : List ℕ) → AreReaching kept (length kept) reaching
    → length kept ≤ length (kept ++ more) → AreReaching (kept ++ more) (length kept) reaching
reaching_before kept more reaching h longer = record {
  order = (let o = order_before (expiry_cmp ByZone) (expiry_total ByZone) kept reaching more h.order in record {
    inside = inside_up reaching (length kept) (length (kept ++ more)) o.inside longer;
    sorted = o.sorted;
  });
  each = λ p q p_within q_within p_latest q_latest r.
      h.each p q p_within q_within (latest_back kept more p p_within p_latest) (latest_back kept more q q_within q_latest)
      (sym (ap (λ k. reaches k (at (kept ++ more) q)) (get_or_append_left kept more nowhere p p_within)
      ∙ ap (reaches (at kept p)) (get_or_append_left kept more nowhere q q_within)) ∙ r);
}

pub reaching_compacted : (kept : List KeptValue) (order reaching : List ℕ) (gone : ℕ) (flags : List Bool)
    (numbers : List ℕ) (stayed : List KeptValue) (moved : List ℕ)
    → AreReaching kept (length kept) reaching → IsPlaced kept (length kept) order
    → AreMarked order gone (length kept) flags → AreCounted flags (length flags) numbers
    → stayed ≡ flagged flags kept → moved ≡ map (nth numbers) (filter (flag_at flags) reaching)
    → AreReaching stayed (length stayed) moved
reaching_compacted kept order reaching gone flags numbers stayed moved h placed marked counted stayed_is moved_is =
    record {
      order = order_compacted (expiry_cmp ByZone) (expiry_total ByZone) kept reaching flags numbers stayed moved h.order
          marked.long counted stayed_is moved_is;
      each = λ p q p_within q_within p_latest q_latest r.
          let m = moved_from flags kept p (shorter p p_within) in
          let n = moved_from flags kept q (shorter q q_within) in
          let t = h.each m.from n.from (inside_of m.from m.stays) (inside_of n.from n.stays)
          (latest_of m.from m.stays) (latest_of n.from n.stays)
          (sym (ap (λ k. reaches k (at stayed q)) (moved_is_at p m.from m.stays m.is)
          ∙ ap (reaches (at kept m.from)) (moved_is_at q n.from n.stays n.is)) ∙ r) in
          let among = contains_filter (flag_at flags) reaching t.0 m.from t.1 t.2 m.stays in
          let e : nth numbers m.from ≡ p = counted.each m.from (set_within flags m.from m.stays) ∙ m.is in
          subst (λ (os : List ℕ). Contains os p) (sym moved_is)
          (subst (λ (k : ℕ). Contains (map (nth numbers) (filter (flag_at flags) reaching)) k) e
          (contains_map (nth numbers) (filter (flag_at flags) reaching) among.0 m.from among.1 among.2));
    }
  where
    shorter : (p : ℕ) → p < length stayed → p < length (flagged flags kept)
    shorter p within = let e = ap length stayed_is in omega (arith, within, e)

    inside_of : (p : ℕ) → get_or flags p false ≡ true → p < length kept
    inside_of p stays = let lt = set_within flags p stays in let e = marked.long in omega (arith, lt, e)

    latest_of : (p : ℕ) → get_or flags p false ≡ true → IsLatest kept (length kept) p
    latest_of p stays =
        let t = (marked.unset p stays).1 in
        subst (λ (n : ℕ). IsLatest kept (length kept) n) (nth_there order p t) (placed.last t.0 t.1)

    moved_is_at : (to p : ℕ) → get_or flags p false ≡ true → count_set (take p flags) ≡ to → at stayed to ≡ at kept p
    moved_is_at to p stays is =
        ap (at stayed) (sym is) ∙ ap (λ (l : List KeptValue). at l (count_set (take p flags))) stayed_is
        ∙ moved_at flags kept p nowhere marked.long stays

-- ---- those of one zone

pub front_before_zone : (kept : List KeptValue) (order : List ℕ) (zone : Labels)
    → AreSorted (expiry_cmp ByZone) kept order → IsFront (λ k. before k.zone zone) kept order
front_before_zone kept order zone h = record {
  each = λ i j le within pass.
      ⊎_elim (λ (lt : i < j).
      before_by (nth_of kept order i).zone (nth_of kept order j).zone zone
      (name_cmp (nth_of kept order i).zone (nth_of kept order j).zone) refl
      (first_le (name_cmp (nth_of kept order i).zone (nth_of kept order j).zone)
      (nat_cmp (nth_of kept order i).expires (nth_of kept order j).expires) (h.each i j lt within)) pass)
      (λ (ge : j ≤ i).
      let same : i ≡ j = omega (arith, le, ge) in
      ap (λ (n : ℕ). before (nth_of kept order n).zone zone) same ∙ pass)
      (cases_lt i j);
}
  where
    before_by : (x y z : Labels) (o : Ordering) → name_cmp x y ≡ o → is_le o ≡ true → before y z ≡ true → before x z ≡ true
    before_by x y z Less is le h = ap is_lt (name_total.trans x y z is (lt_from (name_cmp y z) h))
    before_by x y z Equal is le h = ap is_lt (name_total.congr x y z is) ∙ h
    before_by x y z Greater is le h = cc

eq_between : (o : Ordering) → is_lt o ≡ false → is_le o ≡ true → is_eq o ≡ true
eq_between Less h k = cc
eq_between Equal h k = refl
eq_between Greater h k = cc

lt_if_eq : (o : Ordering) → is_eq o ≡ true → is_lt o ≡ false
lt_if_eq Less h = cc
lt_if_eq Equal h = refl
lt_if_eq Greater h = cc

le_if_eq : (o : Ordering) → is_eq o ≡ true → is_le o ≡ true
le_if_eq Less h = cc
le_if_eq Equal h = refl
le_if_eq Greater h = cc

le_if_lt : (o : Ordering) → is_lt o ≡ true → is_le o ≡ true
le_if_lt Less h = refl
le_if_lt Equal h = cc
le_if_lt Greater h = cc

module _ (kept : List KeptValue) (order : List ℕ) (zone : Labels) (low high : ℕ) (inside : AreInside (length kept) order)
    (from : IsParted (λ k. before k.zone zone) kept order low low)
    (to : IsParted (λ k. is_le (name_cmp k.zone zone)) kept order high high) where
  pub part_low_high : low ≤ high
  part_low_high = ⊎_elim (λ (lt : high < low).
      let within = from.within in
      absurd (both_ways (is_le (name_cmp (nth_of kept order high).zone zone))
      (to.back high (omega arith) (omega (arith, lt, within)))
      (le_if_lt (name_cmp (nth_of kept order high).zone zone) (from.front high lt))))
      (λ (le : low ≤ high). le)
      (cases_lt high low)

  part_nth : (i : ℕ) → i < length (slice_range order low high) → nth (slice_range order low high) i ≡ nth order (low + i)
  part_nth i within =
      let long = length-between order low high to.within in
      get_or-between order low high i 0 (omega (arith, within, long))

  pub zone_part : IsZonePart kept zone order (slice_range order low high)
  zone_part =
      let long = length-between order low high to.within in
      let end : high ≤ length order = to.within in
      record {
        inside = record {
          each = λ i within.
              let e = part_nth i within in
              let lt = inside.each (low + i) (omega (arith, within, long, end)) in
              omega (arith, e, lt);
        };
        only = λ i within.
            ap (λ (n : ℕ). name_eq (at kept n).zone zone) (part_nth i within)
            ∙ name_ties (nth_of kept order (low + i)).zone zone
            ∙ eq_between (name_cmp (nth_of kept order (low + i)).zone zone)
            (from.back (low + i) (omega arith) (omega (arith, within, long, end)))
            (to.front (low + i) (omega (arith, within, long)));
        each = λ p t same.
            let e = nth_there order p t in
            let tie : is_eq (name_cmp (nth_of kept order t.0).zone zone) ≡ true =
            sym (name_ties (nth_of kept order t.0).zone zone)
            ∙ ap (λ (n : ℕ). name_eq (at kept n).zone zone) e ∙ same in
            let low_le : low ≤ t.0 = ⊎_elim (λ (lt : t.0 < low).
            absurd (both_ways (before (nth_of kept order t.0).zone zone)
            (lt_if_eq (name_cmp (nth_of kept order t.0).zone zone) tie) (from.front t.0 lt)))
            (λ (le : low ≤ t.0). le) (cases_lt t.0 low) in
            let below_high : t.0 < high = ⊎_elim (λ (lt : t.0 < high). lt)
            (λ (le : high ≤ t.0). absurd (both_ways (is_le (name_cmp (nth_of kept order t.0).zone zone))
            (to.back t.0 le t.1) (le_if_eq (name_cmp (nth_of kept order t.0).zone zone) tie)))
            (cases_lt t.0 high) in
            let back : low + (t.0 - low) ≡ t.0 = omega (arith, low_le) in (
              t.0 - low,
              omega (arith, long, low_le, below_high),
              get_or-between order low high (t.0 - low) p (omega (arith, low_le, below_high))
                  ∙ ap (λ (n : ℕ). get_or order n p) back ∙ t.2,
            );
      }

-- a run with the part of what reaches that is of its zone
pub searchable : (list : List KeptValue) (zone : Labels) (run : ZoneRun) (kept : List KeptValue)
    (order reaching part : List ℕ) → IsZoneRun list zone run → run.kept.now ≡ kept
    → ((p : ℕ) → Contains run.positions.now p → Contains order p) → IsPlaced kept (length kept) order
    → AreReaching kept (length kept) reaching → IsZonePart kept zone reaching part → IsSearchable run part
searchable list zone run kept order reaching part h same among placed reach part_is =
    by (subst (λ (k : List KeptValue). IsPlaced k (length k) order) (sym same) placed)
    (subst (λ (k : List KeptValue). AreReaching k (length k) reaching) (sym same) reach)
    (subst (λ (k : List KeptValue). IsZonePart k zone reaching part) (sym same) part_is)
  where
    by : IsPlaced run.kept.now (length run.kept.now) order → AreReaching run.kept.now (length run.kept.now) reaching
        → IsZonePart run.kept.now zone reaching part → IsSearchable run part
    by placed reach part_is = record {
      zone = zone;
      list = list;
      is = h;
      inside = part_is.inside;
      only = part_is.only;
      each = λ p q p_there q_there r.
          let t = among p p_there in
          let u = among q q_there in
          let p_is = nth_there order p t in
          let q_is = nth_there order q u in
          let p_lt : p < length run.kept.now = (let lt = placed.inside.each t.0 t.1 in omega (arith, lt, p_is)) in
          let q_lt : q < length run.kept.now = (let lt = placed.inside.each u.0 u.1 in omega (arith, lt, q_is)) in
          part_is.each p
          (reach.each p q p_lt q_lt
          (subst (λ (n : ℕ). IsLatest run.kept.now (length run.kept.now) n) p_is (placed.last t.0 t.1))
          (subst (λ (n : ℕ). IsLatest run.kept.now (length run.kept.now) n) q_is (placed.last u.0 u.1)) r)
          (ap (λ (n : ℕ). name_eq (at run.kept.now n).zone zone) (sym (nth_there run.positions.now p p_there))
          ∙ h.only p_there.0 p_there.1);
    }
