-- The newest record of each place, as one more stands behind the others.
use Rattle.std.proofs.Common.{◌≡◌, ◌⊎◌, inl, inr, ℕ, ◌+◌, ◌-◌, ◌<◌, ◌≤◌, Bool, false, List, ◌++◌, length, set, Option, Some, sym, ap, ◌∙◌, subst, ⊎_elim, arith}
use Rattle.std.specs.List.{Contains, insert}
use Rattle.std.specs.Ordering.{is_eq, is_lt, ordering_reverse}
use Rattle.std.specs.declared.cmp.Ordering.TheVariants.{Less, Equal}
use Rattle.std.proofs.lemmas.Bool.{both_ways, cases_eq, cases_lt}
use Rattle.std.proofs.lemmas.List.{get_or_append_left, get_or_default, get_or-set_other, get_or-set_same, length-set}
use Rattle.std.proofs.lemmas.List.Edits.{get_or-insert_above, get_or-insert_at, get_or-insert_below, length-insert}
use Rattle.dns_model.proofs.NamesInOrder.{lt_from}
use Rattle.dns_aggressive.specs.Records.{KeptValue}
use Rattle.dns_aggressive.specs.Lists.{same_place}
use Rattle.dns_aggressive.specs.Places.{record_cmp}
use Rattle.dns_aggressive.specs.Orders.{at, nowhere, nth, nth_of, AreLatest, AreRising, IsLatest, IsParted, IsPlaced}
use Rattle.dns_aggressive.proofs.Places.{record_ties, record_total}
use Rattle.dns_aggressive.proofs.Orders.{greater_from}

-- ---- the records that come before one and those that come after it

-- the record at a position comes after those before the one number, and before those from the other one on
pub record IsGap (kept : List KeptValue) (order : List ℕ) (low high position : ℕ) : Type 0 where
  pub front : (k : ℕ) → k < low → record_cmp (nth_of kept order k) (at kept position) ≡ Less
  pub after : (k : ℕ) → high ≤ k → k < length order → record_cmp (at kept position) (nth_of kept order k) ≡ Less

abbrev before_place : List KeptValue → ℕ → KeptValue → Bool
before_place kept position k = is_lt (record_cmp k (at kept position))

pub parted_here : (kept : List KeptValue) (order seen : List ℕ) (number position : ℕ) (x : KeptValue) → seen ≡ order
    → x ≡ at kept position → IsParted (λ k. is_lt (record_cmp k x)) kept seen number number
    → IsParted (before_place kept position) kept order number number
parted_here kept order seen number position x same is h =
    subst (λ (y : KeptValue). IsParted (λ k. is_lt (record_cmp k y)) kept order number number) is
    (subst (λ (l : List ℕ). IsParted (λ k. is_lt (record_cmp k x)) kept l number number) same h)

pub tie_here : (kept : List KeptValue) (order : List ℕ) (number position old : ℕ) (x y : KeptValue) (b : Bool)
    → old ≡ nth order number → y ≡ at kept old → x ≡ at kept position → b ≡ is_eq (record_cmp y x)
    → is_eq (record_cmp (nth_of kept order number) (at kept position)) ≡ b
tie_here kept order number position old x y b is y_is x_is told =
    sym (told ∙ ap (λ z. is_eq (record_cmp z x)) (y_is ∙ ap (at kept) is)
    ∙ ap (λ z. is_eq (record_cmp (nth_of kept order number) z)) x_is)

parted_front : (kept : List KeptValue) (order : List ℕ) (number position : ℕ)
    → IsParted (before_place kept position) kept order number number
    → (k : ℕ) → k < number → record_cmp (nth_of kept order k) (at kept position) ≡ Less
parted_front kept order number position is k lt =
    lt_from (record_cmp (nth_of kept order k) (at kept position)) (is.front k lt)

pub gap_over : (kept : List KeptValue) (order : List ℕ) (number position : ℕ) → AreRising record_cmp kept order
    → IsParted (before_place kept position) kept order number number → number < length order
    → record_cmp (nth_of kept order number) (at kept position) ≡ Equal
    → IsGap kept order number (number + 1) position
gap_over kept order number position rising is within tie = record {
  front = parted_front kept order number position is;
  after = λ k le lt.
      sym (record_total.congr (nth_of kept order number) (at kept position) (nth_of kept order k) tie)
      ∙ rising.each number k (omega (arith, le)) lt;
}

pub gap_end : (kept : List KeptValue) (order : List ℕ) (number position : ℕ)
    → IsParted (before_place kept position) kept order number number → length order ≤ number
    → IsGap kept order number number position
gap_end kept order number position is end = record {
  front = parted_front kept order number position is;
  after = λ k le lt. absurd (omega (arith, le, lt, end));
}

pub gap_in : (kept : List KeptValue) (order : List ℕ) (number position : ℕ) → AreRising record_cmp kept order
    → IsParted (before_place kept position) kept order number number → number < length order
    → is_eq (record_cmp (nth_of kept order number) (at kept position)) ≡ false
    → IsGap kept order number number position
gap_in kept order number position rising is within other = record {
  front = parted_front kept order number position is;
  after = λ k le lt.
      let here : record_cmp (at kept position) (nth_of kept order number) ≡ Less =
      record_total.antisymm (at kept position) (nth_of kept order number)
      ∙ ap ordering_reverse (greater_from (record_cmp (nth_of kept order number) (at kept position))
      (is.back number (omega arith) within) other) in
      ⊎_elim (λ (more : number < k).
      record_total.trans (at kept position) (nth_of kept order number) (nth_of kept order k) here
      (rising.each number k more lt))
      (λ (same_ : k ≤ number).
      let same : k ≡ number = omega (arith, le, same_) in
      ap (λ (n : ℕ). record_cmp (at kept position) (nth_of kept order n)) same ∙ here)
      (cases_lt number k);
}

-- all others have another place
pub gap_apart : (kept : List KeptValue) (order : List ℕ) (low high position : ℕ) → IsGap kept order low high position
    → (k : ℕ) → k < length order → (k < low) ⊎ (high ≤ k)
    → same_place (nth_of kept order k) (at kept position) ≡ false
gap_apart kept order low high position gap k within side =
    record_ties (nth_of kept order k) (at kept position)
    ∙ ⊎_elim (λ (lt : k < low). ap is_eq (gap.front k lt))
    (λ (le : high ≤ k).
    ap is_eq (record_total.antisymm (nth_of kept order k) (at kept position)
    ∙ ap ordering_reverse (gap.after k le within)))
    side

-- ---- the latest of the first ones

pub latest_last : (kept : List KeptValue) (position : ℕ) → IsLatest kept (position + 1) position
latest_last kept position = record { each = λ later lt within. absurd (omega (arith, lt, within)) }

latest_more : (kept : List KeptValue) (position k : ℕ) → IsLatest kept position k
    → same_place (at kept k) (at kept position) ≡ false → IsLatest kept (position + 1) k
latest_more kept position k h apart = record {
  each = λ later lt within.
      ⊎_elim (λ (less : later < position). h.each later lt less)
      (λ (le : position ≤ later).
      let same : later ≡ position = omega (arith, le, within) in
      ap (λ (n : ℕ). same_place (at kept k) (at kept n)) same ∙ apart)
      (cases_lt later position);
}

pub latest_less : (kept : List KeptValue) (position k : ℕ) → IsLatest kept (position + 1) k → IsLatest kept position k
latest_less kept position k h = record { each = λ later lt within. h.each later lt (omega (arith, within)) }

-- ---- the position takes the place of another one

module _ (kept : List KeptValue) (order : List ℕ) (number position : ℕ) where
  over_same : number < length order → nth (set order number position) number ≡ position
  over_same within = get_or-set_same order number position 0 within

  over_other : (k : ℕ) → (k ≡ number → ⊥) → nth (set order number position) k ≡ nth order k
  over_other k other = get_or-set_other order number k position 0 other

  pub rising_over : AreRising record_cmp kept order → IsGap kept order number (number + 1) position
      → number < length order → AreRising record_cmp kept (set order number position)
  rising_over rising gap within = record {
    each = λ i j lt j_within_.
        let j_within : j < length order = omega (arith, j_within_, length-set order number position) in
        ⊎_elim (λ (here : i ≡ number).
        ap (λ (n : ℕ). record_cmp (nth_of kept (set order number position) n)
        (nth_of kept (set order number position) j)) here
        ∙ ap (λ (n : ℕ). record_cmp (at kept n) (nth_of kept (set order number position) j)) (over_same within)
        ∙ ap (λ (n : ℕ). record_cmp (at kept position) (at kept n))
        (over_other j (λ same. absurd (omega (arith, here, same, lt))))
        ∙ gap.after j (omega (arith, here, lt)) j_within)
        (λ (i_other : i ≡ number → ⊥).
        ap (λ (n : ℕ). record_cmp (at kept n) (nth_of kept (set order number position) j)) (over_other i i_other)
        ∙ ⊎_elim (λ (here : j ≡ number).
        ap (λ (n : ℕ). record_cmp (nth_of kept order i) (nth_of kept (set order number position) n)) here
        ∙ ap (λ (n : ℕ). record_cmp (nth_of kept order i) (at kept n)) (over_same within)
        ∙ gap.front i (omega (arith, here, lt)))
        (λ (j_other : j ≡ number → ⊥).
        ap (λ (n : ℕ). record_cmp (nth_of kept order i) (at kept n)) (over_other j j_other)
        ∙ rising.each i j lt j_within)
        (cases_eq j number))
        (cases_eq i number);
  }

  side_of : (k : ℕ) → (k ≡ number → ⊥) → (k < number) ⊎ (number + 1 ≤ k)
  side_of k other = ⊎_elim (λ (lt : k < number). inl lt)
      (λ (le : number ≤ k). ⊎_elim (λ (same : k ≡ number). absurd (other same))
      (λ (more : k ≡ number → ⊥). inr (omega (arith, le, more))) (cases_eq k number))
      (cases_lt k number)

  pub placed_over : IsPlaced kept position order → IsGap kept order number (number + 1) position
      → number < length order → record_cmp (nth_of kept order number) (at kept position) ≡ Equal
      → IsPlaced kept (position + 1) (set order number position)
  placed_over h gap within tie = record {
    inside = record {
      each = λ i i_within_.
          let i_within : i < length order = omega (arith, i_within_, length-set order number position) in
          ⊎_elim (λ (here : i ≡ number).
          let e : nth (set order number position) i ≡ position =
          ap (λ (n : ℕ). nth (set order number position) n) here ∙ over_same within in
          omega (arith, e))
          (λ (other : i ≡ number → ⊥).
          let e = over_other i other in
          let lt = h.inside.each i i_within in omega (arith, e, lt))
          (cases_eq i number);
    };
    rising = rising_over h.rising gap within;
    there = λ k k_within latest.
        ⊎_elim (λ (lt : k < position).
        let old = h.there k lt (latest_less kept position k latest) in
        let long : old.0 < length (set order number position) =
        (let l = old.1 in omega (arith, l, length-set order number position)) in
        ⊎_elim (λ (here : old.0 ≡ number).
        let e : nth order number ≡ k = ap (nth order) (sym here) ∙ get_or_default order old.0 0 k old.1 ∙ old.2 in
        absurd (both_ways (same_place (at kept k) (at kept position)) (latest.each position lt (omega arith))
        (record_ties (at kept k) (at kept position)
        ∙ ap (λ (n : ℕ). is_eq (record_cmp (at kept n) (at kept position))) (sym e) ∙ ap is_eq tie)))
        (λ (other : old.0 ≡ number → ⊥).
        (old.0, long, get_or-set_other order number old.0 position k other ∙ old.2))
        (cases_eq old.0 number))
        (λ (le : position ≤ k).
        let same : position ≡ k = omega (arith, le, k_within) in
        subst (λ (n : ℕ). Contains (set order number position) n) same (
          number,
          omega (arith, within, length-set order number position),
          get_or-set_same order number position position within,
        ))
        (cases_lt k position);
    last = λ i i_within_.
        let i_within : i < length order = omega (arith, i_within_, length-set order number position) in
        ⊎_elim (λ (here : i ≡ number).
        subst (λ (n : ℕ). IsLatest kept (position + 1) n)
        (sym (ap (λ (n : ℕ). nth (set order number position) n) here ∙ over_same within)) (latest_last kept position))
        (λ (other : i ≡ number → ⊥).
        subst (λ (n : ℕ). IsLatest kept (position + 1) n) (sym (over_other i other))
        (latest_more kept position (nth order i) (h.last i i_within)
        (gap_apart kept order number (number + 1) position gap i i_within (side_of i other))))
        (cases_eq i number);
  }

  -- ---- the position is put in

  pub in_below : (k : ℕ) → number ≤ length order → k < number → nth (insert order number position) k ≡ nth order k
  in_below k le lt = get_or-insert_below order number position 0 k lt le

  pub in_here : number ≤ length order → nth (insert order number position) number ≡ position
  in_here le = get_or-insert_at order number position 0 le

  pub in_above : (k : ℕ) → number ≤ length order → number < k → nth (insert order number position) k ≡ nth order (k - 1)
  in_above k le lt =
      let e : k ≡ k - 1 + 1 = omega (arith, lt) in
      ap (λ (n : ℕ). nth (insert order number position) n) e
      ∙ get_or-insert_above order number position 0 (k - 1) (omega (arith, lt)) le

  pub rising_in : AreRising record_cmp kept order → IsGap kept order number number position → number ≤ length order
      → AreRising record_cmp kept (insert order number position)
  rising_in rising gap le = record {
    each = λ i j lt j_within_.
        let j_within : j < length order + 1 = omega (arith, j_within_, length-insert order number position le) in
        ⊎_elim (λ (low : i < number).
        ap (λ (n : ℕ). record_cmp (at kept n) (nth_of kept (insert order number position) j)) (in_below i le low)
        ∙ ⊎_elim (λ (below : j < number).
        ap (λ (n : ℕ). record_cmp (nth_of kept order i) (at kept n)) (in_below j le below)
        ∙ rising.each i j lt (omega (arith, below, le)))
        (λ (from : number ≤ j).
        ⊎_elim (λ (above : number < j).
        ap (λ (n : ℕ). record_cmp (nth_of kept order i) (at kept n)) (in_above j le above)
        ∙ rising.each i (j - 1) (omega (arith, low, above)) (omega (arith, j_within, above)))
        (λ (to : j ≤ number).
        let here : j ≡ number = omega (arith, from, to) in
        ap (λ (n : ℕ). record_cmp (nth_of kept order i) (nth_of kept (insert order number position) n)) here
        ∙ ap (λ (n : ℕ). record_cmp (nth_of kept order i) (at kept n)) (in_here le)
        ∙ gap.front i low)
        (cases_lt number j))
        (cases_lt j number))
        (λ (high : number ≤ i).
        ap (λ (n : ℕ). record_cmp (nth_of kept (insert order number position) i) (at kept n))
        (in_above j le (omega (arith, high, lt)))
        ∙ ⊎_elim (λ (above : number < i).
        ap (λ (n : ℕ). record_cmp (at kept n) (nth_of kept order (j - 1))) (in_above i le above)
        ∙ rising.each (i - 1) (j - 1) (omega (arith, above, lt)) (omega (arith, j_within, lt)))
        (λ (to : i ≤ number).
        let here : i ≡ number = omega (arith, high, to) in
        ap (λ (n : ℕ). record_cmp (nth_of kept (insert order number position) n) (nth_of kept order (j - 1))) here
        ∙ ap (λ (n : ℕ). record_cmp (at kept n) (nth_of kept order (j - 1))) (in_here le)
        ∙ gap.after (j - 1) (omega (arith, here, lt)) (omega (arith, j_within, lt)))
        (cases_lt number i))
        (cases_lt i number);
  }

  pub placed_in : IsPlaced kept position order → IsGap kept order number number position → number ≤ length order
      → IsPlaced kept (position + 1) (insert order number position)
  placed_in h gap le = record {
    inside = record {
      each = λ i i_within_.
          let i_within : i < length order + 1 = omega (arith, i_within_, length-insert order number position le) in
          ⊎_elim (λ (low : i < number).
          let e = in_below i le low in
          let lt = h.inside.each i (omega (arith, low, le)) in omega (arith, e, lt))
          (λ (from : number ≤ i).
          ⊎_elim (λ (above : number < i).
          let e = in_above i le above in
          let lt = h.inside.each (i - 1) (omega (arith, above, i_within)) in omega (arith, e, lt))
          (λ (to : i ≤ number).
          let here : i ≡ number = omega (arith, from, to) in
          let e : nth (insert order number position) i ≡ position =
          ap (λ (n : ℕ). nth (insert order number position) n) here ∙ in_here le in
          omega (arith, e))
          (cases_lt number i))
          (cases_lt i number);
    };
    rising = rising_in h.rising gap le;
    there = λ k k_within latest.
        ⊎_elim (λ (lt : k < position).
        let old = h.there k lt (latest_less kept position k latest) in
        let long = length-insert order number position le in
        let old_within : old.0 < length order = old.1 in
        ⊎_elim (λ (low : old.0 < number).
        (old.0, omega (arith, long, old_within), get_or-insert_below order number position k old.0 low le ∙ old.2))
        (λ (from : number ≤ old.0). (
          old.0 + 1,
          omega (arith, long, old_within),
          get_or-insert_above order number position k old.0 from le ∙ old.2,
        ))
        (cases_lt old.0 number))
        (λ (from : position ≤ k).
        let same : position ≡ k = omega (arith, from, k_within) in
        subst (λ (n : ℕ). Contains (insert order number position) n) same (
          number,
          omega (arith, le, length-insert order number position le),
          get_or-insert_at order number position position le,
        ))
        (cases_lt k position);
    last = λ i i_within_.
        let i_within : i < length order + 1 = omega (arith, i_within_, length-insert order number position le) in
        ⊎_elim (λ (low : i < number).
        subst (λ (n : ℕ). IsLatest kept (position + 1) n) (sym (in_below i le low))
        (latest_more kept position (nth order i) (h.last i (omega (arith, low, le)))
        (gap_apart kept order number number position gap i (omega (arith, low, le)) (inl low))))
        (λ (from : number ≤ i).
        ⊎_elim (λ (above : number < i).
        subst (λ (n : ℕ). IsLatest kept (position + 1) n) (sym (in_above i le above))
        (latest_more kept position (nth order (i - 1)) (h.last (i - 1) (omega (arith, above, i_within)))
        (gap_apart kept order number number position gap (i - 1) (omega (arith, above, i_within))
        (inr (omega (arith, above))))))
        (λ (to : i ≤ number).
        let here : i ≡ number = omega (arith, from, to) in
        subst (λ (n : ℕ). IsLatest kept (position + 1) n)
        (sym (ap (λ (n : ℕ). nth (insert order number position) n) here ∙ in_here le)) (latest_last kept position))
        (cases_lt number i))
        (cases_lt i number);
  }

  -- each latest record but the one whose place is taken has another place
  pub others_over : IsPlaced kept position order → IsGap kept order number (number + 1) position
      → (other : ℕ) → other < position → IsLatest kept position other → (Some (nth order number) ≡ Some other → ⊥)
      → same_place (at kept other) (at kept position) ≡ false
  others_over h gap other lt latest differs =
      let old = h.there other lt latest in
      let e : nth order old.0 ≡ other = get_or_default order old.0 0 other old.1 ∙ old.2 in
      ap (λ (n : ℕ). same_place (at kept n) (at kept position)) (sym e)
      ∙ gap_apart kept order number (number + 1) position gap old.0 old.1
      (side_of old.0 (λ same. differs (ap Some (ap (nth order) (sym same) ∙ e))))

  pub others_in : IsPlaced kept position order → IsGap kept order number number position
      → (other : ℕ) → other < position → IsLatest kept position other
      → same_place (at kept other) (at kept position) ≡ false
  others_in h gap other lt latest =
      let old = h.there other lt latest in
      let e : nth order old.0 ≡ other = get_or_default order old.0 0 other old.1 ∙ old.2 in
      ap (λ (n : ℕ). same_place (at kept n) (at kept position)) (sym e)
      ∙ gap_apart kept order number number position gap old.0 old.1 (cases_lt old.0 number)

-- ---- as records are gone over

pub all_latest_more : (kept : List KeptValue) (gone position : ℕ) (old : Option ℕ) → AreLatest kept gone position
    → ((other : ℕ) → other < position → IsLatest kept position other → (old ≡ Some other → ⊥)
    → same_place (at kept other) (at kept position) ≡ false)
    → ((k : ℕ) → gone ≤ k → old ≡ Some k → ⊥) → AreLatest kept gone (position + 1)
all_latest_more kept gone position old h others none = record {
  each = λ k from within.
      ⊎_elim (λ (lt : k < position).
      let latest = h.each k from lt in
      latest_more kept position k latest (others k lt latest (none k from)))
      (λ (le : position ≤ k).
      let same : position ≡ k = omega (arith, le, within) in
      subst (λ (n : ℕ). IsLatest kept (position + 1) n) same (latest_last kept position))
      (cases_lt k position);
}

-- records behind the others change nothing of these
pub placed_before : (kept more : List KeptValue) (order : List ℕ) → IsPlaced kept (length kept) order
    → IsPlaced (kept ++ more) (length kept) order
placed_before kept more order h =
    let same : (p : ℕ) → p < length kept → at (kept ++ more) p
    ≡ at kept p = λ p lt. get_or_append_left kept more nowhere p lt in
    let latest : (p : ℕ) → p < length kept → IsLatest kept (length kept) p → IsLatest (kept ++ more) (length kept) p =
    λ p p_within l. record {
      each = λ later lt within.
          ap (λ k. same_place k (at (kept ++ more) later)) (same p p_within)
          ∙ ap (same_place (at kept p)) (same later within) ∙ l.each later lt within;
    } in
    let back : (p : ℕ) → p < length kept → IsLatest (kept ++ more) (length kept) p → IsLatest kept (length kept) p =
    λ p p_within l. record {
      each = λ later lt within.
          sym (ap (λ k. same_place k (at (kept ++ more) later)) (same p p_within)
          ∙ ap (same_place (at kept p)) (same later within)) ∙ l.each later lt within;
    } in
    record {
      inside = h.inside;
      rising = record {
        each = λ i j lt j_within.
            ap (λ k. record_cmp k (nth_of (kept ++ more) order j))
            (same (nth order i) (h.inside.each i (omega (arith, lt, j_within))))
            ∙ ap (record_cmp (nth_of kept order i)) (same (nth order j) (h.inside.each j j_within))
            ∙ h.rising.each i j lt j_within;
      };
      there = λ p within l. h.there p within (back p within l);
      last = λ i within. latest (nth order i) (h.inside.each i within) (h.last i within);
    }

pub latest_before : (kept more : List KeptValue) (gone : ℕ) → AreLatest kept gone (length kept)
    → AreLatest (kept ++ more) gone (length kept)
latest_before kept more gone h = record {
  each = λ p from within. record {
    each = λ later lt later_within.
        ap (λ k. same_place k (at (kept ++ more) later)) (get_or_append_left kept more nowhere p within)
        ∙ ap (same_place (at kept p)) (get_or_append_left kept more nowhere later later_within)
        ∙ (h.each p from within).each later lt later_within;
  };
}
