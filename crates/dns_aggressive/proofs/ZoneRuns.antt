-- The records of a zone: where they stand, and that nothing else of the list matters for it.
use Rattle.std.proofs.Common.{◌≡◌, ℕ, zero, suc, ◌+◌, ◌-◌, ◌<◌, ◌≤◌, Bool, true, false, cond, ◌&&◌, List, [], ◌∷◌, length, take, get_or, Option, None, Some, is_some, refl, sym, ap, ◌∙◌, subst, ⊎_elim, arith}
use Rattle.std.specs.Prelude.{nat_le, slice_range}
use Rattle.std.specs.List.{Contains, cons_option, filter, filter_map, list_any}
use Rattle.std.specs.Option.{option_and_then, option_map, option_map_or}
use Rattle.std.specs.Cmp.Lexicographic.{slice_cmp}
use Rattle.std.specs.Ordering.{is_eq, is_le, is_lt, nat_cmp, ordering_then}
use Rattle.std.specs.declared.cmp.Ordering.{Ordering}
use Rattle.std.specs.declared.cmp.Ordering.TheVariants.{Less, Equal, Greater}
use Rattle.std.proofs.lemmas.Bool.{both_ways, cases_lt, false_from_ne_true, le-leb, leb-true}
use Rattle.std.proofs.lemmas.List.{get_or_default, get_or-drop, length-drop}
use Rattle.std.proofs.lemmas.List.Edits.{get_or-between, length-between}
use Rattle.std.proofs.lemmas.List.Folds.{list_any_none}
use Rattle.dns_model.specs.declared.answered.Answered.TheVariants.{No}
use Rattle.dns_model.specs.declared.proof.Proof.{Proof}
use Rattle.dns_model.specs.Names.{Labels, before, name_cmp, name_eq, star}
use Rattle.dns_model.specs.Owned.{OwnedNsec, OwnedNsec3}
use Rattle.dns_model.specs.Records.{Question}
use Rattle.dns_model.specs.SoundAnswers.{is_secure}
use Rattle.dns_model.specs.Types.{code_no_error, code_nx_domain}
use Rattle.dns_model.proofs.NameLemmas.{name_equiv}
use Rattle.dns_model.proofs.NamesInOrder.{le_trans, lt_from}
use Rattle.dns_model.proofs.OrderLemmas.{name_ties, name_total}
use Rattle.dns_rules.specs.NsecVerdict.{nsec_verdict}
use Rattle.dns_rules.specs.Nsec3Verdict.{Parameters}
use Rattle.dns_aggressive.specs.declared.kept.KeptRecord.{KeptRecord}
use Rattle.dns_aggressive.specs.declared.kept.KeptRecord.TheVariants.{Nsec, Nsec3}
use Rattle.dns_aggressive.specs.declared.zone_run.ZoneRun.{ZoneRun}
use Rattle.dns_aggressive.specs.Records.{KeptValue, is_live, nsec_of, nsec3_of, way_of}
use Rattle.dns_aggressive.specs.Lists.{place_in, place_of, same_place}
use Rattle.dns_aggressive.specs.Places.{place_cmp, record_cmp}
use Rattle.dns_aggressive.specs.Orders.{at, nowhere, nth, nth_of, AreInside, AreLatest, AreRising, IsFront, IsParted, IsPlaced}
use Rattle.dns_aggressive.specs.Denials.{at_most, code_by, group, hashed_ways, distinct, is_live_in, nsecs_in, seconds_left, shown_code, verdict}
use Rattle.dns_aggressive.specs.Answers.{hashed_answer, named_answer}
use Rattle.dns_aggressive.specs.ZoneRuns.{IsZoneRun, is_hashed, standing, standing_at, stands_hashed}
use Rattle.dns_aggressive.specs.Agreeing.{AreAround, AreOwnedApart, ArePart}
use Rattle.dns_aggressive.proofs.Orders.{equal_from, front_if}
use Rattle.dns_aggressive.proofs.LiveRecords.{nsecs_of_group}
use Rattle.dns_aggressive.proofs.Agreeing.{any_from, verdict_same}

-- ---- zones in the order of places

place_zone_in : (zone : Labels) (item : KeptRecord) → (place_in zone item).zone ≡ zone
place_zone_in zone (Nsec nsec) = refl
place_zone_in zone (Nsec3 nsec3) = refl

not_after : (o a b c d : Ordering)
    → ordering_then (ordering_then (ordering_then (ordering_then o a) b) c) d ≡ Less → is_le o ≡ true
not_after Less a b c d h = refl
not_after Equal a b c d h = refl
not_after Greater a b c d h = cc

pub zone_not_after : (one two : KeptValue) → record_cmp one two ≡ Less → is_le (name_cmp one.zone two.zone) ≡ true
zone_not_after one two h =
    ap (λ z. is_le (name_cmp z two.zone)) (sym (place_zone_in one.zone one.item))
    ∙ ap (λ z. is_le (name_cmp (place_of one).zone z)) (sym (place_zone_in two.zone two.item))
    ∙ not_after (name_cmp (place_of one).zone (place_of two).zone) _ _ _ _ h

before_by : (x y z : Labels) (o : Ordering) → name_cmp x y ≡ o → is_le o ≡ true → before y z ≡ true → before x z ≡ true
before_by x y z Less is le h = ap is_lt (name_total.trans x y z is (lt_from (name_cmp y z) h))
before_by x y z Equal is le h = ap is_lt (name_total.congr x y z is) ∙ h
before_by x y z Greater is le h = cc

pub front_of_zone : (kept : List KeptValue) (order : List ℕ) (zone : Labels) → AreRising record_cmp kept order
    → IsFront (λ k. before k.zone zone) kept order
front_of_zone kept order zone h =
    front_if (λ k. before k.zone zone) record_cmp kept order
    (λ one two less pass.
    before_by one.zone two.zone zone (name_cmp one.zone two.zone) refl (zone_not_after one two less) pass) h

pub front_up_to_zone : (kept : List KeptValue) (order : List ℕ) (zone : Labels) → AreRising record_cmp kept order
    → IsFront (λ k. is_le (name_cmp k.zone zone)) kept order
front_up_to_zone kept order zone h =
    front_if (λ k. is_le (name_cmp k.zone zone)) record_cmp kept order
    (λ one two less pass. le_trans one.zone two.zone zone (zone_not_after one two less) pass) h

le_if_lt : (o : Ordering) → is_lt o ≡ true → is_le o ≡ true
le_if_lt Less h = refl
le_if_lt Equal h = cc
le_if_lt Greater h = cc

eq_between : (o : Ordering) → is_lt o ≡ false → is_le o ≡ true → is_eq o ≡ true
eq_between Less h k = cc
eq_between Equal h k = refl
eq_between Greater h k = cc

lt_if_eq : (o : Ordering) → is_eq o ≡ true → is_lt o ≡ false
lt_if_eq Less h = cc
lt_if_eq Equal h = refl
lt_if_eq Greater h = cc

le_if_eq : (o : Ordering) → is_eq o ≡ true → is_le o ≡ true
le_if_eq Less h = cc
le_if_eq Equal h = refl
le_if_eq Greater h = cc

module _ (kept : List KeptValue) (order : List ℕ) (gone : ℕ) (zone : Labels) (low high : ℕ)
    (placed : IsPlaced kept (length kept) order) (latest : AreLatest kept gone (length kept))
    (from : IsParted (λ k. before k.zone zone) kept order low low)
    (to : IsParted (λ k. is_le (name_cmp k.zone zone)) kept order high high) where
  pub low_high : low ≤ high
  low_high = ⊎_elim (λ (lt : high < low).
      let within = from.within in
      let none : ⊥ = both_ways (is_le (name_cmp (nth_of kept order high).zone zone))
      (to.back high (omega arith) (omega (arith, lt, within)))
      (le_if_lt (name_cmp (nth_of kept order high).zone zone) (from.front high lt)) in
      absurd none)
      (λ (le : low ≤ high). le)
      (cases_lt high low)

  pub high_within : high ≤ length order
  high_within = to.within

  abbrev run : List ℕ
  run = slice_range order low high

  run_nth : (i : ℕ) → i < length run → nth run i ≡ nth order (low + i)
  run_nth i within =
      let long = length-between order low high to.within in
      get_or-between order low high i 0 (omega (arith, within, long))

  pub run_inside : AreInside (length kept) run
  run_inside = record {
    each = λ i within.
        let long = length-between order low high to.within in
        let e = run_nth i within in
        let end = to.within in
        let lt = placed.inside.each (low + i) (omega (arith, within, long, end)) in
        omega (arith, e, lt);
  }

  pub run_rising : AreRising record_cmp kept run
  run_rising = record {
    each = λ i j lt within.
        let long = length-between order low high to.within in
        let end = to.within in
        ap (λ (n : ℕ). record_cmp (at kept n) (nth_of kept run j)) (run_nth i (omega (arith, lt, within)))
        ∙ ap (λ (n : ℕ). record_cmp (nth_of kept order (low + i)) (at kept n)) (run_nth j within)
        ∙ placed.rising.each (low + i) (low + j) (omega (arith, lt)) (omega (arith, within, long, end));
  }

  pub run_among : (position : ℕ) → Contains run position → Contains order position
  run_among position t =
      let long = length-between order low high to.within in
      let end = to.within in
      let t_within = t.1 in (
        low + t.0,
        omega (arith, t_within, long, end),
        sym (get_or-between order low high t.0 position (omega (arith, t_within, long))) ∙ t.2,
      )

  pub run_only : (i : ℕ) → i < length run → name_eq (nth_of kept run i).zone zone ≡ true
  run_only i within =
      let long = length-between order low high to.within in
      let end = to.within in
      ap (λ (n : ℕ). name_eq (at kept n).zone zone) (run_nth i within)
      ∙ name_ties (nth_of kept order (low + i)).zone zone
      ∙ eq_between (name_cmp (nth_of kept order (low + i)).zone zone)
      (from.back (low + i) (omega arith) (omega (arith, within, long, end)))
      (to.front (low + i) (omega (arith, within, long)))

  pub run_each : (position : ℕ) → gone ≤ position → position < length kept → name_eq (at kept position).zone zone ≡ true
      → Contains run position
  run_each position after within same =
      let there = placed.there position within (latest.each position after within) in
      let i : ℕ = there.0 in
      let i_within : there.0 < length order = there.1 in
      let e : nth order there.0 ≡ position = get_or_default order there.0 0 position there.1 ∙ there.2 in
      let tie : is_eq (name_cmp (nth_of kept order there.0).zone zone) ≡ true =
      sym (name_ties (nth_of kept order there.0).zone zone)
      ∙ ap (λ (n : ℕ). name_eq (at kept n).zone zone) e ∙ same in
      let low_le : low ≤ there.0 =
      ⊎_elim (λ (lt : there.0 < low).
      let none : ⊥ = both_ways (before (nth_of kept order there.0).zone zone)
      (lt_if_eq (name_cmp (nth_of kept order there.0).zone zone) tie) (from.front there.0 lt) in
      absurd none)
      (λ (le : low ≤ there.0). le) (cases_lt there.0 low) in
      let below_high : there.0 < high =
      ⊎_elim (λ (lt : there.0 < high). lt)
      (λ (le : high ≤ there.0).
      let none : ⊥ = both_ways (is_le (name_cmp (nth_of kept order there.0).zone zone))
      (to.back there.0 le i_within)
      (le_if_eq (name_cmp (nth_of kept order there.0).zone zone) tie) in
      absurd none)
      (cases_lt there.0 high) in
      let back : low + (there.0 - low) ≡ there.0 = omega (arith, low_le) in
      let long = length-between order low high to.within in (
        there.0 - low,
        omega (arith, long, low_le, below_high),
        get_or-between order low high (there.0 - low) position (omega (arith, low_le, below_high))
            ∙ ap (λ (n : ℕ). get_or order n position) back ∙ there.2,
      )

-- ---- what a list of some records contains

pub fm_into : {X Y : Type 0} (f : X → Option Y) (xs : List X) (i : ℕ) (x : X) (y : Y) → i < length xs → get_or xs i x ≡ x
    → f x ≡ Some y → Contains (filter_map f xs) y
fm_into f [] i x y within is gives = absurd (omega (arith, within))
fm_into f (z ∷ xs) zero x y within is gives =
    subst (λ o. Contains (cons_option o (filter_map f xs)) y) (sym (ap f is ∙ gives)) (zero, omega arith, refl)
fm_into f (z ∷ xs) (suc i) x y within is gives =
    let more = fm_into f xs i x y (omega (arith, within)) is gives in
    elim (f z) as (λ o. Contains (cons_option o (filter_map f xs)) y) [
      | None ↦ more
      | Some w ↦ (suc more.0, (let lt = more.1 in omega (arith, lt)), more.2)
    ]

-- an element from which one comes
pub record ComesFrom {X Y : Type 0} (f : X → Option Y) (xs : List X) (y : Y) : Type 0 where
  pub source : X
  pub there : Contains xs source
  pub gives : f source ≡ Some y

from_more : {X Y : Type 0} (f : X → Option Y) (z : X) (xs : List X) (y : Y) → ComesFrom f xs y → ComesFrom f (z ∷ xs) y
from_more f z xs y h = record {
  source = h.source;
  there = (let t = h.there in (suc t.0, (let lt = t.1 in omega (arith, lt)), t.2));
  gives = h.gives;
}

fm_step : {X Y : Type 0} (f : X → Option Y) (z : X) (xs : List X) (y : Y) (o : Option Y) → f z ≡ o → (i : ℕ)
    → i < length (cons_option o (filter_map f xs)) → get_or (cons_option o (filter_map f xs)) i y ≡ y
    → ((i : ℕ) → i < length (filter_map f xs) → get_or (filter_map f xs) i y ≡ y → ComesFrom f xs y)
    → ComesFrom f (z ∷ xs) y
fm_step f z xs y None is i within at_ more = from_more f z xs y (more i within at_)
fm_step f z xs y (Some w) is zero within at_ more =
    record { source = z; there = (zero, omega arith, refl); gives = is ∙ ap Some at_ }
fm_step f z xs y (Some w) is (suc i) within at_ more = from_more f z xs y (more i (omega (arith, within)) at_)

pub fm_from : {X Y : Type 0} (f : X → Option Y) (xs : List X) (y : Y) (i : ℕ) → i < length (filter_map f xs)
    → get_or (filter_map f xs) i y ≡ y → ComesFrom f xs y
fm_from f [] y i within is = absurd (omega (arith, within))
fm_from f (z ∷ xs) y i within is = fm_step f z xs y (f z) refl i within is (λ j w e. fm_from f xs y j w e)

pub filter_into : {X : Type 0} (p : X → Bool) (xs : List X) (i : ℕ) (x : X) → i < length xs → get_or xs i x ≡ x
    → p x ≡ true → Contains (filter p xs) x
filter_into p [] i x within is pass = absurd (omega (arith, within))
filter_into p (z ∷ xs) zero x within is pass =
    subst (λ b. Contains (cond b (z ∷ filter p xs) (filter p xs)) x) (sym (ap p is ∙ pass)) (zero, omega arith, is)
filter_into p (z ∷ xs) (suc i) x within is pass =
    let more = filter_into p xs i x (omega (arith, within)) is pass in
    elim (p z) as (λ b. Contains (cond b (z ∷ filter p xs) (filter p xs)) x) [
      | true ↦ (suc more.0, (let lt = more.1 in omega (arith, lt)), more.2)
      | false ↦ more
    ]

pub record Passes {X : Type 0} (p : X → Bool) (xs : List X) (x : X) : Type 0 where
  pub there : Contains xs x
  pub passes : p x ≡ true

passes_more : {X : Type 0} (p : X → Bool) (z : X) (xs : List X) (x : X) → Passes p xs x → Passes p (z ∷ xs) x
passes_more p z xs x h = record {
  there = (let t = h.there in (suc t.0, (let lt = t.1 in omega (arith, lt)), t.2));
  passes = h.passes;
}

filter_step : {X : Type 0} (p : X → Bool) (z : X) (xs : List X) (x : X) (b : Bool) → p z ≡ b → (i : ℕ)
    → i < length (cond b (z ∷ filter p xs) (filter p xs)) → get_or (cond b (z ∷ filter p xs) (filter p xs)) i x ≡ x
    → ((i : ℕ) → i < length (filter p xs) → get_or (filter p xs) i x ≡ x → Passes p xs x) → Passes p (z ∷ xs) x
filter_step p z xs x false is i within at_ more = passes_more p z xs x (more i within at_)
filter_step p z xs x true is zero within at_ more =
    record { there = (zero, omega arith, at_); passes = sym (ap p at_) ∙ is }
filter_step p z xs x true is (suc i) within at_ more = passes_more p z xs x (more i (omega (arith, within)) at_)

pub filter_from : {X : Type 0} (p : X → Bool) (xs : List X) (x : X) (i : ℕ) → i < length (filter p xs)
    → get_or (filter p xs) i x ≡ x → Passes p xs x
filter_from p [] x i within is = absurd (omega (arith, within))
filter_from p (z ∷ xs) x i within is = filter_step p z xs x (p z) refl i within is (λ j w e. filter_from p xs x j w e)

fm_none : {X Y : Type 0} (f : X → Option Y) (xs : List X) → ((x : X) → Contains xs x → f x ≡ None)
    → filter_map f xs ≡ []
fm_none f [] none = refl
fm_none f (z ∷ xs) none =
    ap (λ o. cons_option o (filter_map f xs)) (none z (zero, omega arith, refl))
    ∙ fm_none f xs (λ x t. none x (suc t.0, (let lt = t.1 in omega (arith, lt)), t.2))

-- ---- the records that stand are the live ones of the zone

left_true : (a b : Bool) → (a && b) ≡ true → a ≡ true
left_true true b h = refl
left_true false b h = cc

right_true : (a b : Bool) → (a && b) ≡ true → b ≡ true
right_true true b h = h
right_true false b h = cc

both_true : (a b : Bool) → a ≡ true → b ≡ true → (a && b) ≡ true
both_true true b h k = k
both_true false b h k = cc

-- a position at which a record stands
pub record IsStanding (kept : List KeptValue) (gone now position : ℕ) (x : KeptValue) : Type 0 where
  pub after : gone ≤ position
  pub live : is_live now (at kept position) ≡ true
  pub is : at kept position ≡ x

standing_step : (kept : List KeptValue) (gone now position : ℕ) (x : KeptValue) (a b : Bool) → nat_le gone position ≡ a
    → is_live now (at kept position) ≡ b
    → cond (a && b) (Some (at kept position)) None ≡ Some x → IsStanding kept gone now position x
standing_step kept gone now position x true true h k is = record { after = leb-true gone position h; live = k; is = cc }
standing_step kept gone now position x true false h k is = cc
standing_step kept gone now position x false b h k is = cc

pub standing_from : (kept : List KeptValue) (gone now position : ℕ) (x : KeptValue)
    → standing_at kept gone now position ≡ Some x → IsStanding kept gone now position x
standing_from kept gone now position x h =
    standing_step kept gone now position x (nat_le gone position) (is_live now (at kept position)) refl refl h

standing_into : (kept : List KeptValue) (gone now position : ℕ) (x : KeptValue) → gone ≤ position → at kept position ≡ x
    → is_live now x ≡ true → standing_at kept gone now position ≡ Some x
standing_into kept gone now position x after is live =
    ap (λ b. cond b (Some (at kept position)) None)
    (both_true (nat_le gone position) (is_live now (at kept position)) (le-leb gone position after)
    (ap (is_live now) is ∙ live))
    ∙ ap Some is

module _ (list : List KeptValue) (zone : Labels) (run : ZoneRun) (now : ℕ) (h : IsZoneRun list zone run) where
  abbrev zone_live : List KeptValue
  zone_live = filter (is_live_in now zone) list

  abbrev run_live : List KeptValue
  run_live = standing run now run.positions.now

  list_at : (position : ℕ) (d : KeptValue) → run.gone ≤ position → position < length run.kept.now
      → Contains list (at run.kept.now position)
  list_at position d after within =
      let back : run.gone + (position - run.gone) ≡ position = omega (arith, after) in
      let x : KeptValue = at run.kept.now position in
      subst (λ (l : List KeptValue). Contains l (at run.kept.now position)) h.is (
        position - run.gone,
        omega (arith, after, within, length-drop run.gone run.kept.now),
        get_or-drop run.gone run.kept.now (position - run.gone) (at run.kept.now position)
            ∙ ap (λ (n : ℕ). get_or run.kept.now n (at run.kept.now position)) back
            ∙ get_or_default run.kept.now position (at run.kept.now position) nowhere within,
      )

  -- the position of a record of the list
  position_of : (x : KeptValue) → (i : ℕ) → i < length list → get_or list i x ≡ x → at run.kept.now (run.gone + i) ≡ x
  position_of x i within is =
      let long : length list ≡ length run.kept.now - run.gone = sym (ap length h.is)
      ∙ length-drop run.gone run.kept.now in
      get_or_default run.kept.now (run.gone + i) nowhere x (omega (arith, within, long))
      ∙ sym (get_or-drop run.gone run.kept.now i x) ∙ ap (λ (l : List KeptValue). get_or l i x) h.is ∙ is

  position_within : (i : ℕ) → i < length list → run.gone + i < length run.kept.now
  position_within i within =
      let long : length list ≡ length run.kept.now - run.gone = sym (ap length h.is)
      ∙ length-drop run.gone run.kept.now in
      omega (arith, within, long)

  pub live_from : (x : KeptValue) → Contains run_live x → Contains zone_live x
  live_from x t =
      let c = fm_from (standing_at run.kept.now run.gone now) run.positions.now x t.0 t.1 t.2 in
      let s = standing_from run.kept.now run.gone now c.source x c.gives in
      let there = c.there in
      let number : nth run.positions.now there.0 ≡ c.source =
      get_or_default run.positions.now there.0 0 c.source there.1 ∙ there.2 in
      let lt = h.inside.each there.0 there.1 in
      let within : c.source < length run.kept.now = omega (arith, number, lt) in
      let among : Contains list x = subst (Contains list) s.is (list_at c.source x s.after within) in
      let zone_is : name_eq x.zone zone ≡ true =
      ap (λ k. name_eq k.zone zone) (sym s.is) ∙ ap (λ (n : ℕ). name_eq (at run.kept.now n).zone zone) (sym number)
      ∙ h.only there.0 there.1 in
      filter_into (is_live_in now zone) list among.0 x among.1 among.2
      (both_true (is_live now x) (name_eq x.zone zone) (ap (is_live now) (sym s.is) ∙ s.live) zone_is)

  pub live_into : (x : KeptValue) → Contains zone_live x → Contains run_live x
  live_into x t =
      let p = filter_from (is_live_in now zone) list x t.0 t.1 t.2 in
      let there = p.there in
      let is = position_of x there.0 there.1 there.2 in
      let within = position_within there.0 there.1 in
      let live = left_true (is_live now x) (name_eq x.zone zone) p.passes in
      let zone_is = right_true (is_live now x) (name_eq x.zone zone) p.passes in
      let among = h.each (run.gone + there.0) (omega arith) within (ap (λ k. name_eq k.zone zone) is ∙ zone_is) in
      fm_into (standing_at run.kept.now run.gone now) run.positions.now among.0 (run.gone + there.0) x among.1 among.2
      (standing_into run.kept.now run.gone now (run.gone + there.0) x (omega arith) is live)

  -- ---- NSEC records

  pub nsecs_part : ArePart (nsecs_in run_live) (nsecs_in zone_live)
  nsecs_part = record {
    each = λ n t.
        let c = fm_from (λ k. nsec_of k.item) run_live n t.0 t.1 t.2 in
        let z = live_from c.source c.there in
        fm_into (λ k. nsec_of k.item) zone_live z.0 c.source n z.1 z.2 c.gives;
  }

  pub nsecs_around : (name : Labels) → AreAround name (nsecs_in run_live) (nsecs_in zone_live)
  nsecs_around name = record {
    each = λ n t pass.
        let c = fm_from (λ k. nsec_of k.item) zone_live n t.0 t.1 t.2 in
        let z = live_into c.source c.there in
        fm_into (λ k. nsec_of k.item) run_live z.0 c.source n z.1 z.2 c.gives;
  }

  nsec_item : (item : KeptRecord) (n : OwnedNsec) → nsec_of item ≡ Some n → item ≡ Nsec n
  nsec_item (Nsec m) n is = ap Nsec (let e : m ≡ n = cc in e)
  nsec_item (Nsec3 m) n is = cc

  one_owner : (z w : Labels) (n m : OwnedNsec) → name_eq z w ≡ true → name_eq n.owner m.owner ≡ true
      → (one two : KeptValue) → one.zone ≡ z → two.zone ≡ w → one.item ≡ Nsec n → two.item ≡ Nsec m
      → same_place one two ≡ true
  one_owner z w n m zones owners one two one_zone two_zone one_item two_item =
      ap (λ i. same_place (record one { item = i }) two) one_item
      ∙ ap (λ i. same_place (record one { item = Nsec n }) (record two { item = i })) two_item
      ∙ ap (λ b. b && name_eq n.owner m.owner && true && true && true)
      (ap (λ y. name_eq y two.zone) one_zone ∙ ap (name_eq z) two_zone ∙ zones)
      ∙ ap (λ b. true && b && true && true && true) owners

  pub nsecs_apart : AreOwnedApart (nsecs_in zone_live)
  nsecs_apart = record {
    each = λ n m n_there m_there owners.
        let c = fm_from (λ k. nsec_of k.item) zone_live n n_there.0 n_there.1 n_there.2 in
        let d = fm_from (λ k. nsec_of k.item) zone_live m m_there.0 m_there.1 m_there.2 in
        let c_there = c.there in
        let d_there = d.there in
        let p = filter_from (is_live_in now zone) list c.source c_there.0 c_there.1 c_there.2 in
        let q = filter_from (is_live_in now zone) list d.source d_there.0 d_there.1 d_there.2 in
        let p_there = p.there in
        let q_there = q.there in
        let one_is = position_of c.source p_there.0 p_there.1 p_there.2 in
        let two_is = position_of d.source q_there.0 q_there.1 q_there.2 in
        let zones : name_eq c.source.zone d.source.zone ≡ true =
        name_equiv.congr c.source.zone zone d.source.zone
        (right_true (is_live now c.source) (name_eq c.source.zone zone) p.passes)
        ∙ name_equiv.symm zone d.source.zone
        ∙ right_true (is_live now d.source) (name_eq d.source.zone zone) q.passes in
        let forth : same_place c.source d.source ≡ true =
        one_owner c.source.zone d.source.zone n m zones owners c.source d.source refl refl
        (nsec_item c.source.item n c.gives) (nsec_item d.source.item m d.gives) in
        let back : same_place d.source c.source ≡ true =
        one_owner d.source.zone c.source.zone m n (name_equiv.symm d.source.zone c.source.zone ∙ zones)
        (name_equiv.symm m.owner n.owner ∙ owners) d.source c.source refl refl
        (nsec_item d.source.item m d.gives) (nsec_item c.source.item n c.gives) in
        ⊎_elim (λ (lt : p_there.0 < q_there.0).
        let apart = (h.latest.each (run.gone + p_there.0) (omega arith) (position_within p_there.0 p_there.1)).each
        (run.gone + q_there.0) (omega (arith, lt)) (position_within q_there.0 q_there.1) in
        absurd (both_ways (same_place c.source d.source)
        (sym (ap (λ k. same_place k (at run.kept.now (run.gone + q_there.0))) one_is
        ∙ ap (same_place c.source) two_is) ∙ apart) forth))
        (λ (ge : q_there.0 ≤ p_there.0).
        ⊎_elim (λ (lt : q_there.0 < p_there.0).
        let apart = (h.latest.each (run.gone + q_there.0) (omega arith) (position_within q_there.0 q_there.1)).each
        (run.gone + p_there.0) (omega (arith, lt)) (position_within p_there.0 p_there.1) in
        absurd (both_ways (same_place d.source c.source)
        (sym (ap (λ k. same_place k (at run.kept.now (run.gone + p_there.0))) two_is
        ∙ ap (same_place d.source) one_is) ∙ apart) back))
        (λ (le : p_there.0 ≤ q_there.0).
        let same : p_there.0 ≡ q_there.0 = omega (arith, ge, le) in
        let one : c.source ≡ d.source =
        sym one_is ∙ ap (λ (i : ℕ). at run.kept.now (run.gone + i)) same ∙ two_is in
        let e : Some n ≡ Some m = sym c.gives ∙ ap (λ k. nsec_of k.item) one ∙ d.gives in
        cc)
        (cases_lt q_there.0 p_there.0))
        (cases_lt p_there.0 q_there.0);
  }

  code_same : (f g : ℕ → Proof) → ((code : ℕ) → f code ≡ g code) → code_by f ≡ code_by g
  code_same f g same =
      ap (λ p. cond (is_secure p) (Some code_nx_domain) (cond (is_secure (f code_no_error)) (Some code_no_error) None))
      (same code_nx_domain)
      ∙ ap (λ p. cond (is_secure (g code_nx_domain)) (Some code_nx_domain) (cond (is_secure p) (Some code_no_error)
      None))
      (same code_no_error)

  -- the code that they show
  pub named_code : (query : Question) (nsecs : List OwnedNsec) → nsecs ≡ nsecs_in run_live
      → code_by (λ code. nsec_verdict query zone code No nsecs) ≡ shown_code list query now zone None
  named_code query nsecs is =
      code_same (λ code. nsec_verdict query zone code No nsecs) (verdict query zone (group now zone list None) None)
      (λ code. ap (nsec_verdict query zone code No) is
      ∙ verdict_same query zone (nsecs_in run_live) (nsecs_in zone_live) nsecs_part nsecs_apart
      (nsecs_around query.owner) (λ above ends. nsecs_around (star above)) code
      ∙ ap (nsec_verdict query zone code No) (nsecs_of_group now zone list))

  -- ---- NSEC3 records

  hashed_by : (k : KeptValue) (item : KeptRecord) → is_some (cond (is_some (nsec3_of item)) (Some true) None) ≡ false
      → way_of item ≡ None
  hashed_by k (Nsec nsec) h = refl
  hashed_by k (Nsec3 nsec3) h = cc

  pub no_ways : list_any (stands_hashed run now) run.positions.now ≡ false → hashed_ways now zone list ≡ []
  unfolding distinct
  no_ways none = ap distinct (fm_none (λ k. way_of k.item) zone_live (λ x t.
      let r = live_into x t in
      let c = fm_from (standing_at run.kept.now run.gone now) run.positions.now x r.0 r.1 r.2 in
      hashed_by x x.item (false_from_ne_true (is_some (is_hashed x)) (λ pass.
      both_ways (list_any (stands_hashed run now) run.positions.now) none
      (any_from (stands_hashed run now) run.positions.now c.source c.there
      (ap (λ o. is_some (option_and_then is_hashed o)) c.gives ∙ pass))))))

  pub no_hashed_answer : (query : Question) (most : Option ℕ)
      → list_any (stands_hashed run now) run.positions.now ≡ false
      → None ≡ hashed_answer list query now zone (at_most most (hashed_ways now zone list))
  no_hashed_answer query most none =
      sym (ap (λ ws. hashed_answer list query now zone ws) (ap (at_most most) (no_ways none) ∙ at_most_none most))
    where
      take_none : (n : ℕ) → take n (let xs : List Parameters = [] in xs) ≡ []
      take_none zero = refl
      take_none (suc n) = refl

      at_most_none : (most : Option ℕ) → at_most {X = Parameters} most [] ≡ []
      at_most_none None = refl
      at_most_none (Some n) = take_none n

-- ---- no NSEC3 record stands in front of an NSEC record of its zone

pub hashed_behind : (z w : Labels) (n : OwnedNsec3) (m : OwnedNsec) → name_cmp z w ≡ Equal
    → place_cmp (place_in z (Nsec3 n)) (place_in w (Nsec m)) ≡ Greater
hashed_behind z w n m same =
    ap (λ (o : Ordering). ordering_then (ordering_then (ordering_then (ordering_then o (nat_cmp 50 47))
    (nat_cmp n.fields.iterations 0)) (slice_cmp nat_cmp n.fields.salt [])) (name_cmp n.owner m.owner)) same

not_hashed_by : (zone z w : Labels) (item last : KeptRecord) → name_eq z zone ≡ true → name_eq w zone ≡ true
    → place_cmp (place_in z item) (place_in w last) ≡ Less → false ≡ is_some (nsec3_of last) → is_some (nsec3_of item) ≡ false
not_hashed_by zone z w (Nsec n) last zone_is last_zone less plain = refl
not_hashed_by zone z w (Nsec3 n) (Nsec m) zone_is last_zone less plain =
    let zones : name_eq z w ≡ true = name_equiv.congr z zone w zone_is ∙ name_equiv.symm zone w ∙ last_zone in
    let greater = hashed_behind z w n m (equal_from (name_cmp z w) (sym (name_ties z w) ∙ zones)) in
    cc
not_hashed_by zone z w (Nsec3 n) (Nsec3 m) zone_is last_zone less plain = cc

stands_none : (o : Option KeptValue) (x : KeptValue) → ((y : KeptValue) → o ≡ Some y → y ≡ x)
    → is_some (nsec3_of x.item) ≡ false → is_some (option_and_then is_hashed o) ≡ false
stands_none None x is h = refl
stands_none (Some y) x is h =
    ap (λ (k : KeptValue). is_some (is_hashed k)) (is y refl)
    ∙ ap (λ (b : Bool). is_some (cond b (Some true) None)) h

-- where the last record of a zone is an NSEC record, all are
pub no_hashed : (list : List KeptValue) (zone : Labels) (run : ZoneRun) (now : ℕ) → IsZoneRun list zone run → (n : ℕ)
    → length run.positions.now ≡ n + 1
    → false ≡ is_some (nsec3_of (nth_of run.kept.now run.positions.now n).item)
    → list_any (stands_hashed run now) run.positions.now ≡ false
no_hashed list zone run now h n long plain =
    list_any_none (stands_hashed run now) run.positions.now
    (λ k d within.
    ap (stands_hashed run now) (get_or_default run.positions.now k d 0 within)
    ∙ stands_none (standing_at run.kept.now run.gone now (nth run.positions.now k)) (nth_of run.kept.now run.positions.now k)
    (λ y is. sym (standing_from run.kept.now run.gone now (nth run.positions.now k) y is).is)
    (⊎_elim (λ (lt : k < n).
    not_hashed_by zone (nth_of run.kept.now run.positions.now k).zone (nth_of run.kept.now run.positions.now n).zone
    (nth_of run.kept.now run.positions.now k).item (nth_of run.kept.now run.positions.now n).item
    (h.only k within) (h.only n (omega (arith, long)))
    (h.rising.each k n lt (omega (arith, long))) plain)
    (λ (ge : n ≤ k).
    let same : k ≡ n = omega (arith, ge, within, long) in
    ap (λ (i : ℕ). is_some (nsec3_of (nth_of run.kept.now run.positions.now i).item)) same ∙ sym plain)
    (cases_lt k n)))

pub none_hashed : (run : ZoneRun) (now : ℕ) → length run.positions.now ≡ 0
    → list_any (stands_hashed run now) run.positions.now ≡ false
none_hashed run now long =
    list_any_none (stands_hashed run now) run.positions.now (λ k d within. absurd (omega (arith, long, within)))

-- ---- the group of NSEC records decides, or not

named_by : (kept : List KeptValue) (now : ℕ) (zone : Labels) (o : Option ℕ) (code ttl : ℕ)
    → ◌≡◌ {A = Option (ℕ × ℕ)} (Some (code, ttl)) (option_map (λ (c : ℕ). (
      c,
      seconds_left now (group now zone kept
          None),
    )) o)
    → o ≡ Some code
named_by kept now zone None code ttl h = cc
named_by kept now zone (Some c) code ttl h =
    ap Some (sym (ap (λ (o : Option (ℕ × ℕ)). option_map_or (λ (p : ℕ × ℕ). p.0) o 0) h))

named_ttl : (kept : List KeptValue) (now : ℕ) (zone : Labels) (o : Option ℕ) (code ttl : ℕ)
    → ◌≡◌ {A = Option (ℕ × ℕ)} (Some (code, ttl)) (option_map (λ (c : ℕ). (
      c,
      seconds_left now (group now zone kept
          None),
    )) o)
    → ttl ≡ seconds_left now (group now zone kept None)
named_ttl kept now zone None code ttl h = cc
named_ttl kept now zone (Some c) code ttl h = ap (λ (o : Option (ℕ × ℕ)). option_map_or (λ (p : ℕ × ℕ). p.1) o 0) h

pub named_shown : (kept : List KeptValue) (query : Question) (now : ℕ) (zone : Labels) (code ttl : ℕ)
    → ◌≡◌ {A = Option (ℕ × ℕ)} (Some (code, ttl)) (named_answer kept query now zone)
    → shown_code kept query now zone None ≡ Some code
named_shown kept query now zone code ttl h = named_by kept now zone (shown_code kept query now zone None) code ttl h

pub named_seconds : (kept : List KeptValue) (query : Question) (now : ℕ) (zone : Labels) (code ttl : ℕ)
    → ◌≡◌ {A = Option (ℕ × ℕ)} (Some (code, ttl)) (named_answer kept query now zone) → ttl
    ≡ seconds_left now (group now zone kept None)
named_seconds kept query now zone code ttl h = named_ttl kept now zone (shown_code kept query now zone None) code ttl h

none_by : (kept : List KeptValue) (now : ℕ) (zone : Labels) (o : Option ℕ)
    → ◌≡◌ {A = Option (ℕ × ℕ)} None (option_map (λ (c : ℕ). (c, seconds_left now (group now zone kept None))) o)
    → o ≡ None
none_by kept now zone None h = refl
none_by kept now zone (Some c) h = cc

pub named_none : (kept : List KeptValue) (query : Question) (now : ℕ) (zone : Labels)
    → None ≡ named_answer kept query now zone → shown_code kept query now zone None ≡ None
named_none kept query now zone h = none_by kept now zone (shown_code kept query now zone None) h
