-- The NSEC3 records of a run in the order in which they were kept: its positions, ascending, find those that the
-- list has.
use Rattle.std.proofs.Common.{◌≡◌, ℕ, zero, suc, ◌+◌, ◌-◌, ◌<◌, ◌≤◌, Bool, true, false, cond, ◌&&◌, List, [], ◌∷◌, length, drop, get_or, Option, None, Some, is_some, refl, sym, ap, ◌∙◌, ⊎_elim, arith}
use Rattle.std.specs.Prelude.{nat_le}
use Rattle.std.specs.List.{Contains, cons_option, filter, filter_map}
use Rattle.std.specs.Option.{option_and_then}
use Rattle.std.proofs.lemmas.Bool.{cases_eq, cases_lt, le-leb, leb-true, lt-leb}
use Rattle.std.proofs.lemmas.List.{drop_all, get_or_default}
use Rattle.std.proofs.lemmas.List.Kept.{AllPairs-from_increasing}
use Rattle.dns_model.specs.Names.{Labels, name_eq}
use Rattle.dns_model.specs.Owned.{OwnedNsec3}
use Rattle.dns_aggressive.specs.declared.zone_run.ZoneRun.{ZoneRun}
use Rattle.dns_aggressive.specs.Records.{KeptValue, is_live, nsec3_of}
use Rattle.dns_aggressive.specs.Orders.{AreInside, at, nowhere, nth}
use Rattle.dns_aggressive.specs.Denials.{is_live_in, nsec3s_in}
use Rattle.dns_aggressive.specs.ZoneRuns.{IsAscending, IsZoneRun, standing, standing_at}

-- ---- elements that come from others

fm_step : {Y Z : Type 0} (g : Y → Option Z) (ys : List Y) (zs : List Z) (o : Option Y) → filter_map g ys ≡ zs
    → filter_map g (cons_option o ys) ≡ cons_option (option_and_then g o) zs
fm_step g ys zs None h = h
fm_step g ys zs (Some y) h = ap (cons_option (g y)) h

fm_fm : {X Y Z : Type 0} (f : X → Option Y) (g : Y → Option Z) (xs : List X)
    → filter_map g (filter_map f xs) ≡ filter_map (λ x. option_and_then g (f x)) xs
fm_fm f g [] = refl
fm_fm f g (x ∷ xs) =
    fm_step g (filter_map f xs) (filter_map (λ y. option_and_then g (f y)) xs) (f x) (fm_fm f g xs)

fm_same : {X Y : Type 0} (f g : X → Option Y) (xs : List X) → ((x : X) → Contains xs x → f x ≡ g x)
    → filter_map f xs ≡ filter_map g xs
fm_same f g [] same = refl
fm_same f g (x ∷ xs) same =
    ap (λ o. cons_option o (filter_map f xs)) (same x (zero, omega arith, refl))
    ∙ ap (cons_option (g x)) (fm_same f g xs (λ y t. same y (suc t.0, (let lt = t.1 in omega (arith, lt)), t.2)))

none_of : {Y : Type 0} (o : Option Y) → (is_some o ≡ true → ⊥) → o ≡ None
none_of None never = refl
none_of (Some y) never = absurd (never refl)

-- ---- ascending positions

abbrev count_up : ℕ → ℕ → List ℕ
count_up from zero = []
count_up from (suc n) = from ∷ count_up (suc from) n

pub record IsRising (positions : List ℕ) : Type 0 where
  pub each : (i j : ℕ) → i < j → j < length positions → nth positions i < nth positions j

rising_rest : (s : ℕ) (rest : List ℕ) → IsRising (s ∷ rest) → IsRising rest
rising_rest s rest h = record {
  each = λ i j lt within. h.each (suc i) (suc j) (omega (arith, lt)) (omega (arith, within));
}

-- what passes stands among ascending positions, and these lie between two numbers
pub record AreFound {Y : Type 0} (f : ℕ → Option Y) (positions : List ℕ) (from n : ℕ) : Type 0 where
  pub low : (i : ℕ) → i < length positions → from ≤ nth positions i
  pub high : (i : ℕ) → i < length positions → nth positions i < from + n
  pub there : (p : ℕ) → from ≤ p → p < from + n → is_some (f p) ≡ true → Contains positions p

rest_contains : (s : ℕ) (rest : List ℕ) (p : ℕ) → (s ≡ p → ⊥) → (i : ℕ) → i < length (s ∷ rest)
    → get_or (s ∷ rest) i p ≡ p → Contains rest p
rest_contains s rest p other zero within is = absurd (other is)
rest_contains s rest p other (suc i) within is = (i, omega (arith, within), is)

found_rest : {Y : Type 0} (f : ℕ → Option Y) (s : ℕ) (rest : List ℕ) (from n : ℕ) → s ≡ from → IsRising (s ∷ rest)
    → AreFound f (s ∷ rest) from (suc n) → AreFound f rest (suc from) n
found_rest f s rest from n same rising h = record {
  low = λ i within. let lt = rising.each zero (suc i) (omega arith) (omega (arith, within)) in omega (arith, lt, same);
  high = λ i within. let lt = h.high (suc i) (omega (arith, within)) in omega (arith, lt);
  there = λ p le lt some.
      let t = h.there p (omega (arith, le)) (omega (arith, lt)) some in
      rest_contains s rest p (λ e. absurd (omega (arith, e, same, le))) t.0 t.1 t.2;
}

found_later : {Y : Type 0} (f : ℕ → Option Y) (positions : List ℕ) (from n : ℕ)
    → ((i : ℕ) → i < length positions → from < nth positions i) → AreFound f positions from (suc n)
    → AreFound f positions (suc from) n
found_later f positions from n more h = record {
  low = λ i within. let lt = more i within in omega (arith, lt);
  high = λ i within. let lt = h.high i within in omega (arith, lt);
  there = λ p le lt some. h.there p (omega (arith, le)) (omega (arith, lt)) some;
}

-- no position is this number
not_among : {Y : Type 0} (f : ℕ → Option Y) (positions : List ℕ) (from n : ℕ)
    → ((i : ℕ) → i < length positions → from < nth positions i) → AreFound f positions from (suc n) → f from ≡ None
not_among f positions from n more h =
    none_of (f from) (λ some.
    let t = h.there from (omega arith) (omega arith) some in
    let e : nth positions t.0 ≡ from = get_or_default positions t.0 0 from t.1 ∙ t.2 in
    let lt = more t.0 t.1 in
    let never : ⊥ = omega (arith, e, lt) in never)

ascend : {Y : Type 0} (f : ℕ → Option Y) (n from : ℕ) (positions : List ℕ) → IsRising positions
    → AreFound f positions from n → filter_map f positions ≡ filter_map f (count_up from n)
ascend f zero from [] rising h = refl
ascend f zero from (s ∷ rest) rising h =
    absurd (let le = h.low zero (omega arith) in let lt = h.high zero (omega arith) in omega (arith, le, lt))
ascend f (suc n) from [] rising h =
    ascend f n (suc from) [] rising (found_later f [] from n (λ i within. absurd (omega (arith, within))) h)
    ∙ sym (ap (λ o. cons_option o (filter_map f (count_up (suc from) n)))
    (not_among f [] from n (λ i within. absurd (omega (arith, within))) h))
ascend f (suc n) from (s ∷ rest) rising h =
    ⊎_elim (λ (same : s ≡ from).
    ap (λ (p : ℕ). cons_option (f p) (filter_map f rest)) same
    ∙ ap (cons_option (f from))
    (ascend f n (suc from) rest (rising_rest s rest rising) (found_rest f s rest from n same rising h)))
    (λ (other : s ≡ from → ⊥).
    let low = h.low zero (omega arith) in
    let first : from < s = omega (arith, low, other) in
    let more : (i : ℕ) → i < length (s ∷ rest) → from < nth (s ∷ rest) i = later first in
    ascend f n (suc from) (s ∷ rest) rising (found_later f (s ∷ rest) from n more h)
    ∙ sym (ap (λ o. cons_option o (filter_map f (count_up (suc from) n))) (not_among f (s ∷ rest) from n more h)))
    (cases_eq s from)
  where
    later : from < s → (i : ℕ) → i < length (s ∷ rest) → from < nth (s ∷ rest) i
    later first zero within = first
    later first (suc i) within =
        let lt = rising.each zero (suc i) (omega arith) within in omega (arith, lt, first)

-- ---- the positions of all records

module _ (kept : List KeptValue) (gone now : ℕ) (zone : Labels) where
  abbrev hashed_at : ℕ → Option OwnedNsec3
  hashed_at p = option_and_then (λ k. nsec3_of k.item) (standing_at kept gone now p)

  abbrev of_zone_at : ℕ → Option OwnedNsec3
  of_zone_at p = cond (name_eq (at kept p).zone zone) (hashed_at p) None

  one_kept : (a b : Bool) (k : KeptValue) (xs : List KeptValue) (ys : List OwnedNsec3) → ys ≡ nsec3s_in xs
      → cons_option (cond b (option_and_then (λ x. nsec3_of x.item) (cond a (Some k) None)) None) ys
      ≡ nsec3s_in (cond (a && b) (k ∷ xs) xs)
  one_kept true true k xs ys h = ap (cons_option (nsec3_of k.item)) h
  one_kept true false k xs ys h = h
  one_kept false true k xs ys h = h
  one_kept false false k xs ys h = h

  at_gone : (b : Bool) (o : Option KeptValue) → o ≡ None → cond b (option_and_then (λ x. nsec3_of x.item) o) None ≡ None
  at_gone true o h = ap (option_and_then (λ x. nsec3_of x.item)) h
  at_gone false o h = refl

  unfolding_at : (i : ℕ) (k : KeptValue) → at kept i ≡ k → nat_le gone i ≡ true
      → of_zone_at i ≡ cond (name_eq k.zone zone)
      (option_and_then (λ x. nsec3_of x.item) (cond (is_live now k) (Some k) None)) None
  unfolding_at i k is le =
      ap (λ b. cond (name_eq (at kept i).zone zone)
      (option_and_then (λ x. nsec3_of x.item) (cond (b && is_live now (at kept i)) (Some (at kept i)) None)) None) le
      ∙ ap (λ x. cond (name_eq x.zone zone)
      (option_and_then (λ y. nsec3_of y.item) (cond (is_live now x) (Some x) None)) None) is

  gone_at : (i : ℕ) → nat_le gone i ≡ false → of_zone_at i ≡ None
  gone_at i le =
      at_gone (name_eq (at kept i).zone zone) (standing_at kept gone now i)
      (ap (λ b. cond (b && is_live now (at kept i)) (Some (at kept i)) None) le)

  walked : (i : ℕ) (ks : List KeptValue) → ((j : ℕ) → j < length ks → at kept (i + j) ≡ get_or ks j nowhere)
      → filter_map of_zone_at (count_up i (length ks)) ≡ nsec3s_in (filter (is_live_in now zone) (drop (gone - i) ks))
  walked i [] are =
      sym (ap (λ l. nsec3s_in (filter (is_live_in now zone) l)) (drop_all (gone - i) [] (omega arith)))
  walked i (k ∷ ks) are =
      let here : at kept i ≡ k = (let e : i ≡ i + 0 = omega arith in ap (at kept) e) ∙ are zero (omega arith) in
      let rest = walked (suc i) ks (λ j within.
      let e : suc i + j ≡ i + suc j = omega arith in
      ap (at kept) e ∙ are (suc j) (omega (arith, within))) in
      ⊎_elim (λ (lt : i < gone).
      let next : gone - i ≡ suc (gone - suc i) = omega (arith, lt) in
      ap (λ o. cons_option o (filter_map of_zone_at (count_up (suc i) (length ks)))) (gone_at i (lt-leb gone i lt))
      ∙ rest ∙ sym (ap (λ (n : ℕ). nsec3s_in (filter (is_live_in now zone) (drop n (k ∷ ks)))) next))
      (λ (le : gone ≤ i).
      let none : gone - i ≡ 0 = omega (arith, le) in
      let none_more : gone - suc i ≡ 0 = omega (arith, le) in
      ap (λ o. cons_option o (filter_map of_zone_at (count_up (suc i) (length ks))))
      (unfolding_at i k here (le-leb gone i le))
      ∙ one_kept (is_live now k) (name_eq k.zone zone) k (filter (is_live_in now zone) ks)
      (filter_map of_zone_at (count_up (suc i) (length ks)))
      (rest ∙ ap (λ (n : ℕ). nsec3s_in (filter (is_live_in now zone) (drop n ks))) none_more)
      ∙ sym (ap (λ (n : ℕ). nsec3s_in (filter (is_live_in now zone) (drop n (k ∷ ks)))) none))
      (cases_lt i gone)

  some_parts : (b a : Bool) (p : ℕ) (k : KeptValue)
      → is_some (cond b (option_and_then (λ x. nsec3_of x.item) (cond (a && is_live now k) (Some k) None)) None) ≡ true
      → a ≡ true
  some_parts true true p k h = refl
  some_parts true false p k h = cc
  some_parts false a p k h = cc

  some_zone : (b : Bool) (o : Option OwnedNsec3) → is_some (cond b o None) ≡ true → b ≡ true
  some_zone true o h = refl
  some_zone false o h = cc

  found_after : (p : ℕ) → is_some (of_zone_at p) ≡ true → gone ≤ p
  found_after p h =
      leb-true gone p (some_parts (name_eq (at kept p).zone zone) (nat_le gone p) p (at kept p) h)

  found_zone : (p : ℕ) → is_some (of_zone_at p) ≡ true → name_eq (at kept p).zone zone ≡ true
  found_zone p h = some_zone (name_eq (at kept p).zone zone) (hashed_at p) h

  same_in_zone : (p : ℕ) → name_eq (at kept p).zone zone ≡ true
      → option_and_then (λ k. nsec3_of k.item) (standing_at kept gone now p) ≡ of_zone_at p
  same_in_zone p h =
      sym (ap (λ b. cond b (option_and_then (λ k. nsec3_of k.item) (standing_at kept gone now p)) None) h)

-- ---- a run

pub inside_again : (count : ℕ) (positions all : List ℕ) → AreInside count positions → IsAscending positions all
    → AreInside count all
inside_again count positions all inside h = record {
  each = λ i within.
      let t = h.only (nth all i) (i, within, get_or_default all i (nth all i) 0 within) in
      let e : nth positions t.0 ≡ nth all i = get_or_default positions t.0 0 (nth all i) t.1 ∙ t.2 in
      let lt = inside.each t.0 t.1 in
      omega (arith, e, lt);
}

module _ (list : List KeptValue) (zone : Labels) (run : ZoneRun) (now : ℕ) (h : IsZoneRun list zone run)
    (positions : List ℕ) (ascending : IsAscending run.positions.now positions) where
  number_of : (p : ℕ) → (i : ℕ) → i < length run.positions.now → get_or run.positions.now i p ≡ p
      → nth run.positions.now i ≡ p
  number_of p i within is = get_or_default run.positions.now i 0 p within ∙ is

  ascending_inside : AreInside (length run.kept.now) positions
  ascending_inside = inside_again (length run.kept.now) run.positions.now positions h.inside ascending

  pub nsec3s_ascending : nsec3s_in (standing run now positions) ≡ nsec3s_in (filter (is_live_in now zone) list)
  nsec3s_ascending =
      fm_fm (standing_at run.kept.now run.gone now) (λ k. nsec3_of k.item) positions
      ∙ fm_same (λ p. option_and_then (λ k. nsec3_of k.item) (standing_at run.kept.now run.gone now p))
      (of_zone_at run.kept.now run.gone now zone) positions
      (λ p t.
      let r = ascending.only p t in
      same_in_zone run.kept.now run.gone now zone p
      (ap (λ (n : ℕ). name_eq (at run.kept.now n).zone zone) (sym (number_of p r.0 r.1 r.2)) ∙ h.only r.0 r.1))
      ∙ ascend (of_zone_at run.kept.now run.gone now zone) (length run.kept.now) 0 positions
      (record { each = λ i j lt within. AllPairs-from_increasing positions ascending.rising i j 0 lt within })
      (record {
        low = λ i within. omega arith;
        high = λ i within. let lt = ascending_inside.each i within in omega (arith, lt);
        there = λ p le lt some.
            ascending.there p (h.each p (found_after run.kept.now run.gone now zone p some) (omega (arith, lt))
            (found_zone run.kept.now run.gone now zone p some));
      })
      ∙ walked run.kept.now run.gone now zone 0 run.kept.now (λ j within.
      let e : 0 + j ≡ j = omega arith in ap (at run.kept.now) e)
      ∙ (let none : run.gone - 0 ≡ run.gone = omega arith in
      ap (λ (n : ℕ). nsec3s_in (filter (is_live_in now zone) (drop n run.kept.now))) none)
      ∙ ap (λ l. nsec3s_in (filter (is_live_in now zone) l)) h.is
