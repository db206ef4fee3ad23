-- What a search among a zone's records in order of their places finds: the NSEC record that a name owns, and the one that covers it.
use Rattle.std.proofs.Common.{◌≡◌, ◌⊎◌, inl, inr, ℕ, zero, suc, ◌-◌, ◌<◌, ◌≤◌, Bool, true, false, cond, not, ◌&&◌, ◌||◌, List, [], ◌∷◌, ◌++◌, length, get_or, Option, None, Some, refl, sym, ap, ◌∙◌, subst, ⊎_elim, arith}
use Rattle.std.specs.Cmp.{alike_right, tied_itself}
use Rattle.std.specs.List.{Contains, find}
use Rattle.std.specs.Option.{option_and_then}
use Rattle.std.specs.Ordering.{is_eq, is_lt, ordering_reverse}
use Rattle.std.specs.declared.cmp.Ordering.{Ordering}
use Rattle.std.specs.declared.cmp.Ordering.TheVariants.{Less, Equal, Greater}
use Rattle.std.proofs.lemmas.Bool.{both_ways, cases_lt, false_from_ne_true}
use Rattle.std.proofs.lemmas.List.{get_or_append_left, get_or_default, get_or_push, length_push}
use Rattle.std.proofs.lemmas.List.Folds.{Any-from_list_any}
use Rattle.dns_model.specs.Names.{Labels, at_or_above, before, name_cmp, name_eq}
use Rattle.dns_model.specs.Owned.{OwnedNsec}
use Rattle.dns_model.proofs.NameLemmas.{name_equiv}
use Rattle.dns_model.proofs.NamesInOrder.{lt_from}
use Rattle.dns_model.proofs.OrderLemmas.{name_ties, name_total}
use Rattle.dns_rules.specs.Covering.{counts_for, is_nearest, leads_back, nsec_spans}
use Rattle.dns_rules.specs.ListedTypes.{wildcard_lacks}
use Rattle.dns_rules.specs.NsecVerdict.{is_owned_by, wildcard_denies}
use Rattle.dns_aggressive.specs.declared.kept.KeptRecord.{KeptRecord}
use Rattle.dns_aggressive.specs.declared.kept.KeptRecord.TheVariants.{Nsec, Nsec3}
use Rattle.dns_aggressive.specs.declared.zone_run.ZoneRun.{ZoneRun}
use Rattle.dns_aggressive.specs.Records.{KeptValue, nsec_of}
use Rattle.dns_aggressive.specs.Agreeing.{AreOwnedApart}
use Rattle.dns_aggressive.specs.Orders.{at, nth, nth_of, IsFront, IsParted}
use Rattle.dns_aggressive.specs.Reaching.{is_before, keep_if, nearer, nsec_at, nsec_before, nsecs_of, spanning_at, IsBest, IsSearchable}
use Rattle.dns_aggressive.specs.ZoneRuns.{standing, standing_at}
use Rattle.dns_aggressive.proofs.Orders.{equal_from}
use Rattle.dns_aggressive.proofs.Agreeing.{all_at, all_from, any_from, find_none, find_only, none_from, not_both, tied}
use Rattle.dns_aggressive.proofs.Expiring.{nth_there}
use Rattle.dns_aggressive.proofs.Reaches.{hashed_after, owners_order, reaches_of}
use Rattle.dns_aggressive.proofs.ZoneRuns.{fm_from, fm_into, nsecs_apart, nsecs_part, standing_from}

-- ---- tests and options

left_true : (a b : Bool) → (a && b) ≡ true → a ≡ true
left_true true b h = refl
left_true false b h = cc

right_true : (a b : Bool) → (a && b) ≡ true → b ≡ true
right_true true b h = h
right_true false b h = cc

both_true : (a b : Bool) → a ≡ true → b ≡ true → (a && b) ≡ true
both_true true b h k = k
both_true false b h k = cc

not_of_both : (a b : Bool) → (a ≡ true → b ≡ false) → not (a && b) ≡ true
not_of_both true b h = ap not (h refl)
not_of_both false b h = refl

or_either : (a b c d : Bool) → (a ≡ true → c ≡ true) → (b ≡ true → d ≡ true) → (a || b) ≡ true → (c || d) ≡ true
or_either true b true d f g h = refl
or_either true b false d f g h = let e = f refl in cc
or_either false true true d f g h = refl
or_either false true false d f g h = g refl
or_either false false c d f g h = cc

lt_not_eq : (o : Ordering) → is_eq o ≡ true → is_lt o ≡ false
lt_not_eq Less h = cc
lt_not_eq Equal h = refl
lt_not_eq Greater h = cc

same_bool : (a b : Bool) → (a ≡ true → b ≡ true) → (b ≡ true → a ≡ true) → a ≡ b
same_bool true b there back = sym (there refl)
same_bool false true there back = back refl
same_bool false false there back = refl

-- ---- what is found

pub record IsFound {X : Type 0} (p : X → Bool) (xs : List X) (y : X) : Type 0 where
  pub there : Contains xs y
  pub passes : p y ≡ true

found_more : {X : Type 0} (p : X → Bool) (x : X) (xs : List X) (y : X) → IsFound p xs y → IsFound p (x ∷ xs) y
found_more p x xs y h = record {
  there = (let t = h.there in (suc t.0, (let lt = t.1 in omega (arith, lt)), t.2));
  passes = h.passes;
}

found_step : {X : Type 0} (p : X → Bool) (x : X) (xs : List X) (y : X) (b : Bool) → p x ≡ b
    → cond b (Some x) (find p xs) ≡ Some y → (find p xs ≡ Some y → IsFound p xs y) → IsFound p (x ∷ xs) y
found_step p x xs y true is h more =
    let same : x ≡ y = cc in
    record { there = (zero, omega arith, same); passes = sym (ap p same) ∙ is }
found_step p x xs y false is h more = found_more p x xs y (more h)

find_there : {X : Type 0} (p : X → Bool) (xs : List X) (y : X) → find p xs ≡ Some y → IsFound p xs y
find_there p [] y h = cc
find_there p (x ∷ xs) y h = found_step p x xs y (p x) refl h (find_there p xs y)

miss_step : {X : Type 0} (p : X → Bool) (x : X) (xs : List X) (b : Bool) → p x ≡ b
    → cond b (Some x) (find p xs) ≡ None → (p x ≡ false) × (find p xs ≡ None)
miss_step p x xs true is h = cc
miss_step p x xs false is h = (is, h)

find_misses_at : {X : Type 0} (p : X → Bool) (xs : List X) (y : X) → find p xs ≡ None → (i : ℕ) → i < length xs
    → get_or xs i y ≡ y → p y ≡ false
find_misses_at p [] y h i within is = absurd (omega (arith, within))
find_misses_at p (x ∷ xs) y h zero within is = sym (ap p is) ∙ (miss_step p x xs (p x) refl h).0
find_misses_at p (x ∷ xs) y h (suc i) within is =
    find_misses_at p xs y (miss_step p x xs (p x) refl h).1 i (omega (arith, within)) is

find_misses : {X : Type 0} (p : X → Bool) (xs : List X) (y : X) → find p xs ≡ None → Contains xs y → p y ≡ false
find_misses p xs y h t = find_misses_at p xs y h t.0 t.1 t.2

-- what passes a test
pub record IsKept (test : OwnedNsec → Bool) (o : Option OwnedNsec) (x : OwnedNsec) : Type 0 where
  pub is : o ≡ Some x
  pub passes : test x ≡ true

kept_by : (test : OwnedNsec → Bool) (n x : OwnedNsec) (b : Bool) → test n ≡ b → cond b (Some n) None ≡ Some x
    → IsKept test (Some n) x
kept_by test n x true is h = record { is = h; passes = (let e : n ≡ x = cc in sym (ap test e) ∙ is) }
kept_by test n x false is h = cc

pub kept_from : (test : OwnedNsec → Bool) (o : Option OwnedNsec) (x : OwnedNsec) → keep_if test o ≡ Some x → IsKept test o x
kept_from test None x h = cc
kept_from test (Some n) x h = kept_by test n x (test n) refl h

kept_into : (test : OwnedNsec → Bool) (o : Option OwnedNsec) (x : OwnedNsec) → o ≡ Some x → test x ≡ true
    → keep_if test o ≡ Some x
kept_into test o x is pass = ap (keep_if test) is ∙ ap (λ (b : Bool). cond b (Some x) None) pass

-- ---- the records that stand

nsec_item : (item : KeptRecord) (n : OwnedNsec) → nsec_of item ≡ Some n → item ≡ Nsec n
nsec_item (Nsec m) n is = ap Nsec (let e : m ≡ n = cc in e)
nsec_item (Nsec3 m) n is = cc

-- the record that gives what is found at a position
pub record IsFoundAt (run : ZoneRun) (now position : ℕ) (x : OwnedNsec) : Type 0 where
  pub k : KeptValue
  pub stands : standing_at run.kept.now run.gone now position ≡ Some k
  pub is : at run.kept.now position ≡ k
  pub after : run.gone ≤ position
  pub gives : nsec_of k.item ≡ Some x

found_by : (run : ZoneRun) (now position : ℕ) (x : OwnedNsec) (o : Option KeptValue)
    → standing_at run.kept.now run.gone now position ≡ o → option_and_then (λ k. nsec_of k.item) o ≡ Some x
    → IsFoundAt run now position x
found_by run now position x None is h = cc
found_by run now position x (Some k) is h =
    let s = standing_from run.kept.now run.gone now position k is in
    record { k = k; stands = is; is = s.is; after = s.after; gives = h }

pub found_at : (run : ZoneRun) (now position : ℕ) (x : OwnedNsec) → nsec_at run now position ≡ Some x
    → IsFoundAt run now position x
found_at run now position x h = found_by run now position x (standing_at run.kept.now run.gone now position) refl h

item_at : (run : ZoneRun) (now position : ℕ) (x : OwnedNsec) → nsec_at run now position ≡ Some x
    → (at run.kept.now position).item ≡ Nsec x
item_at run now position x h =
    let f = found_at run now position x h in ap (λ k. k.item) f.is ∙ nsec_item f.k.item x f.gives

-- the number of a live NSEC record
pub record IsIndex (run : ZoneRun) (now : ℕ) (x : OwnedNsec) : Type 0 where
  pub number : ℕ
  pub within : number < length run.positions.now
  pub gives : nsec_at run now (nth run.positions.now number) ≡ Some x

index_of : (run : ZoneRun) (now : ℕ) (x : OwnedNsec) → Contains (nsecs_of run now) x → IsIndex run now x
index_of run now x t =
    let c = fm_from (λ k. nsec_of k.item) (standing run now run.positions.now) x t.0 t.1 t.2 in
    let c_there = c.there in
    let d = fm_from (standing_at run.kept.now run.gone now) run.positions.now c.source c_there.0 c_there.1 c_there.2 in
    let d_there = d.there in
    record {
      number = d_there.0;
      within = d_there.1;
      gives = ap (nsec_at run now) (nth_there run.positions.now d.source d_there)
          ∙ ap (option_and_then (λ k. nsec_of k.item)) d.gives ∙ c.gives;
    }

pub listed_at : (run : ZoneRun) (now position : ℕ) (x : OwnedNsec) → Contains run.positions.now position
    → nsec_at run now position ≡ Some x → Contains (nsecs_of run now) x
listed_at run now position x t h =
    let f = found_at run now position x h in
    let r = fm_into (standing_at run.kept.now run.gone now) run.positions.now t.0 position f.k t.1 t.2 f.stands in
    fm_into (λ k. nsec_of k.item) (standing run now run.positions.now) r.0 f.k x r.1 r.2 f.gives

contains_nth : (xs : List ℕ) (i : ℕ) → i < length xs → Contains xs (nth xs i)
contains_nth xs i within = (i, within, get_or_default xs i (nth xs i) 0 within)

-- what a name's test tells of an item
pub record IsBefore (name : Labels) (item : KeptRecord) : Type 0 where
  pub a : OwnedNsec
  pub is : item ≡ Nsec a
  pub before_ : before a.owner name ≡ true

before_item : (name : Labels) (item : KeptRecord) → nsec_before name (nsec_of item) ≡ true → IsBefore name item
before_item name (Nsec a) h = record { a = a; is = refl; before_ = h }
before_item name (Nsec3 a) h = cc

-- a record that spans the name, where none that does has a greater owner
pub record IsNear (those : List OwnedNsec) (name : Labels) (o : Option OwnedNsec) : Type 0 where
  pub listed : (x : OwnedNsec) → o ≡ Some x → Contains those x
  pub spans : (x : OwnedNsec) → o ≡ Some x → nsec_spans name x ≡ true
  pub nearest : (x : OwnedNsec) → o ≡ Some x → (y : OwnedNsec) → Contains those y → nsec_spans name y ≡ true
      → before x.owner y.owner ≡ false
  pub none : o ≡ None → (y : OwnedNsec) → Contains those y → nsec_spans name y ≡ false

module _ (run : ZoneRun) (reaching : List ℕ) (now : ℕ) (s : IsSearchable run reaching) (name : Labels) where
  abbrev those : List OwnedNsec
  those = nsecs_of run now

  pub those_apart : AreOwnedApart those
  those_apart = record {
    each = λ n m n_there m_there owners.
        (nsecs_apart s.list s.zone run now s.is).each n m ((nsecs_part s.list s.zone run now s.is).each n n_there)
        ((nsecs_part s.list s.zone run now s.is).each m m_there) owners;
  }

  zones : (i j : ℕ) → i < length run.positions.now → j < length run.positions.now
      → name_cmp (nth_of run.kept.now run.positions.now i).zone (nth_of run.kept.now run.positions.now j).zone ≡ Equal
  zones i j i_within j_within =
      let one : Labels = (nth_of run.kept.now run.positions.now i).zone in
      let two : Labels = (nth_of run.kept.now run.positions.now j).zone in
      equal_from (name_cmp one two)
      (sym (name_ties one two) ∙ name_equiv.congr one s.zone two (s.is.only i i_within)
      ∙ name_equiv.symm s.zone two ∙ s.is.only j j_within)

  owners_rise : (i j : ℕ) (a b : OwnedNsec) → i < j → j < length run.positions.now
      → (nth_of run.kept.now run.positions.now i).item ≡ Nsec a → (nth_of run.kept.now run.positions.now j).item ≡ Nsec b
      → name_cmp a.owner b.owner ≡ Less
  owners_rise i j a b lt within one_is two_is =
      sym (owners_order (nth_of run.kept.now run.positions.now i) (nth_of run.kept.now run.positions.now j) a b
      (zones i j (omega (arith, lt, within)) within) one_is two_is)
      ∙ s.is.rising.each i j lt within

  -- what stands before an NSEC record is one
  plain_before : (i j : ℕ) (b : OwnedNsec) (item : KeptRecord) → (nth_of run.kept.now run.positions.now i).item ≡ item
      → i < j → j < length run.positions.now → (nth_of run.kept.now run.positions.now j).item ≡ Nsec b
      → (a : OwnedNsec) × ((nth_of run.kept.now run.positions.now i).item ≡ Nsec a)
  plain_before i j b (Nsec a) is lt within two_is = (a, is)
  plain_before i j b (Nsec3 n) is lt within two_is =
      absurd (hashed_after (nth_of run.kept.now run.positions.now i) (nth_of run.kept.now run.positions.now j) n b
      (zones i j (omega (arith, lt, within)) within) is two_is (s.is.rising.each i j lt within))

  is_before_at : (i : ℕ) (a : OwnedNsec) → (nth_of run.kept.now run.positions.now i).item ≡ Nsec a
      → is_before name (nth_of run.kept.now run.positions.now i) ≡ before a.owner name
  is_before_at i a is = ap (λ (item : KeptRecord). nsec_before name (nsec_of item)) is

  pub front_before : IsFront (is_before name) run.kept.now run.positions.now
  front_before = record {
    each = λ i j le within pass.
        ⊎_elim (λ (lt : i < j).
        let b = before_item name (nth_of run.kept.now run.positions.now j).item pass in
        let a = plain_before i j b.a (nth_of run.kept.now run.positions.now i).item refl lt within b.is in
        is_before_at i a.0 a.1
        ∙ ap is_lt (name_total.trans (a.0).owner b.a.owner name (owners_rise i j a.0 b.a lt within a.1 b.is)
        (lt_from (name_cmp b.a.owner name) b.before_)))
        (λ (ge : j ≤ i).
        let same : i ≡ j = omega (arith, le, ge) in
        ap (λ (n : ℕ). is_before name (nth_of run.kept.now run.positions.now n)) same ∙ pass)
        (cases_lt i j);
  }

  -- ---- the wildcard

  pub denies_found : (rtype : ℕ) (y : OwnedNsec) → Some y ≡ find (is_owned_by name) those
      → wildcard_lacks rtype y.fields.types ≡ wildcard_denies rtype name those
  denies_found rtype y found =
      let f = find_there (is_owned_by name) those y (sym found) in
      same_bool (wildcard_lacks rtype y.fields.types) (wildcard_denies rtype name those)
      (λ lacks.
      any_from (λ n. is_owned_by name n && wildcard_lacks rtype n.fields.types) those y f.there
      (both_true (is_owned_by name y) (wildcard_lacks rtype y.fields.types) f.passes lacks))
      (λ any.
      let z = Any-from_list_any (λ n. is_owned_by name n && wildcard_lacks rtype n.fields.types) those any in
      let z_owned = left_true (is_owned_by name z.1) (wildcard_lacks rtype (z.1).fields.types) z.4 in
      let same : z.1 ≡ y =
      those_apart.each z.1 y (z.0, z.2, z.3) f.there
      (name_equiv.congr (z.1).owner name y.owner z_owned ∙ name_equiv.symm name y.owner ∙ f.passes) in
      ap (λ (n : OwnedNsec). wildcard_lacks rtype n.fields.types) (sym same)
      ∙ right_true (is_owned_by name z.1) (wildcard_lacks rtype (z.1).fields.types) z.4)

  pub denies_none : (rtype : ℕ) → None ≡ find (is_owned_by name) those → false ≡ wildcard_denies rtype name those
  denies_none rtype none =
      sym (none_from (λ n. is_owned_by name n && wildcard_lacks rtype n.fields.types) those
      (λ z t. ap (λ (b : Bool). b && wildcard_lacks rtype z.fields.types)
      (find_misses (is_owned_by name) those z (sym none) t)))

  module _ (number : ℕ) (parted : IsParted (is_before name) run.kept.now run.positions.now number number) where
    -- ---- the record that the name owns

    number_owned : (x : OwnedNsec) (i : IsIndex run now x) → is_owned_by name x ≡ true → i.number ≡ number
    number_owned x i owned =
        let tie : is_eq (name_cmp x.owner name) ≡ true = sym (name_ties x.owner name) ∙ owned in
        let x_is = item_at run now (nth run.positions.now i.number) x i.gives in
        let i_within = i.within in
        ⊎_elim (λ (lt : i.number < number).
        absurd (both_ways (before x.owner name) (lt_not_eq (name_cmp x.owner name) tie)
        (sym (is_before_at i.number x x_is) ∙ parted.front i.number lt)))
        (λ (ge : number ≤ i.number).
        ⊎_elim (λ (lt : number < i.number).
        let a = plain_before number i.number x (nth_of run.kept.now run.positions.now number).item refl lt i.within x_is in
        absurd (both_ways (before (a.0).owner name)
        (sym (is_before_at number a.0 a.1) ∙ parted.back number (omega arith) (omega (arith, lt, i_within)))
        (ap is_lt (sym (alike_right name_total x.owner name (a.0).owner (equal_from (name_cmp x.owner name) tie))
        ∙ owners_rise number i.number a.0 x lt i.within a.1 x_is))))
        (λ (le : i.number ≤ number). omega (arith, ge, le))
        (cases_lt number i.number))
        (cases_lt i.number number)

    owned_there : (x : OwnedNsec) → Contains those x → is_owned_by name x ≡ true
        → (number < length run.positions.now) × (nsec_at run now (nth run.positions.now number) ≡ Some x)
    owned_there x t owned =
        let i = index_of run now x t in
        let same : i.number ≡ number = number_owned x i owned in
        let i_within = i.within in (
          omega (arith, same, i_within),
          ap (λ (n : ℕ). nsec_at run now (nth run.positions.now n)) (sym same) ∙ i.gives,
        )

    pub owned_end : length run.positions.now ≤ number → None ≡ find (is_owned_by name) those
    owned_end end =
        sym (find_none (is_owned_by name) those (λ x t. false_from_ne_true (is_owned_by name x) (λ pass.
        let o = owned_there x t pass in let lt = o.0 in absurd (omega (arith, end, lt)))))

    pub owned_none : nsec_at run now (nth run.positions.now number) ≡ None → None ≡ find (is_owned_by name) those
    owned_none none =
        sym (find_none (is_owned_by name) those (λ x t. false_from_ne_true (is_owned_by name x) (λ pass.
        let o = owned_there x t pass in
        let e : None ≡ Some x = sym none ∙ o.1 in cc)))

    pub owned_other : (y : OwnedNsec) → nsec_at run now (nth run.positions.now number) ≡ Some y
        → is_owned_by name y ≡ false → None ≡ find (is_owned_by name) those
    owned_other y is fails =
        sym (find_none (is_owned_by name) those (λ x t. false_from_ne_true (is_owned_by name x) (λ pass.
        let o = owned_there x t pass in
        let e : Some y ≡ Some x = sym is ∙ o.1 in
        let same : y ≡ x = cc in
        both_ways (is_owned_by name y) fails (ap (is_owned_by name) same ∙ pass))))

    pub owned_here : (y : OwnedNsec) → number < length run.positions.now
        → nsec_at run now (nth run.positions.now number) ≡ Some y → is_owned_by name y ≡ true
        → Some y ≡ find (is_owned_by name) those
    owned_here y within is pass =
        sym (find_only (is_owned_by name) those y
        (listed_at run now (nth run.positions.now number) y (contains_nth run.positions.now number within) is) pass
        (λ x t owned.
        let o = owned_there x t owned in
        let e : Some y ≡ Some x = sym is ∙ o.1 in
        let same : x ≡ y = cc in same))

    owned_by : (o : Option OwnedNsec) → nsec_at run now (nth run.positions.now number) ≡ o
        → number < length run.positions.now → keep_if (is_owned_by name) o ≡ find (is_owned_by name) those
    owned_by None is within = owned_none is
    owned_by (Some y) is within = by (is_owned_by name y) refl
      where
        by : (b : Bool) → is_owned_by name y ≡ b → cond b (Some y) None ≡ find (is_owned_by name) those
        by true pass = owned_here y within is pass
        by false fails = owned_other y is fails

    pub owned_is : number < length run.positions.now
        → keep_if (is_owned_by name) (nsec_at run now (nth run.positions.now number)) ≡ find (is_owned_by name) those
    owned_is within = owned_by (nsec_at run now (nth run.positions.now number)) refl within

    -- ---- the record that is nearest before the name

    -- what spans the name stands before it
    number_spanning : (x : OwnedNsec) (i : IsIndex run now x) → nsec_spans name x ≡ true → i.number < number
    number_spanning x i spans =
        let x_is = item_at run now (nth run.positions.now i.number) x i.gives in
        let first = left_true (before x.owner name)
        (before name x.fields.next || (leads_back x && at_or_above x.fields.next name)) spans in
        ⊎_elim (λ (lt : i.number < number). lt)
        (λ (ge : number ≤ i.number). absurd (both_ways (is_before name (nth_of run.kept.now run.positions.now i.number))
        (parted.back i.number ge i.within) (is_before_at i.number x x_is ∙ first)))
        (cases_lt i.number number)

    near_all : (x : OwnedNsec)
        → ((y : OwnedNsec) → Contains those y → nsec_spans name y ≡ true → before x.owner y.owner ≡ false)
        → is_nearest name those x ≡ true
    near_all x nearest =
        all_from (λ other. not (nsec_spans name other && before x.owner other.owner)) those
        (λ y t. not_of_both (nsec_spans name y) (before x.owner y.owner) (nearest y t))

    near_from : (x y : OwnedNsec) → is_nearest name those x ≡ true → Contains those y → nsec_spans name y ≡ true
        → before x.owner y.owner ≡ false
    near_from x y nearest t spans =
        not_both (nsec_spans name y) (before x.owner y.owner)
        (all_at (λ other. not (nsec_spans name other && before x.owner other.owner)) those y nearest t.0 t.1 t.2) spans

    pub near_is : (o : Option OwnedNsec) → IsNear those name o → o ≡ find (counts_for name those) those
    near_is None h =
        sym (find_none (counts_for name those) those
        (λ y t. ap (λ (b : Bool). b && is_nearest name those y) (h.none refl y t)))
    near_is (Some x) h =
        sym (find_only (counts_for name those) those x (h.listed x refl)
        (both_true (nsec_spans name x) (is_nearest name those x) (h.spans x refl) (near_all x (h.nearest x refl)))
        (λ y t pass.
        let y_spans = left_true (nsec_spans name y) (is_nearest name those y) pass in
        let y_near = right_true (nsec_spans name y) (is_nearest name those y) pass in
        those_apart.each y x t (h.listed x refl)
        (tied y.owner x.owner (near_from y x y_near (h.listed x refl) (h.spans x refl)) (h.nearest x refl y t y_spans))))

    not_before_itself : (x : OwnedNsec) → before x.owner x.owner ≡ false
    not_before_itself x = ap is_lt (tied_itself name_total x.owner)

    not_back : (x y : OwnedNsec) → name_cmp x.owner y.owner ≡ Less → before y.owner x.owner ≡ false
    not_back x y h = ap is_lt (name_total.antisymm y.owner x.owner ∙ ap ordering_reverse h)

    -- the last one before the name spans it
    pub near_last : (x : OwnedNsec) → 0 < number
        → spanning_at run now name (nth run.positions.now (number - 1)) ≡ Some x
        → Some x ≡ find (counts_for name those) those
    near_last x some is =
        let k = kept_from (nsec_spans name) (nsec_at run now (nth run.positions.now (number - 1))) x is in
        let end : number ≤ length run.positions.now = parted.within in
        let within : number - 1 < length run.positions.now = omega (arith, some, end) in
        let x_is = item_at run now (nth run.positions.now (number - 1)) x k.is in
        near_is (Some x)
        (record {
          listed = λ z e.
              subst (λ (w : OwnedNsec). Contains those w) (let same : x ≡ z = cc in same)
              (listed_at run now (nth run.positions.now (number - 1)) x
              (contains_nth run.positions.now (number - 1) within) k.is);
          spans = λ z e. (let same : x ≡ z = cc in sym (ap (nsec_spans name) same) ∙ k.passes);
          nearest = λ z e y t spans.
              let same : x ≡ z = cc in
              let i = index_of run now y t in
              let below = number_spanning y i spans in
              ap (λ (w : OwnedNsec). before w.owner y.owner) (sym same)
              ∙ ⊎_elim (λ (lt : i.number < number - 1).
              not_back y x
              (owners_rise i.number (number - 1) y x lt within
              (item_at run now (nth run.positions.now i.number) y i.gives) x_is))
              (λ (ge : number - 1 ≤ i.number).
              let here : i.number ≡ number - 1 = omega (arith, ge, below) in
              let e : Some y ≡ Some x =
              sym i.gives ∙ ap (λ (n : ℕ). nsec_at run now (nth run.positions.now n)) here ∙ k.is in
              let one : y ≡ x = cc in
              ap (λ (w : OwnedNsec). before x.owner w.owner) one ∙ not_before_itself x)
              (cases_lt i.number (number - 1));
          none = λ e y t. (let no : ⊥ = cc in absurd no);
        })

    -- one was found where the last one stands
    pub near_some : (x : OwnedNsec)
        → (0 < number → Some x ≡ spanning_at run now name (nth run.positions.now (number - 1)))
        → (number ≡ 0 → Some x ≡ None) → Some x ≡ find (counts_for name those) those
    near_some x some none =
        ⊎_elim (λ (lt : 0 < number). near_last x lt (sym (some lt)))
        (λ (ge : number ≤ 0).
        let no : Some x ≡ None = none (omega (arith, ge)) in
        let never : ⊥ = cc in absurd never)
        (cases_lt 0 number)

    -- a record that spans the name and isn't the last before it reaches
    far_reaches : (y : OwnedNsec) (i : IsIndex run now y) → nsec_spans name y ≡ true → i.number < number - 1
        → Contains reaching (nth run.positions.now i.number)
    far_reaches y i spans lt =
        let end : number ≤ length run.positions.now = parted.within in
        let within : number - 1 < length run.positions.now = omega (arith, lt, end) in
        let y_is = item_at run now (nth run.positions.now i.number) y i.gives in
        let a = before_item name (nth_of run.kept.now run.positions.now (number - 1)).item
        (parted.front (number - 1) (omega (arith, lt))) in
        let a_name = lt_from (name_cmp a.a.owner name) a.before_ in
        let past = or_either (before name y.fields.next) (leads_back y && at_or_above y.fields.next name)
        (before a.a.owner y.fields.next) (leads_back y)
        (λ h. ap is_lt (name_total.trans a.a.owner name y.fields.next a_name (lt_from (name_cmp name y.fields.next) h)))
        (λ h. left_true (leads_back y) (at_or_above y.fields.next name) h)
        (right_true (before y.owner name)
        (before name y.fields.next || (leads_back y && at_or_above y.fields.next name)) spans) in
        s.each (nth run.positions.now i.number) (nth run.positions.now (number - 1))
        (contains_nth run.positions.now i.number i.within)
        (contains_nth run.positions.now (number - 1) within)
        (reaches_of (nth_of run.kept.now run.positions.now i.number)
        (nth_of run.kept.now run.positions.now (number - 1)) y a.a
        (zones i.number (number - 1) i.within within) y_is a.is
        (ap is_lt (owners_rise i.number (number - 1) y a.a lt within y_is a.is)) past)

    -- the last one before the name doesn't span it
    pub near_far : (best : Option OwnedNsec) → IsBest run now name reaching best
        → (0 < number → spanning_at run now name (nth run.positions.now (number - 1)) ≡ None)
        → best ≡ find (counts_for name those) those
    near_far best h last =
        near_is best
        (record {
          listed = λ x e.
              let f = h.found x e in
              let k = kept_from (nsec_spans name) (nsec_at run now f.0) x f.2 in
              let p = f.1 in
              let p_is = nth_there reaching f.0 p in
              let a = found_at run now f.0 x k.is in
              let lt = s.inside.each p.0 p.1 in
              listed_at run now f.0 x
              (s.is.each f.0 a.after (omega (arith, lt, p_is))
              (ap (λ (n : ℕ). name_eq (at run.kept.now n).zone s.zone) (sym p_is) ∙ s.only p.0 p.1)) k.is;
          spans = λ x e. (let f = h.found x e in (kept_from (nsec_spans name) (nsec_at run now f.0) x f.2).passes);
          nearest = λ x e y t spans.
              let l = best_over y t spans in
              let e : Some (l.0) ≡ Some x = sym (l.1) ∙ e in
              let same : l.0 ≡ x = cc in
              ap (λ (w : OwnedNsec). before w.owner y.owner) (sym same) ∙ l.2;
          none = λ e y t. false_from_ne_true (nsec_spans name y) (λ spans.
              let l = best_over y t spans in
              let e : Some (l.0) ≡ None = sym (l.1) ∙ e in cc);
        })
      where
        best_over : (y : OwnedNsec) → Contains those y → nsec_spans name y ≡ true
            → (z : OwnedNsec) × (best ≡ Some z) × (before z.owner y.owner ≡ false)
        best_over y t spans =
            let i = index_of run now y t in
            let below = number_spanning y i spans in
            let here = kept_into (nsec_spans name) (nsec_at run now (nth run.positions.now i.number)) y i.gives spans in
            ⊎_elim (λ (lt : i.number < number - 1).
            h.least (nth run.positions.now i.number) y (far_reaches y i spans lt) here)
            (λ (ge : number - 1 ≤ i.number).
            let same : number - 1 ≡ i.number = omega (arith, ge, below) in
            let e : None ≡ Some y =
            sym (last (omega (arith, below)))
            ∙ ap (λ (n : ℕ). spanning_at run now name (nth run.positions.now n)) same ∙ here in
            let no : ⊥ = cc in absurd no)
            (cases_lt i.number (number - 1))

-- ---- the best so far

pub best_none : (run : ZoneRun) (now : ℕ) (name : Labels) → IsBest run now name [] None
best_none run now name = record {
  found = λ x e. (let no : ⊥ = cc in absurd no);
  least = λ p x t e. (let lt = t.1 in absurd (omega (arith, lt)));
}

contains_push : (xs : List ℕ) (y x : ℕ) → Contains (xs ++ y ∷ []) x → Contains xs x ⊎ (y ≡ x)
contains_push xs y x t =
    let lt = t.1 in
    ⊎_elim (λ (less : t.0 < length xs). inl (t.0, less, sym (get_or_append_left xs (y ∷ []) x t.0 less) ∙ t.2))
    (λ (ge : length xs ≤ t.0).
    let same : length xs ≡ t.0 = omega (arith, lt, ge, length_push xs y) in
    inr (sym (get_or_push xs y x t.0 same) ∙ t.2))
    (cases_lt t.0 (length xs))

push_there : (xs : List ℕ) (y x : ℕ) → Contains xs x → Contains (xs ++ y ∷ []) x
push_there xs y x t =
    (t.0, (let lt = t.1 in omega (arith, lt, length_push xs y)), get_or_append_left xs (y ∷ []) x t.0 t.1 ∙ t.2)

push_here : (xs : List ℕ) (y : ℕ) → Contains (xs ++ y ∷ []) y
push_here xs y = (length xs, omega (arith, length_push xs y), get_or_push xs y y (length xs) refl)

-- names that don't come before one another
before_chain : (x y z : Labels) → before x y ≡ false → before y z ≡ false → before x z ≡ false
before_chain x y z h k = false_from_ne_true (before x z) (λ pass.
    both_ways (before x y) h (by (name_cmp y z) refl pass))
  where
    by : (o : Ordering) → name_cmp y z ≡ o → before x z ≡ true → before x y ≡ true
    by Less is pass = let no : ⊥ = both_ways (before y z) k (ap is_lt is) in absurd no
    by Equal is pass = ap is_lt (alike_right name_total y z x is) ∙ pass
    by Greater is pass =
        ap is_lt (name_total.trans x z y (lt_from (name_cmp x z) pass)
        (name_total.antisymm z y ∙ ap ordering_reverse is))

pub best_more : (run : ZoneRun) (now : ℕ) (name : Labels) (xs : List ℕ) (p : ℕ) (best : Option OwnedNsec)
    → IsBest run now name xs best
    → IsBest run now name (xs ++ p ∷ []) (nearer best (spanning_at run now name p))
best_more run now name xs p best h = by best (spanning_at run now name p) refl h
  where
    more_found : (best next : Option OwnedNsec) → spanning_at run now name p ≡ next → IsBest run now name xs best
        → (x : OwnedNsec) → nearer best next ≡ Some x
        → (q : ℕ) × Contains (xs ++ p ∷ []) q × (spanning_at run now name q ≡ Some x)
    more_found None next is h x e = (p, push_here xs p, is ∙ e)
    more_found (Some one) None is h x e =
        let f = h.found x e in (f.0, push_there xs p f.0 f.1, f.2)
    more_found (Some one) (Some two) is h x e = chosen (before one.owner two.owner) refl e
      where
        chosen : (b : Bool) → before one.owner two.owner ≡ b → cond b (Some two) (Some one) ≡ Some x
            → (q : ℕ) × Contains (xs ++ p ∷ []) q × (spanning_at run now name q ≡ Some x)
        chosen true b_is e = (p, push_here xs p, is ∙ e)
        chosen false b_is e = let f = h.found x e in (f.0, push_there xs p f.0 f.1, f.2)

    -- what is chosen is behind neither
    over_best : (one : OwnedNsec) (next : Option OwnedNsec)
        → (z : OwnedNsec) × (nearer (Some one) next ≡ Some z) × (before z.owner one.owner ≡ false)
    over_best one None = (one, refl, ap is_lt (tied_itself name_total one.owner))
    over_best one (Some two) = chosen (before one.owner two.owner) refl
      where
        chosen : (b : Bool) → before one.owner two.owner ≡ b
            → (z : OwnedNsec) × (cond b (Some two) (Some one) ≡ Some z) × (before z.owner one.owner ≡ false)
        chosen true b_is = (
          two,
          refl,
          ap is_lt (name_total.antisymm two.owner one.owner
              ∙ ap ordering_reverse (lt_from (name_cmp one.owner two.owner) b_is)),
        )
        chosen false b_is = (one, refl, ap is_lt (tied_itself name_total one.owner))

    over_next : (best : Option OwnedNsec) (two : OwnedNsec)
        → (z : OwnedNsec) × (nearer best (Some two) ≡ Some z) × (before z.owner two.owner ≡ false)
    over_next None two = (two, refl, ap is_lt (tied_itself name_total two.owner))
    over_next (Some one) two = chosen (before one.owner two.owner) refl
      where
        chosen : (b : Bool) → before one.owner two.owner ≡ b
            → (z : OwnedNsec) × (cond b (Some two) (Some one) ≡ Some z) × (before z.owner two.owner ≡ false)
        chosen true b_is = (two, refl, ap is_lt (tied_itself name_total two.owner))
        chosen false b_is = (one, refl, b_is)

    by : (best next : Option OwnedNsec) → spanning_at run now name p ≡ next → IsBest run now name xs best
        → IsBest run now name (xs ++ p ∷ []) (nearer best (spanning_at run now name p))
    by best next is h =
        subst (λ (o : Option OwnedNsec). IsBest run now name (xs ++ p ∷ []) (nearer best o)) (sym is)
        (record {
          found = more_found best next is h;
          least = λ q x t e.
              ⊎_elim (λ (there : Contains xs q).
              let l = h.least q x there e in
              let o = over_best l.0 next in (
                o.0,
                ap (λ (b : Option OwnedNsec). nearer b next) l.1 ∙ o.1,
                before_chain (o.0).owner (l.0).owner x.owner o.2 l.2,
              ))
              (λ (same : p ≡ q).
              let here : next ≡ Some x = sym is ∙ ap (spanning_at run now name) same ∙ e in
              let o = over_next best x in (
                o.0,
                ap (nearer best) here ∙ o.1,
                o.2,
              ))
              (contains_push xs p q t);
        })
