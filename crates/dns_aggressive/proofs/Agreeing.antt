-- A part of NSEC records that has all that matter for some names proves of these names what all the records prove.
use Rattle.std.proofs.Common.{◌≡◌, ℕ, zero, suc, ◌<◌, Bool, true, false, cond, not, ◌&&◌, ◌||◌, ◌==◌, List, [], ◌∷◌, length, get_or, Option, None, Some, refl, sym, ap, ◌∙◌, arith}
use Rattle.std.specs.Prelude.{nat_lt}
use Rattle.std.specs.List.{Contains, find, list_all, list_any}
use Rattle.std.specs.Option.{is_some}
use Rattle.std.specs.Ordering.{is_eq, is_lt, ordering_reverse}
use Rattle.std.specs.declared.cmp.Ordering.{Ordering}
use Rattle.std.specs.declared.cmp.Ordering.TheVariants.{Less, Equal, Greater}
use Rattle.std.proofs.lemmas.Bool.{both_ways, false_from_ne_true}
use Rattle.std.proofs.lemmas.List.Folds.{Any-from_list_any, list_any-from_Any}
use Rattle.dns_model.specs.declared.answered.Answered.TheVariants.{No}
use Rattle.dns_model.specs.Names.{Labels, before, common_ancestor, longer, name_cmp, name_eq, star, strictly_above}
use Rattle.dns_model.specs.Owned.{OwnedNsec}
use Rattle.dns_model.specs.Records.{Question}
use Rattle.dns_model.specs.Types.{can_deny, code_no_error, code_nx_domain}
use Rattle.dns_model.proofs.AboveLemmas.{Ends}
use Rattle.dns_model.proofs.CommonAncestors.{common_ends}
use Rattle.dns_model.proofs.NameLemmas.{name_equiv}
use Rattle.dns_model.proofs.OrderLemmas.{name_ties, name_total}
use Rattle.dns_rules.specs.Covering.{counts_for, is_nearest, nsec_covering, nsec_spans, unless_silent}
use Rattle.dns_rules.specs.ListedTypes.{is_unanswered, wildcard_lacks}
use Rattle.dns_rules.specs.NsecVerdict.{closest_encloser, holds_query, is_owned_by, missing_name, nsec_verdict, proved_at_name, proved_by_covering, secure_if, wildcard_denies}
use Rattle.dns_aggressive.specs.Agreeing.{AreAround, AreOwnedApart, ArePart}

-- ---- what a list contains

contains_first : {X : Type 0} (x : X) (xs : List X) → Contains (x ∷ xs) x
contains_first x xs = (zero, omega arith, refl)

contains_more : {X : Type 0} (y : X) (xs : List X) (x : X) → Contains xs x → Contains (y ∷ xs) x
contains_more y xs x there = (suc there.0, (let lt = there.1 in omega (arith, lt)), there.2)

contains_rest : {X : Type 0} (y : X) (xs : List X) (x : X) → (y ≡ x → ⊥) → (i : ℕ) → i < length (y ∷ xs)
    → get_or (y ∷ xs) i x ≡ x → Contains xs x
contains_rest y xs x differs zero within is = absurd (differs is)
contains_rest y xs x differs (suc i) within is = (i, omega (arith, within), is)

untrue : {P : Type 0} (b : Bool) → b ≡ true → b ≡ false → P
untrue b h k = absurd (both_ways b k h)

find_step : {X : Type 0} (p : X → Bool) (y : X) (xs : List X) (x : X) (b : Bool) → p y ≡ b → (b ≡ true → y ≡ x)
    → (b ≡ false → find p xs ≡ Some x) → cond b (Some y) (find p xs) ≡ Some x
find_step p y xs x true is here later = ap Some (here refl)
find_step p y xs x false is here later = later refl

-- the one element that passes is found
pub find_only : {X : Type 0} (p : X → Bool) (xs : List X) (x : X) → Contains xs x → p x ≡ true
    → ((y : X) → Contains xs y → p y ≡ true → y ≡ x) → find p xs ≡ Some x
find_only p [] x there pass only = absurd (let lt = there.1 in omega (arith, lt))
find_only p (y ∷ xs) x there pass only =
    find_step p y xs x (p y) refl (λ h. only y (contains_first y xs) h)
    (λ h. find_only p xs x
    (contains_rest y xs x (λ same. both_ways (p y) h (ap p same ∙ pass)) there.0 there.1 there.2) pass
    (λ z among. only z (contains_more y xs z among)))

pub find_none : {X : Type 0} (p : X → Bool) (xs : List X) → ((y : X) → Contains xs y → p y ≡ false) → find p xs ≡ None
find_none p [] none = refl
find_none p (y ∷ xs) none =
    ap (λ b. cond b (Some y) (find p xs)) (none y (contains_first y xs))
    ∙ find_none p xs (λ z among. none z (contains_more y xs z among))

find_pointwise : {X : Type 0} (p q : X → Bool) (xs : List X) → ((x : X) → p x ≡ q x) → find p xs ≡ find q xs
find_pointwise p q [] same = refl
find_pointwise p q (x ∷ xs) same =
    ap (λ b. cond b (Some x) (find p xs)) (same x) ∙ ap (cond (q x) (Some x)) (find_pointwise p q xs same)

pub any_from : {X : Type 0} (p : X → Bool) (xs : List X) (x : X) → Contains xs x → p x ≡ true → list_any p xs ≡ true
any_from p xs x there pass = list_any-from_Any p xs (there.0, x, there.1, there.2, pass)

pub none_from : {X : Type 0} (p : X → Bool) (xs : List X) → ((x : X) → Contains xs x → p x ≡ false)
    → list_any p xs ≡ false
none_from p xs none = false_from_ne_true (list_any p xs) (λ any.
    let found = Any-from_list_any p xs any in
    both_ways (p found.1) (none found.1 (found.0, found.2, found.3)) found.4)

pub all_from : {X : Type 0} (p : X → Bool) (xs : List X) → ((x : X) → Contains xs x → p x ≡ true) → list_all p xs ≡ true
all_from p [] all = refl
all_from p (x ∷ xs) all =
    ap (λ b. b && list_all p xs) (all x (contains_first x xs))
    ∙ all_from p xs (λ y among. all y (contains_more x xs y among))

left_true : (a b : Bool) → (a && b) ≡ true → a ≡ true
left_true true b h = refl
left_true false b h = cc

right_true : (a b : Bool) → (a && b) ≡ true → b ≡ true
right_true true b h = h
right_true false b h = cc

both_true : (a b : Bool) → a ≡ true → b ≡ true → (a && b) ≡ true
both_true true b h k = k
both_true false b h k = cc

pub all_at : {X : Type 0} (p : X → Bool) (xs : List X) (x : X) → list_all p xs ≡ true → (i : ℕ) → i < length xs
    → get_or xs i x ≡ x → p x ≡ true
all_at p [] x all i within is = absurd (omega (arith, within))
all_at p (y ∷ xs) x all zero within is = sym (ap p is) ∙ left_true (p y) (list_all p xs) all
all_at p (y ∷ xs) x all (suc i) within is = all_at p xs x (right_true (p y) (list_all p xs) all) i (omega (
  arith,
  within,
)) is

same_bool : (a b : Bool) → (a ≡ true → b ≡ true) → (b ≡ true → a ≡ true) → a ≡ b
same_bool true b there back = sym (there refl)
same_bool false true there back = back refl
same_bool false false there back = refl

-- ---- what both lists find

module _ {X : Type 0} (p : X → Bool) (part all : List X) (among : ArePart part all)
    (back : (x : X) → Contains all x → p x ≡ true → Contains part x) where
  pub any_same : list_any p part ≡ list_any p all
  any_same = same_bool (list_any p part) (list_any p all)
      (λ any. let found = Any-from_list_any p part any in
      any_from p all found.1 (among.each found.1 (found.0, found.2, found.3)) found.4)
      (λ any. let found = Any-from_list_any p all any in
      any_from p part found.1 (back found.1 (found.0, found.2, found.3) found.4) found.4)

  find_by : ((x y : X) → Contains all x → Contains all y → p x ≡ true → p y ≡ true → y ≡ x) → (b : Bool)
      → list_any p all ≡ b → find p part ≡ find p all
  find_by only true any =
      let found = Any-from_list_any p all any in
      let there : Contains all found.1 = (found.0, found.2, found.3) in
      find_only p part found.1 (back found.1 there found.4) found.4
      (λ y y_among pass. only found.1 y there (among.each y y_among) found.4 pass)
      ∙ sym (find_only p all found.1 there found.4 (λ y y_among pass. only found.1 y there y_among found.4 pass))
  find_by only false none =
      let fails : (x : X) → Contains all x → p x ≡ false =
      λ x there. false_from_ne_true (p x) (λ pass. both_ways (list_any p all) none (any_from p all x there pass)) in
      find_none p part (λ x there. fails x (among.each x there)) ∙ sym (find_none p all fails)

  pub find_same : ((x y : X) → Contains all x → Contains all y → p x ≡ true → p y ≡ true → y ≡ x)
      → find p part ≡ find p all
  find_same only = find_by only (list_any p all) refl

-- ---- a name

or_left : (a b : Bool) → a ≡ true → (a || b) ≡ true
or_left true b h = refl
or_left false b h = cc

or_right : (a b : Bool) → b ≡ true → (a || b) ≡ true
or_right true b h = refl
or_right false b h = h

not_true : (a : Bool) → not a ≡ true → a ≡ false
not_true true h = cc
not_true false h = refl

pub not_both : (a b : Bool) → not (a && b) ≡ true → a ≡ true → b ≡ false
not_both true b h k = not_true b h
not_both false b h k = cc

not_of : (a : Bool) → a ≡ false → not a ≡ true
not_of true h = cc
not_of false h = refl

tied_by : (o : Ordering) → is_lt o ≡ false → is_lt (ordering_reverse o) ≡ false → is_eq o ≡ true
tied_by Less h k = cc
tied_by Equal h k = refl
tied_by Greater h k = cc

-- two names of which neither comes first
pub tied : (x y : Labels) → before x y ≡ false → before y x ≡ false → name_eq x y ≡ true
tied x y h k =
    name_ties x y ∙ tied_by (name_cmp x y) h (sym (ap is_lt (name_total.antisymm y x)) ∙ k)

module _ (name : Labels) (part all : List OwnedNsec) (among : ArePart part all) (around : AreAround name part all)
    (apart : AreOwnedApart all) where
  owned_in : (x : OwnedNsec) → Contains all x → is_owned_by name x ≡ true → Contains part x
  owned_in x there pass = around.each x there (or_left (is_owned_by name x) (nsec_spans name x) pass)

  spanning_in : (x : OwnedNsec) → Contains all x → nsec_spans name x ≡ true → Contains part x
  spanning_in x there pass = around.each x there (or_right (is_owned_by name x) (nsec_spans name x) pass)

  pub owned_same : find (is_owned_by name) part ≡ find (is_owned_by name) all
  owned_same = find_same (is_owned_by name) part all among owned_in
      (λ x y x_there y_there x_pass y_pass.
      apart.each y x y_there x_there
      (name_equiv.congr y.owner name x.owner y_pass ∙ name_equiv.symm name x.owner ∙ x_pass))

  nearest_same : (x : OwnedNsec) → is_nearest name part x ≡ is_nearest name all x
  nearest_same x =
      let test : OwnedNsec → Bool = λ other. not (nsec_spans name other && before x.owner other.owner) in
      same_bool (is_nearest name part x) (is_nearest name all x)
      (λ h. all_from test all (λ other there.
      by_spans other there h (nsec_spans name other) refl))
      (λ h. all_from test part (λ other there.
      let t = among.each other there in all_at test all other h t.0 t.1 t.2))
    where
      by_spans : (other : OwnedNsec) → Contains all other
          → is_nearest name part x ≡ true → (b : Bool) → nsec_spans name other ≡ b
          → not (nsec_spans name other && before x.owner other.owner) ≡ true
      by_spans other there h true spans =
          let t = spanning_in other there spans in
          all_at (λ o. not (nsec_spans name o && before x.owner o.owner)) part other h t.0 t.1 t.2
      by_spans other there h false spans = ap (λ b. not (b && before x.owner other.owner)) spans

  not_before : (x y : OwnedNsec) → Contains all y → nsec_spans name y ≡ true → is_nearest name all x ≡ true
      → before x.owner y.owner ≡ false
  not_before x y there spans nearest =
      not_both (nsec_spans name y) (before x.owner y.owner)
      (all_at (λ o. not (nsec_spans name o && before x.owner o.owner)) all y nearest there.0 there.1 there.2) spans

  pub covering_same : nsec_covering name part ≡ nsec_covering name all
  unfolding nsec_covering
  covering_same = ap (unless_silent name)
      (find_pointwise (counts_for name part) (counts_for name all) part
      (λ x. ap (λ b. nsec_spans name x && b) (nearest_same x))
      ∙ find_same (counts_for name all) part all among
      (λ x there pass. spanning_in x there (left_true (nsec_spans name x) (is_nearest name all x) pass))
      (λ x y x_there y_there x_pass y_pass.
      apart.each y x y_there x_there
      (tied y.owner x.owner
      (not_before y x x_there (left_true (nsec_spans name x) (is_nearest name all x) x_pass)
      (right_true (nsec_spans name y) (is_nearest name all y) y_pass))
      (not_before x y y_there (left_true (nsec_spans name y) (is_nearest name all y) y_pass)
      (right_true (nsec_spans name x) (is_nearest name all x) x_pass)))))

  pub denies_same : (rtype : ℕ) → wildcard_denies rtype name part ≡ wildcard_denies rtype name all
  denies_same rtype =
      any_same (λ nsec. is_owned_by name nsec && wildcard_lacks rtype nsec.fields.types) part all among
      (λ x there pass. owned_in x there (left_true (is_owned_by name x) (wildcard_lacks rtype x.fields.types) pass))

-- ---- a query

longer_ends : (one two name : Labels) → Ends one name → Ends two name → Ends (longer one two) name
longer_ends one two name h k =
    elim (nat_lt (length one) (length two)) as (λ b. Ends (cond b two one) name) [ true ↦ k | false ↦ h ]

pub encloser_ends : (name : Labels) (nsec : OwnedNsec) → Ends (closest_encloser name nsec) name
unfolding closest_encloser
encloser_ends name nsec =
    longer_ends (common_ancestor name nsec.owner) (common_ancestor name nsec.fields.next) name
    (common_ends name nsec.owner) (common_ends name nsec.fields.next)

module _ (query : Question) (zone : Labels) (part all : List OwnedNsec) (among : ArePart part all)
    (apart : AreOwnedApart all) (at_name : AreAround query.owner part all)
    (at_stars : (above : Labels) → Ends above query.owner → AreAround (star above) part all) where
  missing_same : (code : ℕ) (encloser : Labels) → Ends encloser query.owner
      → missing_name No code query.rtype encloser part ≡ missing_name No code query.rtype encloser all
  missing_same code encloser ends =
      ap (λ o. cond (code == code_nx_domain) (is_some o) (wildcard_denies query.rtype (star encloser) part))
      (covering_same (star encloser) part all among (at_stars encloser ends) apart)
      ∙ ap (cond (code == code_nx_domain) (is_some (nsec_covering (star encloser) all)))
      (denies_same (star encloser) part all among (at_stars encloser ends) apart query.rtype)

  by_covering : (code : ℕ) (o : Option OwnedNsec)
      → proved_by_covering query code No part o ≡ proved_by_covering query code No all o
  by_covering code None = refl
  by_covering code (Some nsec) =
      ap (cond (strictly_above query.owner nsec.fields.next) (is_unanswered No && (code == code_no_error)))
      (missing_same code (closest_encloser query.owner nsec) (encloser_ends query.owner nsec))

  at_owner : (code : ℕ) (o : Option OwnedNsec)
      → proved_at_name query code No part o ≡ proved_at_name query code No all o
  at_owner code (Some nsec) = refl
  at_owner code None =
      ap (proved_by_covering query code No part) (covering_same query.owner part all among at_name apart)
      ∙ by_covering code (nsec_covering query.owner all)

  -- what they prove is the same
  pub verdict_same : (code : ℕ) → nsec_verdict query zone code No part ≡ nsec_verdict query zone code No all
  unfolding nsec_verdict
  verdict_same code =
      ap (λ b. cond (not (can_deny code)) (secure_if false) (cond (not (holds_query zone query)) (secure_if false)
      (secure_if b)))
      (ap (proved_at_name query code No part) (owned_same query.owner part all among at_name apart)
      ∙ at_owner code (find (is_owned_by query.owner) all))
