-- The sets of a name and a type among the sets of a section, and their records.
use Rattle.std.proofs.Common.{◌≡◌, ℕ, Bool, true, false, not, ◌==◌, ◌&&◌, ◌||◌, cond, List, [], ◌∷◌, Option, None, Some, refl, sym, ap, ◌∙◌}
use Rattle.std.specs.Prelude.{if◌then◌else◌}
use Rattle.std.specs.Option.{option_map}
use Rattle.std.specs.List.{filter, find, list_all, list_any}
use Rattle.std.proofs.lemmas.Bool.{and_parts}
use Rattle.dns_model.specs.declared.section.Section.{Section}
use Rattle.dns_model.specs.Names.{Labels, name_eq}
use Rattle.dns_model.specs.Types.{type_rrsig}
use Rattle.dns_model.specs.Records.{Rr}
use Rattle.dns_model.specs.Sections.{same_set, is_signature, leaders, unsigned_part, set_of, sets_of}
use Rattle.dns_model.proofs.EachLemmas.{map-map, find-map, find_agree}
use Rattle.dns_model.proofs.SetLemmas.{name_left, number_same, number_back, same_set_back}
use Rattle.dns_rules.specs.MarkedSets.{MarkedSet}
use Rattle.dns_marks.specs.ZoneVerdicts.{marked_set, marked_sets}
use Rattle.dns_marks.proofs.OwnRecords.{is_own_record}

-- ---- the first of a kind of records leads the one set of that kind

-- a kind of records that fill a set: one shares its set with exactly the others
record IsKind (kind : Rr → Bool) : Type 0 where
  pub within : (a b : Rr) → kind a ≡ true → same_set a b ≡ kind b
  pub apart : (a b : Rr) → kind a ≡ false → kind b ≡ true → same_set a b ≡ false

-- the first of a kind, if it passes
unfoldable pub kept : (Rr → Bool) → Option Rr → Option Rr
kept test None = None
kept test (Some r) = if test r then Some r else None

none_step : (same own passes : Bool) (r : Rr) (rest : List Rr) (found : List Rr → Option Rr) → same ≡ own
    → found rest ≡ None
    → ((p : Bool) → p ≡ (own && passes) → found (r ∷ rest) ≡ (if p then Some r else found rest))
    → found (cond (not same) (r ∷ rest) rest) ≡ None
none_step true true passes r rest found is none head = none
none_step true false passes r rest found is none head = none
none_step false true passes r rest found is none head = cc
none_step false false passes r rest found is none head = head false refl ∙ none

-- of the sets apart from that of a record of the kind none is of it
none_apart : (kind passes : Rr → Bool) → IsKind kind → (r : Rr) → kind r ≡ true → (xs : List Rr)
    → find (λ s. kind s && passes s) (filter (λ s. not (same_set r s)) xs) ≡ None
none_apart kind passes is r of_kind [] = refl
none_apart kind passes is r of_kind (x ∷ xs) =
    none_step (same_set r x) (kind x) (passes x) x (filter (λ s. not (same_set r s)) xs) (find (λ s. kind s && passes s))
    (is.within r x of_kind)
    (none_apart kind passes is r of_kind xs)
    (λ p h. ap (λ b. cond b (Some x) (find (λ s. kind s && passes s) (filter (λ s. not (same_set r s)) xs))) (sym h))

same_step : (same own passes : Bool) (r : Rr) (rest all : List Rr) (found : List Rr → Option Rr) → (own ≡ true → same ≡ false)
    → found rest ≡ found all
    → ((ys : List Rr) → found (r ∷ ys) ≡ (if own && passes then Some r else found ys))
    → found (cond (not same) (r ∷ rest) rest) ≡ (if own && passes then Some r else found all)
same_step true true passes r rest all found apart same head = let e : true ≡ false = apart refl in cc
same_step true false passes r rest all found apart same head = same
same_step false true true r rest all found apart same head = head rest
same_step false true false r rest all found apart same head = head rest ∙ same
same_step false false passes r rest all found apart same head = head rest ∙ same

-- those apart from the set of another record hold all of the kind
same_apart : (kind passes : Rr → Bool) → IsKind kind → (r : Rr) → kind r ≡ false → (xs : List Rr)
    → find (λ s. kind s && passes s) (filter (λ s. not (same_set r s)) xs) ≡ find (λ s. kind s && passes s) xs
same_apart kind passes is r other [] = refl
same_apart kind passes is r other (x ∷ xs) =
    same_step (same_set r x) (kind x) (passes x) x (filter (λ s. not (same_set r s)) xs) xs (find (λ s. kind s && passes s))
    (is.apart r x other)
    (same_apart kind passes is r other xs) (λ ys. refl)

lead_step : (own passes : Bool) (r : Rr) (apart rest first : Option Rr) → (own ≡ true → apart ≡ None) → (own ≡ false → apart ≡ rest)
    → (if own && passes then Some r else apart) ≡ (if own then (if passes then Some r else None) else rest)
lead_step true true r apart rest first none same = refl
lead_step true false r apart rest first none same = none refl
lead_step false passes r apart rest first none same = same refl

kept_step : (test : Rr → Bool) (own : Bool) (r : Rr) (first : Option Rr)
    → (if own then (if test r then Some r else None) else kept test first) ≡ kept test (if own then Some r else first)
unfolding kept
kept_step test true r first = refl
kept_step test false r first = refl

lead_first : (kind passes : Rr → Bool) → IsKind kind → (xs : List Rr)
    → find (λ s. kind s && passes s) (leaders xs) ≡ kept passes (find kind xs)
unfolding leaders kept
lead_first kind passes is [] = refl
lead_first kind passes is (x ∷ xs) =
    lead_step (kind x) (passes x) x (find (λ s. kind s && passes s) (filter (λ s. not (same_set x s)) (leaders xs)))
    (kept passes (find kind xs)) None
    (λ h. none_apart kind passes is x h (leaders xs)) (λ h. same_apart kind passes is x h (leaders xs) ∙ lead_first kind passes is xs)
    ∙ kept_step passes (kind x) x (find kind xs)

-- ---- the records of a name and a type are such a kind

own_within : (name : Labels) (rtype : ℕ) (a b : Rr) → is_own_record name rtype a ≡ true → same_set a b ≡ is_own_record name rtype b
own_within name rtype a b h =
    let parts : (name_eq name a.owner ≡ true) × ((a.rtype == rtype) ≡ true) = and_parts _ _ h in
    ap (λ n. n && (a.rtype == b.rtype)) (sym (name_left name a.owner b.owner parts.0))
    ∙ ap (λ t. name_eq name b.owner && (t == b.rtype)) (number_same a.rtype rtype parts.1)
    ∙ ap (λ t. name_eq name b.owner && t) (number_back rtype b.rtype)

own_kind : (name : Labels) (rtype : ℕ) → IsKind (is_own_record name rtype)
own_kind name rtype = record {
  within = own_within name rtype;
  apart = λ a b other own. same_set_back a b ∙ own_within name rtype b a own ∙ other;
}

-- no signature is one
plain_step : (test plain : Bool) (r : Rr) (rest : List Rr) (find_own : List Rr → Option Rr) (all : Option Rr) → (test ≡ true → plain ≡ true)
    → find_own rest ≡ all → ((ys : List Rr) → find_own (r ∷ ys) ≡ (if test then Some r else find_own ys))
    → find_own (cond plain (r ∷ rest) rest) ≡ (if test then Some r else all)
plain_step true true r rest find_own all plain same head = head rest
plain_step true false r rest find_own all plain same head = let e : false ≡ true = plain refl in cc
plain_step false true r rest find_own all plain same head = head rest ∙ same
plain_step false false r rest find_own all plain same head = same

own_plain : (name : Labels) (rtype : ℕ) → (rtype == type_rrsig) ≡ false → (r : Rr) → is_own_record name rtype r ≡ true
    → not (is_signature r) ≡ true
own_plain name rtype other r h =
    let parts : (name_eq name r.owner ≡ true) × ((r.rtype == rtype) ≡ true) = and_parts _ _ h in
    ap (λ t. not (t == type_rrsig)) (number_same r.rtype rtype parts.1) ∙ ap not other

find_unsigned : (name : Labels) (rtype : ℕ) → (rtype == type_rrsig) ≡ false → (xs : List Rr)
    → find (is_own_record name rtype) (unsigned_part xs) ≡ find (is_own_record name rtype) xs
find_unsigned name rtype other [] = refl
find_unsigned name rtype other (x ∷ xs) =
    plain_step (is_own_record name rtype x) (not (is_signature x)) x (unsigned_part xs) (find (is_own_record name rtype))
    (find (is_own_record name rtype) xs)
    (own_plain name rtype other x) (find_unsigned name rtype other xs) (λ ys. refl)

-- the set that is found is that of the first record of the kind, where that passes
pub find_set : (name : Labels) (rtype : ℕ) → (rtype == type_rrsig) ≡ false
    → (section : Section) (records : List Rr) (test : MarkedSet → Bool) (passes : Rr → Bool)
    → ((r : Rr) → test (marked_set section (set_of records r)) ≡ (is_own_record name rtype r && passes r))
    → find test (marked_sets section records)
    ≡ option_map (λ r. marked_set section (set_of records r)) (kept passes (find (is_own_record name rtype) records))
unfolding sets_of
find_set name rtype other section records test passes agree =
    ap (find test) (map-map (marked_set section) (set_of records) (leaders (unsigned_part records)))
    ∙ find-map test (λ r. marked_set section (set_of records r)) (leaders (unsigned_part records))
    ∙ ap (option_map (λ r. marked_set section (set_of records r)))
    (find_agree (λ r. test (marked_set section (set_of records r))) (λ r. is_own_record name rtype r
    && passes r) agree (leaders (unsigned_part records)))
    ∙ ap (option_map (λ r. marked_set section (set_of records r)))
    (lead_first (is_own_record name rtype) passes (own_kind name rtype) (unsigned_part records)
    ∙ ap (kept passes) (find_unsigned name rtype other records))

-- ---- the records of such a set

kind_step : (b : Bool) (own : Rr → Bool) (r : Rr) (first : Option Rr) (x : Rr) → own r ≡ b → (if b then Some r else first) ≡ Some x
    → (first ≡ Some x → own x ≡ true) → own x ≡ true
kind_step true own r first x here is more = let e : r ≡ x = cc in sym (ap own e) ∙ here
kind_step false own r first x here is more = more is

found_kind : (own : Rr → Bool) (rs : List Rr) (x : Rr) → find own rs ≡ Some x → own x ≡ true
found_kind own [] x is = cc
found_kind own (r ∷ rs) x is = kind_step (own r) own r (find own rs) x refl is (found_kind own rs x)

same_filter : (test own : Rr → Bool) → ((r : Rr) → test r ≡ own r) → (rs : List Rr) → filter test rs ≡ filter own rs
same_filter test own same [] = refl
same_filter test own same (r ∷ rs) =
    ap (λ b. cond b (r ∷ filter test rs) (filter test rs)) (same r)
    ∙ ap (λ more. cond (own r) (r ∷ more) more) (same_filter test own same rs)

twice_step : (a b : Bool) (r : Rr) (test : Rr → Bool) (rest all : List Rr) → test r ≡ b → filter test rest ≡ all
    → filter test (cond a (r ∷ rest) rest) ≡ cond (a && b) (r ∷ all) all
twice_step true b r test rest all is h = ap (λ t. cond t (r ∷ filter test rest) (filter test rest)) is ∙ ap (λ rs. cond b (r ∷ rs) rs) h
twice_step false b r test rest all is h = h

pub filter_twice : (own test : Rr → Bool) (rs : List Rr) → filter test (filter own rs) ≡ filter (λ r. own r && test r) rs
filter_twice own test [] = refl
filter_twice own test (r ∷ rs) =
    twice_step (own r) (test r) r test (filter own rs) (filter (λ r. own r && test r) rs) refl (filter_twice own test rs)

all_step : (a b : Bool) (r : Rr) (test : Rr → Bool) (rest : List Rr) (all : Bool) → test r ≡ b → list_all test rest ≡ all
    → list_all test (cond a (r ∷ rest) rest) ≡ ((not a || b) && all)
all_step true b r test rest all is h = ap (λ t. t && list_all test rest) is ∙ ap (λ t. b && t) h
all_step false b r test rest all is h = h

pub filter_all : (own test : Rr → Bool) (rs : List Rr) → list_all test (filter own rs) ≡ list_all (λ r. not (own r) || test r) rs
filter_all own test [] = refl
filter_all own test (r ∷ rs) =
    all_step (own r) (test r) r test (filter own rs) (list_all (λ r. not (own r) || test r) rs) refl (filter_all own test rs)

any_step : (a b : Bool) (r : Rr) (test : Rr → Bool) (rest : List Rr) (any : Bool) → test r ≡ b → list_any test rest ≡ any
    → list_any test (cond a (r ∷ rest) rest) ≡ ((a && b) || any)
any_step true b r test rest any is h = ap (λ t. t || list_any test rest) is ∙ ap (λ t. b || t) h
any_step false b r test rest any is h = h

pub filter_any : (own test : Rr → Bool) (rs : List Rr) → list_any test (filter own rs) ≡ list_any (λ r. own r && test r) rs
filter_any own test [] = refl
filter_any own test (r ∷ rs) =
    any_step (own r) (test r) r test (filter own rs) (list_any (λ r. own r && test r) rs) refl (filter_any own test rs)

-- those that share a set with the first of the kind
pub own_records : (name : Labels) (rtype : ℕ) (records : List Rr) (r : Rr) → find (is_own_record name rtype) records ≡ Some r
    → filter (same_set r) records ≡ filter (is_own_record name rtype) records
own_records name rtype records r is =
    same_filter (same_set r) (is_own_record name rtype)
    (λ s. own_within name rtype r s (found_kind (is_own_record name rtype) records r is)) records
