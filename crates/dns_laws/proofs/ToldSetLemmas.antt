-- The judged sets of a step stand in what it heard: where one of the answer section answers, so does a record of that section, and the
-- signature that decided is one of it.
use Rattle.std.proofs.Common.{◌≡◌, ℕ, Bool, true, false, ◌==◌, ◌&&◌, ◌||◌, cond, List, [], ◌∷◌, Option, None, Some, slice_get, refl, sym, ap, ◌∙◌}
use Rattle.std.specs.Option.{option_map_or, option_and_then}
use Rattle.std.specs.List.{filter, find, list_any, AllByRecursion}
use Rattle.std.proofs.lemmas.Bool.{and_parts, and_from}
use Rattle.dns_model.specs.declared.section.Section.TheVariants.{Answer}
use Rattle.dns_model.specs.Names.{name_eq}
use Rattle.dns_model.specs.Types.{type_cname}
use Rattle.dns_model.specs.Records.{Rr, RrSet, Question}
use Rattle.dns_model.specs.Chains.{is_nonempty, rdatas_of}
use Rattle.dns_model.specs.SoundAnswers.{Told, PlacedSet, placed_sets, section_of, section_eq, is_secure}
use Rattle.dns_model.specs.Trails.{JudgedSetValue}
use Rattle.dns_model.proofs.EachLemmas.{each_more, each_of, each_both, each_filter, find_known}
use Rattle.dns_model.proofs.SetLemmas.{IsProper, BeginsIn, IsSignedIn, is_of, head_of, covers_set, name_trans, number_same, section_same, proper_placed, begins_placed, signed_placed}
use Rattle.dns_rules.specs.MarkedSets.{MarkedSet, decider, placed_of}
use Rattle.dns_rules.specs.Asking.{is_judged_at, judged_part}
use Rattle.dns_rules.specs.Outcome.{answers_query, has_answer, is_wildcard_signature, has_wildcard_signature, is_expanded_answer, is_expanded_for}
use Rattle.dns_rules.specs.Derivation.{with_entries}
use Rattle.dns_laws.proofs.GroundParts.{any_at, found_any}
use Rattle.dns_laws.proofs.TestLemmas.{Passing, passing}

-- ---- the sets of what was told

-- a set stands in its section: it begins with a record of it, and its signatures are of it
pub record IsTold (told : Told) (p : PlacedSet) : Type 0 where
  pub proper : IsProper p.set
  pub begins : BeginsIn (section_of told p.section) p.set
  pub signed : IsSignedIn (section_of told p.section) p.set

abbrev pub AreTold : Told → List MarkedSet → Type 0
AreTold told sets = AllByRecursion (λ s. IsTold told (placed_of s)) sets

each_told : (told : Told) → AllByRecursion (IsTold told) (placed_sets told)
each_told told =
    let P = λ (p : PlacedSet). IsProper p.set in
    let B = λ (p : PlacedSet). BeginsIn (section_of told p.section) p.set in
    let S = λ (p : PlacedSet). IsSignedIn (section_of told p.section) p.set in
    each_more (λ p. P p × (B p × S p)) (IsTold told) (λ p h. record { proper = h.0; begins = h.1.0; signed = h.1.1 }) (placed_sets told)
    (each_both P (λ p. B p × S p) (placed_sets told) (proper_placed told)
    (each_both B S (placed_sets told) (begins_placed told) (signed_placed told)))

each_judged : (P : PlacedSet → Type 0) (ps : List PlacedSet) (es : List JudgedSetValue) → AllByRecursion P ps
    → AllByRecursion (λ s. P (placed_of s)) (with_entries ps es)
each_judged P [] es h = tt
each_judged P (p ∷ ps) [] h = tt
each_judged P (p ∷ ps) (e ∷ es) h = (h.0, each_judged P ps es h.1)

-- whatever their entries say
pub judged_told : (depth : ℕ) (told : Told) (es : List JudgedSetValue) → AreTold told (with_entries (judged_part depth told) es)
judged_told depth told es =
    each_judged (IsTold told) (judged_part depth told) es
    (each_filter (IsTold told) (λ p. is_judged_at depth p.set.rtype) (placed_sets told) (each_told told))

-- ---- a set that answers, expanded from a wildcard

pub record IsExpandedSet (q : Question) (s : MarkedSet) : Type 0 where
  pub section : Answer ≡ s.section
  pub wild : Passing is_wildcard_signature (decider s)
  pub owner : name_eq q.owner s.set.owner ≡ true
  pub rtype : ((s.set.rtype == q.rtype) || (s.set.rtype == type_cname)) ≡ true

pub expanded_parts : (q : Question) (s : MarkedSet) → is_expanded_for q s ≡ true → IsExpandedSet q s
expanded_parts q s h =
    let wild = option_map_or is_wildcard_signature (decider s) false in
    let kind = (s.set.rtype == q.rtype) || (s.set.rtype == type_cname) in
    let one = and_parts (is_expanded_answer s) (name_eq q.owner s.set.owner && kind) h in
    let two = and_parts (section_eq Answer s.section) (is_secure s.mark && wild) one.0 in
    let three = and_parts (name_eq q.owner s.set.owner) kind one.1 in
    record {
      section = section_same Answer s.section two.0;
      wild = passing is_wildcard_signature (decider s) ((and_parts (is_secure s.mark) wild two.1).1);
      owner = three.0;
      rtype = three.1;
    }

-- ---- its first record answers

record IsSome {X : Type 0} (o : Option X) : Type 0 where
  value : X
  is : o ≡ Some value

first_is : (rs : List Rr) (o : Option Rr) → is_nonempty (rdatas_of rs) ≡ true → head_of rs ≡ o → IsSome o
first_is [] o some h = cc
first_is (r ∷ rs) o some h = record { value = r; is = sym h }

of_set_answers : (q : Question) (set : RrSet) (r : Rr) → name_eq q.owner set.owner ≡ true
    → ((set.rtype == q.rtype) || (set.rtype == type_cname)) ≡ true → is_of set r ≡ true → answers_query q r ≡ true
of_set_answers q set r owner rtype of =
    let parts = and_parts (name_eq set.owner r.owner) (set.rtype == r.rtype) of in
    and_from (name_eq q.owner r.owner) ((r.rtype == q.rtype) || (r.rtype == type_cname))
    (name_trans q.owner set.owner r.owner owner parts.0)
    (ap (λ k. (k == q.rtype) || (k == type_cname)) (sym (number_same set.rtype r.rtype parts.1)) ∙ rtype)

set_answers : (q : Question) (section : List Rr) (set : RrSet) → IsProper set → BeginsIn section set → name_eq q.owner set.owner ≡ true
    → ((set.rtype == q.rtype) || (set.rtype == type_cname)) ≡ true → list_any (answers_query q) section ≡ true
set_answers q section set proper begins owner rtype =
    let first = first_is set.records (find (is_of set) section) proper.listed begins.head in
    let known = each_of (λ (r : Rr). Unit {0}) (λ r. tt) section in
    let found = find_known (is_of set) (λ (r : Rr). Unit {0}) section first.value known first.is in
    found_any (is_of set) (answers_query q) section first.value first.is (of_set_answers q set first.value owner rtype found.passes)

-- ---- its signature shows the wildcard

kept_step : (b c rest all : Bool) → (cond b (c || rest) rest) ≡ true → (rest ≡ true → all ≡ true) → (c || all) ≡ true
kept_step true true rest all h later = refl
kept_step true false rest all h later = later h
kept_step false true rest all h later = refl
kept_step false false rest all h later = later h

-- what passes among some passes among all
any_kept : (test may : Rr → Bool) (rs : List Rr) → list_any test (filter may rs) ≡ true → list_any test rs ≡ true
any_kept test may [] h = h
any_kept test may (r ∷ rs) h =
    kept_step (may r) (test r) (list_any test (filter may rs)) (list_any test rs) (by (may r) (filter may rs) h) (any_kept test may rs)
  where
    by : (b : Bool) (kept : List Rr) → list_any test (cond b (r ∷ kept) kept) ≡ true
        → cond b (test r || list_any test kept) (list_any test kept) ≡ true
    by true kept k = k
    by false kept k = k

any_placed : (test : Rr → Bool) (rs : List Rr) (o : Option ℕ) (r : Rr) → option_and_then (slice_get rs) o ≡ Some r
    → test r ≡ true → list_any test rs ≡ true
any_placed test rs None r is h = cc
any_placed test rs (Some n) r is h = any_at test rs n r is h

set_shows : (section : List Rr) (s : MarkedSet) → IsSignedIn section s.set → Passing is_wildcard_signature (decider s)
    → list_any is_wildcard_signature section ≡ true
set_shows section s signed wild =
    any_kept is_wildcard_signature (covers_set s.set) section
    (ap (list_any is_wildcard_signature) (sym signed.signed)
    ∙ any_placed is_wildcard_signature s.set.signatures s.sig wild.value wild.found wild.passes)

-- ---- both

pub record IsAnswered (q : Question) (told : Told) : Type 0 where
  pub answer : has_answer q told ≡ true
  pub wild : has_wildcard_signature told ≡ true

pub expanded_answers : (q : Question) (told : Told) (s : MarkedSet) → IsTold told (placed_of s) → is_expanded_for q s ≡ true
    → IsAnswered q told
expanded_answers q told s of h =
    let i = expanded_parts q s h in
    let here : section_of told s.section ≡ told.answers = ap (section_of told) (sym i.section) in
    record {
      answer = ap (list_any (answers_query q)) (sym here)
          ∙ set_answers q (section_of told s.section) s.set of.proper of.begins i.owner i.rtype;
      wild = ap (list_any is_wildcard_signature) (sym here) ∙ set_shows (section_of told s.section) s of.signed i.wild;
    }
