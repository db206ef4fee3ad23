-- The signatures that were met of each judged set, by the places of the sets.
use Rattle.std.proofs.Common.{◌≡◌, ℕ, ◌+◌, ◌<◌, ◌≤◌, ◌⊎◌, inl, inr, ◌≢◌, Bool, true, false, ◌&&◌, ◌==◌, cond, List, [], ◌∷◌, ◌++◌, length, get_or, set, Option, None, Some, is_some, refl, sym, ap, ◌∙◌, subst, arith}
use Rattle.std.specs.Prelude.{count_by, slice_get}
use Rattle.std.specs.List.{filter}
use Rattle.std.proofs.lemmas.Bool.{and_parts, and_from}
use Rattle.std.proofs.lemmas.Option.{slice_get_cases}
use Rattle.std.proofs.lemmas.List.{length-append, length-set, get_or-set_same, get_or-set_other}
use Rattle.std.proofs.lemmas.List.Elements.{filter-append, filter_agree}
use Rattle.std.proofs.lemmas.List.Sums.{length-filter}
use Rattle.dns_model.specs.declared.section.Section.{Section}
use Rattle.dns_model.specs.Names.{name_eq}
use Rattle.dns_model.specs.Views.{RrsigValue, rrsig_in}
use Rattle.dns_model.specs.Records.{Rr}
use Rattle.dns_model.specs.Sections.{is_signature, covers}
use Rattle.dns_model.specs.SoundAnswers.{section_eq, set_rtype}
use Rattle.dns_model.proofs.EachLemmas.{each_of, find_known}
use Rattle.dns_model.proofs.SetLemmas.{name_back, name_trans, number_refl, number_same}
use Rattle.dns_model.proofs.TestLemmas.{same_test}
use Rattle.dns_rules.specs.MarkedSets.{MarkedSet}
use Rattle.dns_rules.specs.Marking.{signature_place}
use Rattle.dns_rules.specs.MarkParts.{covered, is_place}
use Rattle.dns_rules.proofs.DeciderLemmas.{kind_of, covered_parts, place_same}
use Rattle.dns_outcome.specs.declared.set_places.SetPlaces.{SetPlaces}
use Rattle.dns_outcome.specs.SetPlaces.{is_readable, place_of, is_placed, ArePlacedIn}
use Rattle.dns_marking.specs.Counting.{counted, is_signature_at, AreCounted}
use Rattle.dns_outcome.proofs.PlaceLemmas.{IsPlace, alike_place}
use Rattle.dns_outcome.proofs.MarkSteps.{set_at}
use Rattle.dns_model.proofs.ViewSteps.{covers_rtype, covered_rtype}

-- ---- counts with one more record

count_more : {X : Type 0} (q : X → Bool) (xs : List X) (x : X) → count_by q (xs ++ x ∷ []) ≡ count_by q xs + length (cond (q x) (x ∷ []) [])
count_more q xs x =
    sym (length-filter q (xs ++ x ∷ [])) ∙ ap length (filter-append q xs (x ∷ []))
    ∙ length-append (filter q xs) (cond (q x) (x ∷ []) []) ∙ ap (λ n. n + length (cond (q x) (x ∷ []) [])) (length-filter q xs)

written_step : (counts : List ℕ) (x : Rr) (m n : ℕ) (b e : Bool) → n < length counts → (m == n) ≡ e
    → get_or (cond b (set counts m (get_or counts m 0 + 1)) counts) n 0 ≡ get_or counts n 0 + length (cond (b && e) (x ∷ []) [])
written_step counts x m n true true within is =
    let same : m ≡ n = number_same m n is in
    ap (λ k. get_or (set counts k (get_or counts k 0 + 1)) n 0) same ∙ get_or-set_same counts n (get_or counts n 0 + 1) 0 within
written_step counts x m n true false within is =
    let differ : n ≢ m = λ e. cc (is, number_refl m, e) in
    let zero : get_or counts n 0 ≡ get_or counts n 0 + 0 = omega arith in
    get_or-set_other counts m n (get_or counts m 0 + 1) 0 differ ∙ zero
written_step counts x m n false e within is = omega arith

no_more : (counts : List ℕ) (x : Rr) (b : Bool) (n : ℕ) → get_or counts n 0 ≡ get_or counts n 0 + length (cond (b && false) (x ∷ []) [])
no_more counts x true n = omega arith
no_more counts x false n = omega arith

counted_step : (counts : List ℕ) (x : Rr) (o : Option ℕ) (n : ℕ) → n < length counts
    → get_or (counted counts o x) n 0 ≡ get_or counts n 0 + length (cond (is_readable x && is_place o n) (x ∷ []) [])
counted_step counts x None n within = no_more counts x (is_readable x) n
counted_step counts x (Some m) n within = written_step counts x m n (is_readable x) (m == n) within refl

length_step : (counts : List ℕ) (m v : ℕ) (b : Bool) → length (cond b (set counts m v) counts) ≡ length counts
length_step counts m v true = length-set counts m v
length_step counts m v false = refl

pub length-counted : (counts : List ℕ) (x : Rr) (o : Option ℕ) → length (counted counts o x) ≡ length counts
length-counted counts x None = refl
length-counted counts x (Some m) = length_step counts m (get_or counts m 0 + 1) (is_readable x)

pub counted_more : (p : SetPlaces) (sets : List MarkedSet) (counts : List ℕ) (met : List Rr) (x : Rr) → AreCounted p sets counts met
    → AreCounted p sets (counted counts (place_of p x.owner (set_rtype x)) x) (met ++ x ∷ [])
counted_more p sets counts met x are =
    let o = place_of p x.owner (set_rtype x) in
    record {
      long = length-counted counts x o ∙ are.long;
      each = λ n within.
          counted_step counts x o n (subst (λ k. n < k) (sym are.long) within)
          ∙ ap (λ k. k + length (cond (is_readable x && is_place o n) (x ∷ []) [])) (are.each n within)
          ∙ sym (count_more (is_signature_at p n) met x);
    }

-- ---- the signatures of the set at a place are those that cover it

record IsAlike (r b : Rr) : Type 0 where
  owner : name_eq r.owner b.owner ≡ true
  rtype : set_rtype r ≡ set_rtype b

alike_from : (section : Section) (r b : Rr) (s : MarkedSet) → is_placed section r.owner (set_rtype r) s ≡ true
    → is_placed section b.owner (set_rtype b) s ≡ true → IsAlike r b
alike_from section r b s h k =
    let one = and_parts (section_eq s.section section) (name_eq s.set.owner r.owner && (s.set.rtype == set_rtype r)) h in
    let two = and_parts (name_eq s.set.owner r.owner) (s.set.rtype == set_rtype r) one.1 in
    let three = and_parts (section_eq s.section section) (name_eq s.set.owner b.owner && (s.set.rtype == set_rtype b)) k in
    let four = and_parts (name_eq s.set.owner b.owner) (s.set.rtype == set_rtype b) three.1 in
    record {
      owner = name_trans r.owner s.set.owner b.owner (name_back s.set.owner r.owner two.0) four.0;
      rtype = sym (number_same s.set.rtype (set_rtype r) two.1) ∙ number_same s.set.rtype (set_rtype b) four.1;
    }

passes : (test : MarkedSet → Bool) (sets : List MarkedSet) (n : ℕ) (y : MarkedSet) → IsPlace test sets n → get_or sets n y ≡ y
    → test y ≡ true
passes test sets n y is at =
    (find_known test (λ s. Unit {0}) sets y (each_of (λ s. Unit {0}) (λ s. tt) sets) (is.found y (sym at))).passes

alike_by_cases : (section : Section) (sets : List MarkedSet) (r b : Rr) (n : ℕ) → IsPlace (is_placed section r.owner (set_rtype r)) sets n
    → IsPlace (is_placed section b.owner (set_rtype b)) sets n
    → (((y : MarkedSet) × (n < length sets) × (slice_get sets n ≡ Some y) × (get_or sets n y ≡ y)) ⊎
    ((length sets ≤ n) × (slice_get sets n ≡ None)))
    → IsAlike r b
alike_by_cases section sets r b n one two (inl (y, within, is, at)) =
    alike_from section r b y (passes (is_placed section r.owner (set_rtype r)) sets n y one at)
    (passes (is_placed section b.owner (set_rtype b)) sets n y two at)
alike_by_cases section sets r b n one two (inr (past, none)) =
    let within = one.within in
    let never : ⊥ = omega (arith, within, past) in
    absurd never

-- records whose sets have one place are of one set
one_place : (p : SetPlaces) (section : Section) (sets : List MarkedSet) (r b : Rr) (n : ℕ) → ArePlacedIn p section sets
    → place_of p r.owner (set_rtype r) ≡ Some n → place_of p b.owner (set_rtype b) ≡ Some n → IsAlike r b
one_place p section sets r b n are is also =
    alike_by_cases section sets r b n (set_at p section sets r.owner (set_rtype r) n are (sym is))
    (set_at p section sets b.owner (set_rtype b) n are (sym also))
    ((slice_get_cases sets n).1)

some_covers : (own rtype : ℕ) (o : Option RrsigValue) → is_some o ≡ true → rtype ≡ covered_rtype o own → covers_rtype rtype o ≡ true
some_covers own rtype None some is = cc
some_covers own rtype (Some sig) some is = ap (λ k. sig.covered == k) is ∙ number_refl sig.covered

covers_some : (rtype : ℕ) (o : Option RrsigValue) → covers_rtype rtype o ≡ true → is_some o ≡ true
covers_some rtype None h = cc
covers_some rtype (Some sig) h = refl

covers_at : (p : SetPlaces) (section : Section) (sets : List MarkedSet) (r : Rr) (n : ℕ) → ArePlacedIn p section sets
    → place_of p r.owner (set_rtype r) ≡ Some n → (b : Rr) → is_signature_at p n b ≡ covers (covered r) b
covers_at p section sets r n are is b =
    same_test (is_signature_at p n b) (covers (covered r) b)
    (λ h.
    let parts = and_parts (is_readable b) (is_place (place_of p b.owner (set_rtype b)) n) h in
    let signs = and_parts (is_signature b) (is_some (rrsig_in b.rdata)) parts.0 in
    let alike = one_place p section sets r b n are is (place_same (place_of p b.owner (set_rtype b)) n parts.1) in
    and_from (is_signature b) (name_eq r.owner b.owner && covers_rtype (set_rtype r) (rrsig_in b.rdata)) signs.0
    (and_from (name_eq r.owner b.owner) (covers_rtype (set_rtype r) (rrsig_in b.rdata)) alike.owner
    (some_covers b.rtype (set_rtype r) (rrsig_in b.rdata) signs.1 (alike.rtype ∙ kind_of b signs.0))))
    (λ h.
    let c = covered_parts (covered r) b h in
    let covers_it = (and_parts (name_eq r.owner b.owner) (covers_rtype (set_rtype r) (rrsig_in b.rdata))
    (and_parts (is_signature b) (name_eq r.owner b.owner && covers_rtype (set_rtype r) (rrsig_in b.rdata)) h).1).1 in
    let same : place_of p b.owner (set_rtype b) ≡ Some n =
    alike_place p r.owner b.owner (set_rtype r) (set_rtype b)
    (and_from (name_eq r.owner b.owner) (set_rtype r == set_rtype b) c.owner (ap (λ k. set_rtype r == k) c.rtype
    ∙ number_refl (set_rtype r))) ∙ is in
    and_from (is_readable b) (is_place (place_of p b.owner (set_rtype b)) n)
    (and_from (is_signature b) (is_some (rrsig_in b.rdata)) c.signs (covers_some (set_rtype r) (rrsig_in b.rdata) covers_it))
    (ap (λ o. is_place o n) same ∙ number_refl n))

-- the count of a record's set is the place of the record among its signatures
pub count_is : (p : SetPlaces) (section : Section) (sets : List MarkedSet) (counts : List ℕ) (met : List Rr) (r : Rr) (n : ℕ)
    → ArePlacedIn p section sets
    → AreCounted p sets counts met → place_of p r.owner (set_rtype r) ≡ Some n → get_or counts n 0 ≡ signature_place met r
count_is p section sets counts met r n are counts_are is =
    counts_are.each n ((set_at p section sets r.owner (set_rtype r) n are (sym is)).within)
    ∙ sym (length-filter (is_signature_at p n) met)
    ∙ ap length (filter_agree (is_signature_at p n) (covers (covered r)) (covers_at p section sets r n are is) met)
    ∙ length-filter (covers (covered r)) met
