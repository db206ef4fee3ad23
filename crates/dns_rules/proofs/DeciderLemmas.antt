-- The signature that decided stands at its place among the signatures of its set.
use Rattle.std.proofs.Common.{◌≡◌, ℕ, Bool, true, false, not, ◌==◌, ◌&&◌, cond, List, [], ◌∷◌, ◌++◌, length, Option, None, Some, refl, sym, ap, ◌∙◌, subst, zero, suc}
use Rattle.std.specs.Prelude.{slice_get}
use Rattle.std.specs.List.{filter, AllByRecursion}
use Rattle.std.specs.Option.{option_and_then}
use Rattle.std.proofs.lemmas.Bool.{and_parts, and_from}
use Rattle.std.proofs.lemmas.List.Sums.{length-filter}
use Rattle.std.proofs.lemmas.List.Elements.{filter_agree}
use Rattle.std.proofs.lemmas.Option.{same_Some}
use Rattle.dns_model.specs.declared.section.Section.{Section}
use Rattle.dns_model.specs.Names.{name_eq}
use Rattle.dns_model.specs.Types.{type_rrsig}
use Rattle.dns_model.specs.Views.{RrsigValue, rrsig_in}
use Rattle.dns_model.specs.Records.{Rr}
use Rattle.dns_model.specs.Sections.{is_signature, covers}
use Rattle.dns_model.specs.SoundAnswers.{set_rtype}
use Rattle.dns_model.proofs.EachLemmas.{each_passes}
use Rattle.dns_model.proofs.SetLemmas.{name_left, number_refl, number_same, IsProper, covers_set, IsSignedIn}
use Rattle.dns_rules.specs.MarkedSets.{MarkedSet, decider}
use Rattle.dns_rules.specs.Marking.{signature_place}
use Rattle.dns_rules.specs.MarkParts.{signature_at, covered, is_place}
use Rattle.dns_rules.proofs.MarkedLemmas.{IsAbout}
use Rattle.dns_model.proofs.ViewSteps.{covers_rtype, covered_rtype}

-- ---- places among those that pass

place_step : {X : Type 0} (b : Bool) (y x : X) (ys zs : List X) → slice_get ys (length zs) ≡ Some x
    → slice_get (cond b (y ∷ ys) ys) (length (cond b (y ∷ zs) zs)) ≡ Some x
place_step true y x ys zs h = h
place_step false y x ys zs h = h

-- one that passes stands, among those that pass, behind those that pass before it
at_place : {X : Type 0} (p : X → Bool) (before rest : List X) (x : X) → p x ≡ true
    → slice_get (filter p (before ++ x ∷ rest)) (length (filter p before)) ≡ Some x
at_place p [] rest x h = ap (λ b. slice_get (cond b (x ∷ filter p rest) (filter p rest)) 0) h
at_place p (y ∷ ys) rest x h = place_step (p y) y x (filter p (ys ++ x ∷ rest)) (filter p ys) (at_place p ys rest x h)

-- ---- a signature that is about a set covers it

kind_covers : (r : Rr) (rtype : ℕ) (o : Option RrsigValue) → is_signature r ≡ true → (rtype == type_rrsig) ≡ false
    → rtype ≡ covered_rtype o r.rtype
    → covers_rtype rtype o ≡ true
kind_covers r rtype None is plain e = cc
kind_covers r rtype (Some sig) is plain e = ap (λ k. sig.covered == k) e ∙ number_refl sig.covered

pub kind_of : (r : Rr) → is_signature r ≡ true → set_rtype r ≡ covered_rtype (rrsig_in r.rdata) r.rtype
kind_of r is = ap (λ b. cond b (covered_rtype (rrsig_in r.rdata) r.rtype) r.rtype) is

pub about_covers : (section : Section) (r : Rr) (s : MarkedSet) → IsProper s.set → IsAbout section r s → is_signature r ≡ true
    → covers_set s.set r ≡ true
about_covers section r s proper about is =
    and_from (is_signature r) (name_eq s.set.owner r.owner && covers_rtype s.set.rtype (rrsig_in r.rdata)) is
    (and_from (name_eq s.set.owner r.owner) (covers_rtype s.set.rtype (rrsig_in r.rdata)) about.owner
    (kind_covers r s.set.rtype (rrsig_in r.rdata) is proper.plain (about.rtype ∙ kind_of r is)))

-- the signatures beside one that is about a set are those of the set
pub about_agrees : (section : Section) (r : Rr) (s : MarkedSet) → IsAbout section r s → (b : Rr) → covers (covered r) b ≡ covers_set s.set b
about_agrees section r s about b =
    ap (λ x. is_signature b && (x && covers_rtype (set_rtype r) (rrsig_in b.rdata)))
    (sym (name_left s.set.owner r.owner b.owner about.owner))
    ∙ ap (λ k. is_signature b && (name_eq s.set.owner b.owner && covers_rtype k (rrsig_in b.rdata))) (sym about.rtype)

-- what a signature that covers a record says
pub record IsCovered (l r : Rr) : Type 0 where
  pub signs : is_signature r ≡ true
  pub owner : name_eq l.owner r.owner ≡ true
  pub rtype : set_rtype r ≡ l.rtype

rtype_is : (rtype own : ℕ) (o : Option RrsigValue) → covers_rtype rtype o ≡ true → covered_rtype o own ≡ rtype
rtype_is rtype own None h = cc
rtype_is rtype own (Some sig) h = number_same sig.covered rtype h

pub covered_parts : (l r : Rr) → covers l r ≡ true → IsCovered l r
covered_parts l r h =
    let one = and_parts (is_signature r) (name_eq l.owner r.owner && covers_rtype l.rtype (rrsig_in r.rdata)) h in
    let two = and_parts (name_eq l.owner r.owner) (covers_rtype l.rtype (rrsig_in r.rdata)) one.1 in
    record { signs = one.0; owner = two.0; rtype = kind_of r one.0 ∙ rtype_is l.rtype r.rtype (rrsig_in r.rdata) two.1 }

-- ---- the signature that decided

pub place_same : (o : Option ℕ) (n : ℕ) → is_place o n ≡ true → o ≡ Some n
place_same None n h = cc
place_same (Some m) n h = ap Some (number_same m n h)

decides_from : (b e : Bool) → (b && not e) ≡ false → b ≡ true → e ≡ true
decides_from true true h s = refl
decides_from true false h s = cc
decides_from false e h s = cc

-- a signature that is marked as its set is stands at the place of the one that decided
pub marked_place : (before : List Rr) (r : Rr) (sig : Option ℕ) → (is_signature r && not (is_place sig (signature_place before r))) ≡ false
    → is_signature r ≡ true → sig ≡ Some (signature_place before r)
marked_place before r sig decides is =
    place_same sig (signature_place before r) (decides_from (is_signature r) (is_place sig (signature_place before r)) decides is)

-- what stands in a list of which each element passes, passes
passes_at : {X : Type 0} (p : X → Bool) (xs : List X) (n : ℕ) (x : X) → AllByRecursion (λ y. p y ≡ true) xs
    → slice_get xs n ≡ Some x → p x ≡ true
passes_at p [] n x all is = cc
passes_at p (y ∷ ys) zero x all is = ap p (sym (same_Some y x is)) ∙ all.0
passes_at p (y ∷ ys) (suc n) x all is = passes_at p ys n x all.1 is

signs_step : (records : List Rr) (s : MarkedSet) (o : Option ℕ) (d : Rr) → IsSignedIn records s.set
    → option_and_then (slice_get s.set.signatures) o ≡ Some d
    → covers_set s.set d ≡ true
signs_step records s None d signed is = cc
signs_step records s (Some n) d signed is =
    passes_at (covers_set s.set) s.set.signatures n d
    (subst (λ xs. AllByRecursion (λ y. covers_set s.set y ≡ true) xs) (sym signed.signed) (each_passes (covers_set s.set) records)) is

-- the one that decided is a signature
pub decider_signs : (records : List Rr) (s : MarkedSet) → IsSignedIn records s.set → (d : Rr) → decider s ≡ Some d → is_signature d ≡ true
decider_signs records s signed d is =
    (and_parts (is_signature d) (name_eq s.set.owner d.owner && covers_rtype s.set.rtype (rrsig_in d.rdata))
    (signs_step records s s.sig d signed is)).0

-- it is the one that decided
pub decider_is : (section : Section) (records before rest : List Rr) (r : Rr) (s : MarkedSet) → IsProper s.set
    → IsSignedIn records s.set → IsAbout section r s
    → before ++ r ∷ rest ≡ records → (is_signature r && not (is_place s.sig (signature_place before r))) ≡ false
    → is_signature r ≡ true → decider s ≡ Some r
decider_is section records before rest r s proper signed about split decides is =
    let test = covers_set s.set in
    let count : signature_place before r ≡ length (filter test before) =
    sym (length-filter (covers (covered r)) before)
    ∙ ap length (filter_agree (covers (covered r)) test (about_agrees section r s about) before) in
    ap (signature_at s.set.signatures) (marked_place before r s.sig decides is ∙ ap Some count)
    ∙ ap (λ xs. slice_get xs (length (filter test before))) (signed.signed ∙ ap (filter test) (sym split))
    ∙ at_place test before rest r (about_covers section r s proper about is)
