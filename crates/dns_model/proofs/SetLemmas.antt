-- The sets of a section: they are proper, no two are one, and they change as their records do.
use Rattle.std.proofs.Common.{◌≡◌, ℕ, Bool, true, false, not, ◌==◌, ◌&&◌, cond, List, [], ◌∷◌, ◌++◌, map, length, Option, None, Some, refl, sym, ap, ◌∙◌}
use Rattle.std.specs.List.{filter, find, AllByRecursion}
use Rattle.std.proofs.lemmas.Bool.{and_parts, and_from, not-true, not-false, false_from_ne_true}
use Rattle.std.proofs.lemmas.Bool.Decides.{Decides-eqb}
use Rattle.std.proofs.lemmas.Cmp.{nat_eq_equiv}
use Rattle.std.proofs.lemmas.List.{length-map}
use Rattle.std.proofs.lemmas.List.Elements.{filter_agree}
use Rattle.dns_model.specs.declared.section.Section.{Section}
use Rattle.dns_model.specs.declared.section.Section.TheVariants.{Answer, Authority, Additional}
use Rattle.dns_model.specs.Names.{Labels, name_eq}
use Rattle.dns_model.specs.Types.{type_rrsig}
use Rattle.dns_model.specs.Views.{rrsig_in}
use Rattle.dns_model.specs.Records.{Rr, RrSet}
use Rattle.dns_model.specs.Sections.{same_set, is_signature, covers, leaders, unsigned_part, set_of, sets_of}
use Rattle.dns_model.specs.Chains.{is_nonempty, rdatas_of}
use Rattle.dns_model.specs.SoundAnswers.{Told, PlacedSet, in_section, placed_sets, section_of, section_eq}
use Rattle.dns_model.proofs.NameLemmas.{name_equiv}
use Rattle.dns_model.proofs.EachLemmas.{each_more, each_of, each_both, each_append, each_front, each_back, each_map, each_unmap, each_filter, each_passes, filter-map, map_agree, map-map, Apart, apart_filter, apart_map, apart_agree, apart_append, filter_none}
use Rattle.dns_model.proofs.ViewSteps.{covers_rtype}

-- ---- equality of names and of numbers

pub name_refl : (a : Labels) → name_eq a a ≡ true
name_refl a = name_equiv.refl a

pub name_back : (a b : Labels) → name_eq a b ≡ true → name_eq b a ≡ true
name_back a b h = name_equiv.symm b a ∙ h

pub name_trans : (a b c : Labels) → name_eq a b ≡ true → name_eq b c ≡ true → name_eq a c ≡ true
name_trans a b c h k = name_equiv.congr a b c h ∙ k

-- equal names are equal to the same names
pub name_left : (a b c : Labels) → name_eq a b ≡ true → name_eq a c ≡ name_eq b c
name_left a b c h = name_equiv.congr a b c h

pub number_refl : (n : ℕ) → (n == n) ≡ true
number_refl n = (Decides-eqb n n).1 refl

pub number_same : (m n : ℕ) → (m == n) ≡ true → m ≡ n
number_same m n h = (Decides-eqb m n).0 h

pub number_back : (m n : ℕ) → (m == n) ≡ (n == m)
number_back m n = nat_eq_equiv.symm m n

pub section_refl : (a : Section) → section_eq a a ≡ true
section_refl Answer = refl
section_refl Authority = refl
section_refl Additional = refl

pub section_same : (a b : Section) → section_eq a b ≡ true → a ≡ b
section_same Answer Answer h = refl
section_same Answer Authority h = cc
section_same Answer Additional h = cc
section_same Authority Answer h = cc
section_same Authority Authority h = refl
section_same Authority Additional h = cc
section_same Additional Answer h = cc
section_same Additional Authority h = cc
section_same Additional Additional h = refl

pub section_back : (a b : Section) → section_eq a b ≡ section_eq b a
section_back Answer Answer = refl
section_back Answer Authority = refl
section_back Answer Additional = refl
section_back Authority Answer = refl
section_back Authority Authority = refl
section_back Authority Additional = refl
section_back Additional Answer = refl
section_back Additional Authority = refl
section_back Additional Additional = refl

-- ---- records of one set

pub same_set_refl : (a : Rr) → same_set a a ≡ true
same_set_refl a = and_from (name_eq a.owner a.owner) (a.rtype == a.rtype) (name_refl a.owner) (number_refl a.rtype)

pub same_set_left : (a b c : Rr) → same_set a b ≡ true → same_set a c ≡ same_set b c
same_set_left a b c h =
    let parts = and_parts (name_eq a.owner b.owner) (a.rtype == b.rtype) h in
    ap (λ x. x && (a.rtype == c.rtype)) (name_left a.owner b.owner c.owner parts.0)
    ∙ ap (λ k. name_eq b.owner c.owner && (k == c.rtype)) (number_same a.rtype b.rtype parts.1)

-- two records of one set have the same set
pub filter-same_set : (a b : Rr) (section : List Rr) → same_set a b ≡ true → filter (same_set a) section ≡ filter (same_set b) section
filter-same_set a b section h = filter_agree (same_set a) (same_set b) (λ c. same_set_left a b c h) section

-- ---- leaders

pub each_leader : (P : Rr → Type 0) (section : List Rr) → AllByRecursion P section → AllByRecursion P (leaders section)
unfolding leaders
each_leader P [] h = tt
each_leader P (r ∷ rs) h = (h.0, each_filter P (λ s. not (same_set r s)) (leaders rs) (each_leader P rs h.1))

-- no two leaders are of one set
pub leaders_apart : (section : List Rr) → Apart same_set (leaders section)
unfolding leaders
leaders_apart [] = tt
leaders_apart (r ∷ rs) =
    let others = λ (s : Rr). not (same_set r s) in
    let passes = each_passes others (leaders rs) in (
      each_more (λ s. others s ≡ true) (λ s. same_set r s ≡ false) (λ s. not-true (same_set r s)) (filter others (leaders rs)) passes,
      apart_filter same_set others (leaders rs) (leaders_apart rs),
    )

-- ---- proper sets

-- a record of the set's owner and type
abbrev pub is_of : RrSet → Rr → Bool
is_of set r = name_eq set.owner r.owner && (set.rtype == r.rtype)

-- a set that isn't of signatures, with a record, and all of its records its own
pub record IsProper (set : RrSet) : Type 0 where
  pub plain : (set.rtype == type_rrsig) ≡ false
  pub listed : is_nonempty (rdatas_of set.records) ≡ true
  pub own : AllByRecursion (λ r. is_of set r ≡ true) set.records

listed_step : (b : Bool) (x : Rr) (xs : List Rr) → (b ≡ true) → is_nonempty (rdatas_of (cond b (x ∷ xs) xs)) ≡ true
listed_step true x xs h = refl
listed_step false x xs h = cc

listed_later : (b : Bool) (x : Rr) (xs : List Rr) → is_nonempty (rdatas_of xs) ≡ true → is_nonempty (rdatas_of (cond b (x ∷ xs) xs)) ≡ true
listed_later true x xs h = refl
listed_later false x xs h = h

-- each record is in its own set
each_listed : (section : List Rr) → AllByRecursion (λ r. is_nonempty (rdatas_of (filter (same_set r) section)) ≡ true) section
each_listed [] = tt
each_listed (x ∷ xs) = (
  listed_step (same_set x x) x (filter (same_set x) xs) (same_set_refl x),
  each_more (λ r. is_nonempty (rdatas_of (filter (same_set r) xs)) ≡ true)
      (λ r. is_nonempty (rdatas_of (filter (same_set r) (x ∷ xs))) ≡ true)
      (λ r. listed_later (same_set r x) x (filter (same_set r) xs)) xs (each_listed xs),
)

proper : (section : List Rr) (r : Rr) → (not (is_signature r) ≡ true) × (is_nonempty (rdatas_of (filter (same_set r) section)) ≡ true)
    → IsProper (set_of section r)
proper section r h = record {
  plain = not-true (is_signature r) h.0;
  listed = h.1;
  own = each_passes (same_set r) section;
}

-- the leaders of a section's sets, each with what is shown of every record that isn't a signature
each_plain_leader : (P : Rr → Type 0) (section : List Rr) → AllByRecursion P section
    → AllByRecursion (λ r. (not (is_signature r) ≡ true) × P r) (leaders (unsigned_part section))
each_plain_leader P section h =
    let Plain = λ (r : Rr). not (is_signature r) ≡ true in
    each_leader (λ r. Plain r × P r) (unsigned_part section)
    (each_both Plain P (unsigned_part section) (each_passes (λ r. not (is_signature r)) section)
    (each_filter P (λ r. not (is_signature r)) section h))

pub proper_sets : (section : List Rr) → AllByRecursion IsProper (sets_of section)
unfolding sets_of
proper_sets section =
    let P = λ (r : Rr). is_nonempty (rdatas_of (filter (same_set r) section)) ≡ true in
    each_map IsProper (set_of section) (leaders (unsigned_part section))
    (each_more (λ r. (not (is_signature r) ≡ true) × P r) (λ r. IsProper (set_of section r)) (proper section)
    (leaders (unsigned_part section))
    (each_plain_leader P section (each_listed section)))

each_placed : (P : PlacedSet → Type 0) (told : Told)
    → ((section : Section) → AllByRecursion (λ set. P (in_section section set)) (sets_of (section_of told section)))
    → AllByRecursion P (placed_sets told)
each_placed P told h =
    let one = map (in_section Answer) (sets_of told.answers) in
    let two = map (in_section Authority) (sets_of told.authorities) in
    let three = map (in_section Additional) (sets_of told.additionals) in
    each_append P (one ++ two) three
    (each_append P one two (each_map P (in_section Answer) (sets_of told.answers) (h Answer))
    (each_map P (in_section Authority) (sets_of told.authorities) (h Authority)))
    (each_map P (in_section Additional) (sets_of told.additionals) (h Additional))

-- what is shown of each set of a message is shown of those of a section
pub placed_each : (P : PlacedSet → Type 0) (told : Told) (section : Section) → AllByRecursion P (placed_sets told)
    → AllByRecursion (λ set. P (in_section section set)) (sets_of (section_of told section))
placed_each P told Answer h =
    each_unmap P (in_section Answer) (sets_of told.answers)
    (each_front P (map (in_section Answer) (sets_of told.answers)) (map (in_section Authority) (sets_of told.authorities))
    (each_front P (map (in_section Answer) (sets_of told.answers) ++ map (in_section Authority) (sets_of told.authorities))
    (map (in_section Additional) (sets_of told.additionals)) h))
placed_each P told Authority h =
    each_unmap P (in_section Authority) (sets_of told.authorities)
    (each_back P (map (in_section Answer) (sets_of told.answers)) (map (in_section Authority) (sets_of told.authorities))
    (each_front P (map (in_section Answer) (sets_of told.answers) ++ map (in_section Authority) (sets_of told.authorities))
    (map (in_section Additional) (sets_of told.additionals)) h))
placed_each P told Additional h =
    each_unmap P (in_section Additional) (sets_of told.additionals)
    (each_back P (map (in_section Answer) (sets_of told.answers) ++ map (in_section Authority) (sets_of told.authorities))
    (map (in_section Additional) (sets_of told.additionals)) h)

pub proper_placed : (told : Told) → AllByRecursion (λ p. IsProper p.set) (placed_sets told)
proper_placed told = each_placed (λ p. IsProper p.set) told (λ section. proper_sets (section_of told section))

-- ---- the first record of a set

abbrev pub head_of : List Rr → Option Rr
head_of [] = None
head_of (r ∷ rs) = Some r

head_step : (b : Bool) (x : Rr) (xs : List Rr) (o : Option Rr) → head_of xs ≡ o → head_of (cond b (x ∷ xs) xs) ≡ cond b (Some x) o
head_step true x xs o h = refl
head_step false x xs o h = h

pub head-filter : (p : Rr → Bool) (section : List Rr) → head_of (filter p section) ≡ find p section
head-filter p [] = refl
head-filter p (x ∷ xs) = head_step (p x) x (filter p xs) (find p xs) (head-filter p xs)

-- a set begins with the section's first record of its owner and type
pub record BeginsIn (section : List Rr) (set : RrSet) : Type 0 where
  pub head : head_of set.records ≡ find (is_of set) section

pub begins : (section : List Rr) → AllByRecursion (BeginsIn section) (sets_of section)
unfolding sets_of
begins section =
    each_map (BeginsIn section) (set_of section) (leaders (unsigned_part section))
    (each_of (λ r. BeginsIn section (set_of section r)) (λ r. record { head = head-filter (same_set r) section })
    (leaders (unsigned_part section)))

pub begins_placed : (told : Told) → AllByRecursion (λ p. BeginsIn (section_of told p.section) p.set) (placed_sets told)
begins_placed told = each_placed (λ p. BeginsIn (section_of told p.section) p.set) told (λ section. begins (section_of told section))

-- ---- the signatures of a set

-- a signature of the set's owner that covers its type
abbrev pub covers_set : RrSet → Rr → Bool
covers_set set r = is_signature r && (name_eq set.owner r.owner && covers_rtype set.rtype (rrsig_in r.rdata))

-- a set has the section's signatures that cover it, in order
pub record IsSignedIn (section : List Rr) (set : RrSet) : Type 0 where
  pub signed : set.signatures ≡ filter (covers_set set) section

signed_sets : (section : List Rr) → AllByRecursion (IsSignedIn section) (sets_of section)
unfolding sets_of
signed_sets section =
    each_map (IsSignedIn section) (set_of section) (leaders (unsigned_part section))
    (each_of (λ r. IsSignedIn section (set_of section r)) (λ r. record { signed = refl }) (leaders (unsigned_part section)))

pub signed_placed : (told : Told) → AllByRecursion (λ p. IsSignedIn (section_of told p.section) p.set) (placed_sets told)
signed_placed told = each_placed (λ p. IsSignedIn (section_of told p.section) p.set) told (λ section. signed_sets (section_of told section))

-- ---- no two sets of a message are one

abbrev pub same_key : RrSet → RrSet → Bool
same_key a b = name_eq a.owner b.owner && (a.rtype == b.rtype)

pub sets_apart : (section : List Rr) → Apart same_key (sets_of section)
unfolding sets_of
sets_apart section =
    apart_map same_key (set_of section) (leaders (unsigned_part section)) (leaders_apart (unsigned_part section))

abbrev pub same_place : PlacedSet → PlacedSet → Bool
same_place a b = section_eq a.section b.section && same_key a.set b.set

-- sets of two sections
across : (one two : Section) (xs ys : List RrSet) → section_eq one two ≡ false
    → AllByRecursion (λ p. AllByRecursion (λ q. same_place p q ≡ false) (map (in_section two) ys)) (map (in_section one) xs)
across one two xs ys differ =
    each_map (λ p. AllByRecursion (λ q. same_place p q ≡ false) (map (in_section two) ys)) (in_section one) xs
    (each_of (λ x. AllByRecursion (λ q. same_place (in_section one x) q ≡ false) (map (in_section two) ys)) (λ x.
    each_map (λ q. same_place (in_section one x) q ≡ false) (in_section two) ys
    (each_of (λ y. same_place (in_section one x) (in_section two y) ≡ false) (λ y. ap (λ b. b && same_key x y) differ) ys)) xs)

within : (section : Section) (xs : List RrSet) → section_eq section section ≡ true → Apart same_key xs
    → Apart same_place (map (in_section section) xs)
within section xs same h =
    apart_map same_place (in_section section) xs
    (apart_agree same_key (λ x y. same_place (in_section section x) (in_section section y)) xs (λ x y. ap (λ b. b && same_key x y) same) h)

pub placed_apart : (told : Told) → Apart same_place (placed_sets told)
placed_apart told =
    let one = map (in_section Answer) (sets_of told.answers) in
    let two = map (in_section Authority) (sets_of told.authorities) in
    let three = map (in_section Additional) (sets_of told.additionals) in
    apart_append same_place (one ++ two) three
    (each_append (λ p. AllByRecursion (λ q. same_place p q ≡ false) three) one two
    (across Answer Additional (sets_of told.answers) (sets_of told.additionals) refl)
    (across Authority Additional (sets_of told.authorities) (sets_of told.additionals) refl))
    (apart_append same_place one two (across Answer Authority (sets_of told.answers) (sets_of told.authorities) refl)
    (within Answer (sets_of told.answers) refl (sets_apart told.answers))
    (within Authority (sets_of told.authorities) refl (sets_apart told.authorities)))
    (within Additional (sets_of told.additionals) refl (sets_apart told.additionals))

-- ---- each record in one set

pub same_set_back : (a b : Rr) → same_set a b ≡ same_set b a
same_set_back a b = ap (λ x. x && (a.rtype == b.rtype)) (name_equiv.symm a.owner b.owner)
    ∙ ap (λ x. name_eq b.owner a.owner && x) (number_back a.rtype b.rtype)

left_out : (x r : Rr) → same_set x r ≡ true → (l : Rr) → not (same_set x l) ≡ true → same_set l r ≡ false
left_out x r h l out =
    false_from_ne_true (same_set l r) (λ k.
    let both : same_set x l ≡ true = same_set_left x r l h ∙ same_set_back r l ∙ k in
    let not_both : same_set x l ≡ false = not-true (same_set x l) out in
    cc (both, not_both))

kept_step : (r x : Rr) (b : Bool) (ls ks : List Rr) → (b ≡ false → same_set x r ≡ false)
    → filter (λ l. same_set l r) ks ≡ filter (λ l. same_set l r) ls
    → filter (λ l. same_set l r) (cond b (x ∷ ks) ks) ≡ filter (λ l. same_set l r) (x ∷ ls)
kept_step r x true ls ks out e = ap (λ ys. cond (same_set x r) (x ∷ ys) ys) e
kept_step r x false ls ks out e = e ∙ sym (ap (λ b. cond b (x ∷ filter (λ l. same_set l r) ls) (filter (λ l. same_set l r) ls)) (out refl))

-- leaving out those of one set leaves those of another
filter_kept : (x r : Rr) → same_set x r ≡ false → (ls : List Rr)
    → filter (λ l. same_set l r) (filter (λ s. not (same_set x s)) ls) ≡ filter (λ l. same_set l r) ls
filter_kept x r h [] = refl
filter_kept x r h (l ∷ ls) =
    kept_step r l (not (same_set x l)) ls (filter (λ s. not (same_set x s)) ls)
    (λ e. sym (same_set_left x l r (not-false (same_set x l) e)) ∙ h) (filter_kept x r h ls)

-- the leaders of a record's set
abbrev leading : Rr → List Rr → List Rr
leading r ls = filter (λ l. same_set l r) ls

-- a leader's set holds what no later leader's does
first_one : (x r : Rr) (ls : List Rr) → same_set x r ≡ true → length (leading r (x ∷ filter (λ s. not (same_set x s)) ls)) ≡ 1
first_one x r ls h =
    let others = λ (s : Rr). not (same_set x s) in
    let none : leading r (filter others ls) ≡ [] =
    filter_none (λ l. same_set l r) (filter others ls)
    (each_more (λ l. others l ≡ true) (λ l. same_set l r ≡ false) (left_out x r h) (filter others ls) (each_passes others ls)) in
    ap (λ b. length (cond b (x ∷ leading r (filter others ls)) (leading r (filter others ls)))) h ∙ ap (λ ys. length (x ∷ ys)) none

later_one : (x r : Rr) (b : Bool) (ls : List Rr) → same_set x r ≡ b → length (leading r ls) ≡ 1
    → length (leading r (x ∷ filter (λ s. not (same_set x s)) ls)) ≡ 1
later_one x r true ls is one = first_one x r ls is
later_one x r false ls is one =
    let rest = leading r (filter (λ s. not (same_set x s)) ls) in
    ap (λ b. length (cond b (x ∷ rest) rest)) is ∙ ap length (filter_kept x r is ls) ∙ one

each_one_leader : (section : List Rr) → AllByRecursion (λ r. length (leading r (leaders section)) ≡ 1) section
unfolding leaders
each_one_leader [] = tt
each_one_leader (x ∷ xs) = (
  first_one x x (leaders xs) (same_set_refl x),
  each_more (λ r. length (leading r (leaders xs)) ≡ 1) (λ r. length (leading r (leaders (x ∷ xs))) ≡ 1)
      (λ r. later_one x r (same_set x r) (leaders xs) refl) xs (each_one_leader xs),
)

-- each record that isn't a signature is of exactly one set of its section
pub each_one_set : (section : List Rr)
    → AllByRecursion (λ r. length (filter (λ set. is_of set r) (sets_of section)) ≡ 1) (unsigned_part section)
unfolding sets_of
each_one_set section =
    let ls = leaders (unsigned_part section) in
    each_more (λ r. length (leading r ls) ≡ 1) (λ r. length (filter (λ set. is_of set r) (map (set_of section) ls)) ≡ 1)
    (λ r e. ap length (filter-map (λ set. is_of set r) (set_of section) ls) ∙ length-map (leading r ls) (set_of section) ∙ e)
    (unsigned_part section) (each_one_leader (unsigned_part section))

-- ---- sets of changed records

-- what a change of records keeps
pub record KeepsKey (f : Rr → Rr) : Type 0 where
  pub owner : (r : Rr) → (f r).owner ≡ r.owner
  pub rtype : (r : Rr) → (f r).rtype ≡ r.rtype
  pub class : (r : Rr) → (f r).class ≡ r.class
  pub rdata : (r : Rr) → (f r).rdata ≡ r.rdata

-- a set with each record and signature changed
abbrev pub on_set : (Rr → Rr) → RrSet → RrSet
on_set f set = record set { records = map f set.records; signatures = map f set.signatures }

pub signature-kept : (f : Rr → Rr) → KeepsKey f → (r : Rr) → is_signature (f r) ≡ is_signature r
signature-kept f k r = ap (λ n. n == type_rrsig) (k.rtype r)

same_set-kept : (f : Rr → Rr) → KeepsKey f → (a b : Rr) → same_set (f a) (f b) ≡ same_set a b
same_set-kept f k a b = rw (k.owner a, k.owner b, k.rtype a, k.rtype b) refl

covers-kept : (f : Rr → Rr) → KeepsKey f → (a b : Rr) → covers (f a) (f b) ≡ covers a b
covers-kept f k a b = rw (k.owner a, k.owner b, k.rtype a, k.rtype b, k.rdata b) refl

-- a changed signature covers what it covered
pub covered-kept : (f : Rr → Rr) → KeepsKey f → (a b : Rr) → covers a (f b) ≡ covers a b
covered-kept f k a b = rw (k.owner b, k.rtype b, k.rdata b) refl

unsigned-map : (f : Rr → Rr) → KeepsKey f → (section : List Rr) → unsigned_part (map f section) ≡ map f (unsigned_part section)
unsigned-map f k section =
    filter-map (λ r. not (is_signature r)) f section
    ∙ ap (map f) (filter_agree (λ r. not (is_signature (f r))) (λ r. not (is_signature r)) (λ r. ap not (signature-kept f k r)) section)

leaders-map : (f : Rr → Rr) → KeepsKey f → (section : List Rr) → leaders (map f section) ≡ map f (leaders section)
unfolding leaders
leaders-map f k [] = refl
leaders-map f k (r ∷ rs) =
    ap (λ rest. f r ∷ filter (λ s. not (same_set (f r) s)) rest) (leaders-map f k rs)
    ∙ ap (λ rest. f r ∷ rest) (filter-map (λ s. not (same_set (f r) s)) f (leaders rs))
    ∙ ap (λ rest. f r ∷ map f rest)
    (filter_agree (λ s. not (same_set (f r) (f s))) (λ s. not (same_set r s)) (λ s. ap not (same_set-kept f k r s)) (leaders rs))

set_of-map : (f : Rr → Rr) → KeepsKey f → (section : List Rr) (r : Rr) → set_of (map f section) (f r) ≡ on_set f (set_of section r)
set_of-map f k section r =
    let records : filter (same_set (f r)) (map f section) ≡ map f (filter (same_set r) section) =
    filter-map (same_set (f r)) f section
    ∙ ap (map f) (filter_agree (λ s. same_set (f r) (f s)) (same_set r) (same_set-kept f k r) section) in
    let signatures : filter (covers (f r)) (map f section) ≡ map f (filter (covers r) section) =
    filter-map (covers (f r)) f section ∙ ap (map f) (filter_agree (λ s. covers (f r) (f s)) (covers r) (covers-kept f k r) section) in
    rw (records, signatures, k.owner r, k.rtype r, k.class r) refl

-- the sets of changed records are the sets, changed
pub sets_of-map : (f : Rr → Rr) → KeepsKey f → (section : List Rr) → sets_of (map f section) ≡ map (on_set f) (sets_of section)
unfolding sets_of
sets_of-map f k section =
    let plain = unsigned_part section in
    ap (λ rs. map (set_of (map f section)) (leaders rs)) (unsigned-map f k section)
    ∙ ap (map (set_of (map f section))) (leaders-map f k plain)
    ∙ map-map (set_of (map f section)) f (leaders plain)
    ∙ map_agree (λ r. set_of (map f section) (f r)) (λ r. on_set f (set_of section r)) (leaders plain)
    (each_of (λ r. set_of (map f section) (f r) ≡ on_set f (set_of section r)) (set_of-map f k section) (leaders plain))
    ∙ sym (map-map (on_set f) (set_of section) (leaders plain))

pub rdatas_of-map : (f : Rr → Rr) → KeepsKey f → (records : List Rr) → rdatas_of (map f records) ≡ rdatas_of records
rdatas_of-map f k records =
    map-map (λ r. r.rdata) f records
    ∙ map_agree (λ r. (f r).rdata) (λ r. r.rdata) records (each_of (λ r. (f r).rdata ≡ r.rdata) k.rdata records)
