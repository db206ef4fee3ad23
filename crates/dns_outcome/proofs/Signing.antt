-- The sets of a section get their signatures one by one.
use Rattle.std.proofs.Common.{◌≡◌, ℕ, ◌+◌, ◌<◌, ◌≤◌, Bool, true, false, not, ◌&&◌, ◌==◌, cond, List, [], ◌∷◌, ◌++◌, map, length, take, get_or, Option, None, Some, refl, sym, ap, ◌∙◌}
use Rattle.std.specs.List.{filter}
use Rattle.std.proofs.lemmas.Bool.{and_parts, and_right}
use Rattle.std.proofs.lemmas.Cmp.{nat_eq_equiv}
use Rattle.std.proofs.lemmas.List.{append-nil, take_more, take_all}
use Rattle.std.proofs.lemmas.List.Elements.{filter-append}
use Rattle.dns_model.specs.Names.{name_eq}
use Rattle.dns_model.specs.Types.{type_rrsig}
use Rattle.dns_model.specs.Views.{RrsigValue, rrsig_in}
use Rattle.dns_model.specs.Records.{Rr, RrSet}
use Rattle.dns_model.specs.Sections.{same_set, is_signature, covers, leaders, unsigned_part, sets_of}
use Rattle.dns_model.proofs.EachLemmas.{Apart, each_more, each_of, each_passes, map_agree, map-map, apart_map}
use Rattle.dns_model.proofs.SetLemmas.{leaders_apart, same_key, each_leader, number_same}
use Rattle.dns_outcome.specs.Joining.{is_at, with_signature, handed_to_covered, handed, bare_set, bare_sets, part_set, part_sets}
use Rattle.dns_outcome.proofs.Joining.{touched_map, at_single}
use Rattle.dns_model.proofs.ViewSteps.{covers_rtype}

-- ---- one more signature

-- the set of a record, with these signatures
abbrev pub set_with : List Rr → Rr → List Rr → RrSet
set_with section l signatures = record (part_set section [] l) { signatures = signatures }

abbrev pub is_covered : Rr → Bool → Option RrsigValue → Rr → Bool
is_covered r b o l = b && (name_eq l.owner r.owner && covers_rtype l.rtype o)

unsigned_step : (section front : List Rr) (l r : Rr) (b : Bool) → b ≡ false
    → set_with section l (filter (covers l) front ++ cond b (r ∷ []) []) ≡ part_set section front l
unsigned_step section front l r b e =
    ap (λ c. set_with section l (filter (covers l) front ++ cond c (r ∷ []) [])) e
    ∙ ap (set_with section l) (append-nil (filter (covers l) front))

signed_step : (section front : List Rr) (l r : Rr) (b : Bool)
    → set_with section l (filter (covers l) front ++ cond b (r ∷ []) [])
    ≡ cond b (with_signature r (part_set section front l)) (part_set section front l)
signed_step section front l r true = refl
signed_step section front l r false = ap (set_with section l) (append-nil (filter (covers l) front))

part_apart : (section front ls : List Rr) → Apart same_set ls → Apart same_key (map (part_set section front) ls)
part_apart section front ls apart = apart_map same_key (part_set section front) ls apart

-- a signature is given where it covers
give_step : (section front : List Rr) (r : Rr) (ls : List Rr) (b : Bool) (o : Option RrsigValue) → Apart same_set ls
    → map (λ l. set_with section l (filter (covers l) front ++ cond (is_covered r b o l) (r ∷ []) [])) ls
    ≡ handed_to_covered r (cond b o None) (map (part_set section front) ls)
give_step section front r ls false o apart =
    map_agree (λ l. set_with section l (filter (covers l) front ++ [])) (part_set section front) ls
    (each_of (λ l. set_with section l (filter (covers l) front ++ []) ≡ part_set section front l)
    (λ l. unsigned_step section front l r false refl) ls)
give_step section front r ls true None apart =
    let one = λ (l : Rr). set_with section l (filter (covers l) front ++ cond (is_covered r true None l) (r ∷ []) []) in
    map_agree one (part_set section front) ls
    (each_of (λ l. one l ≡ part_set section front l) (λ l. unsigned_step section front l r (name_eq l.owner r.owner
    && false) (and_right (name_eq l.owner r.owner) false refl)) ls)
give_step section front r ls true (Some sig) apart =
    let one = λ (l : Rr). set_with section l (filter (covers l) front ++ cond (is_covered r true (Some sig) l) (r ∷ []) []) in
    let F = λ (s : RrSet). cond (is_at r.owner sig.covered s) (with_signature r s) s in
    map_agree one (λ l. F (part_set section front l)) ls
    (each_of (λ l. one l ≡ F (part_set section front l))
    (λ l. ap (λ b. set_with section l (filter (covers l) front ++ cond (name_eq l.owner r.owner && b) (r ∷ []) []))
    (nat_eq_equiv.symm sig.covered l.rtype)
    ∙ signed_step section front l r (name_eq l.owner r.owner && (l.rtype == sig.covered))) ls)
    ∙ sym (map-map F (part_set section front) ls)
    ∙ sym (touched_map same_key (is_at r.owner sig.covered) (with_signature r) (at_single r.owner sig.covered)
    (map (part_set section front) ls) (part_apart section front ls apart))

part-push : (section front : List Rr) (r : Rr) (ls : List Rr) → Apart same_set ls
    → map (part_set section (front ++ r ∷ [])) ls ≡ handed r (map (part_set section front) ls)
part-push section front r ls apart =
    let one = λ (l : Rr). set_with section l (filter (covers l) front
    ++ cond (is_covered r (is_signature r) (rrsig_in r.rdata) l) (r ∷ []) []) in
    map_agree (part_set section (front ++ r ∷ [])) one ls
    (each_of (λ l. part_set section (front ++ r ∷ []) l ≡ one l)
    (λ l. ap (set_with section l) (filter-append (covers l) front (r ∷ []))) ls)
    ∙ give_step section front r ls (is_signature r) (rrsig_in r.rdata) apart

-- the signatures that were given, with one more
pub part_more : (section : List Rr) (i : ℕ) (r : Rr) → i < length section → r ≡ get_or section i r
    → part_sets section (take (i + 1) section) ≡ handed r (part_sets section (take i section))
part_more section i r within read =
    ap (part_sets section) (take_more section i r within ∙ ap (λ x. take i section ++ x ∷ []) (sym read))
    ∙ part-push section (take i section) r (leaders (unsigned_part section)) (leaders_apart (unsigned_part section))

-- ---- before the first signature, and after the last

plain_step : (l x : Rr) (b c : Bool) (rest all : List Rr) → not (is_signature l) ≡ true → is_signature x ≡ b → same_set l x ≡ c
    → filter (same_set l) rest ≡ all
    → filter (same_set l) (cond (not b) (x ∷ rest) rest) ≡ cond c (x ∷ all) all
plain_step l x true true rest all plain e h later =
    let parts = and_parts (name_eq l.owner x.owner) (l.rtype == x.rtype) h in
    let same : is_signature l ≡ true = ap (λ k. k == type_rrsig) (number_same l.rtype x.rtype parts.1) ∙ e in
    cc
plain_step l x true false rest all plain e h later = later
plain_step l x false c rest all plain e h later = ap (λ b. cond b (x ∷ filter (same_set l) rest) (filter (same_set l) rest)) h
    ∙ ap (λ ys. cond c (x ∷ ys) ys) later

-- the set of a record that is no signature has none
filter_plain : (l : Rr) → not (is_signature l) ≡ true → (section : List Rr)
    → filter (same_set l) (unsigned_part section) ≡ filter (same_set l) section
filter_plain l plain [] = refl
filter_plain l plain (x ∷ xs) =
    plain_step l x (is_signature x) (same_set l x) (unsigned_part xs) (filter (same_set l) xs) plain refl refl (filter_plain l plain xs)

-- the sets of the records that aren't signatures
pub part_none : (section : List Rr) (i : ℕ) → length section ≤ i → bare_sets (unsigned_part (take i section)) ≡ part_sets section []
part_none section i past =
    let plain = λ (r : Rr). not (is_signature r) in
    let P = λ (l : Rr). bare_set (unsigned_part section) l ≡ part_set section [] l in
    ap (λ s. bare_sets (unsigned_part s)) (take_all i section past)
    ∙ map_agree (bare_set (unsigned_part section)) (part_set section []) (leaders (unsigned_part section))
    (each_more (λ l. plain l ≡ true) P (λ l h. ap (λ rs. record (part_set section [] l) { records = rs }) (filter_plain l h section))
    (leaders (unsigned_part section))
    (each_leader (λ l. plain l ≡ true) (unsigned_part section) (each_passes plain section)))

-- with all signatures they are the sets of the section
pub part_all : (section : List Rr) (i : ℕ) → length section ≤ i → part_sets section (take i section) ≡ sets_of section
unfolding sets_of
part_all section i past = ap (part_sets section) (take_all i section past)
