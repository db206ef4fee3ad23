-- What one step of the grouping does to the sets and to their places.
use Rattle.std.proofs.Common.{◌≡◌, ℕ, ◌<◌, Bool, ◌&&◌, ◌==◌, cond, List, [], ◌∷◌, ◌++◌, length, get_or, set, Option, None, Some, refl, sym, ap, ◌∙◌, subst}
use Rattle.dns_model.specs.Names.{Labels, name_eq}
use Rattle.dns_model.specs.Views.{RrsigValue}
use Rattle.dns_model.specs.Records.{Rr, RrSet}
use Rattle.dns_model.specs.Sections.{leaders}
use Rattle.dns_outcome.specs.declared.set_places.SetPlaces.{SetPlaces}
use Rattle.dns_outcome.specs.Joining.{is_at, touched, with_record, with_signature, set_of_one, joined_by, handed_to_covered, bare_sets}
use Rattle.dns_outcome.specs.SetPlaces.{place_of, or_place, with_place, place_in, place_covered, ArePlaces}
use Rattle.dns_outcome.proofs.PlaceLemmas.{IsPlace, is_place, is_absent, place-touched, place-push}

-- the place that is known is that of the first set of this owner and type
pub place_at : (p : SetPlaces) (sets : List RrSet) (owner : Labels) (rtype n : ℕ) → ArePlaces p sets
    → Some n ≡ place_of p owner rtype → IsPlace (is_at owner rtype) sets n
place_at p sets owner rtype n are is = is_place (is_at owner rtype) sets n (sym (are.each owner rtype) ∙ sym is)

-- places stay where owners and types stay
places_kept : (p : SetPlaces) (sets : List RrSet) (q : RrSet → Bool) (f : RrSet → RrSet)
    → ((o : Labels) (k : ℕ) (x : RrSet) → is_at o k (f x) ≡ is_at o k x)
    → ArePlaces p sets → ArePlaces p (touched q f sets)
places_kept p sets q f same are = record { each = λ o k. are.each o k ∙ sym (place-touched (is_at o k) q f (same o k) sets) }

-- the set at its place is changed
pub joined_at : (p : SetPlaces) (sets : List RrSet) (r s : Rr) (n : ℕ) (x y : RrSet) → ArePlaces p sets
    → Some n ≡ place_of p r.owner r.rtype
    → x ≡ get_or sets n x → s ≡ r → y ≡ with_record s x → set sets n y ≡ joined_by r sets
joined_at p sets r s n x y are is read same made =
    let found = place_at p sets r.owner r.rtype n are is in
    let test = is_at r.owner r.rtype in
    ap (set sets n) (made ∙ ap (λ t. with_record t x) same)
    ∙ sym (found.changed (with_record r) x read)
    ∙ sym (ap (λ b. cond b (touched test (with_record r) sets) (sets ++ set_of_one r ∷ [])) found.any)

pub joined_places : (p : SetPlaces) (sets : List RrSet) (owner : Labels) (rtype : ℕ) (s : Rr) (n : ℕ) (x y : RrSet)
    → ArePlaces p sets → Some n ≡ place_of p owner rtype
    → x ≡ get_or sets n x → y ≡ with_record s x → ArePlaces p (set sets n y)
joined_places p sets owner rtype s n x y are is read made =
    subst (ArePlaces p) ((place_at p sets owner rtype n are is).changed (with_record s) x read ∙ ap (set sets n) (sym made))
    (places_kept p sets (is_at owner rtype) (with_record s) (λ o k z. refl) are)

-- a set of its own comes last
pub joined_new : (p : SetPlaces) (sets after : List RrSet) (r s : Rr) (own : RrSet) → ArePlaces p sets → None ≡ place_of p r.owner r.rtype
    → after ≡ sets ++ own ∷ [] → own ≡ set_of_one s → s ≡ r → after ≡ joined_by r sets
joined_new p sets after r s own are is pushed made same =
    let test = is_at r.owner r.rtype in
    let absent = is_absent test sets (sym (are.each r.owner r.rtype) ∙ sym is) in
    pushed ∙ ap (λ x. sets ++ x ∷ []) (made ∙ ap set_of_one same)
    ∙ sym (ap (λ b. cond b (touched test (with_record r) sets) (sets ++ set_of_one r ∷ [])) absent.none)

pub new_places : (old new : SetPlaces) (sets after : List RrSet) (r s : Rr) (own : RrSet) (n : ℕ) → ArePlaces old sets
    → ((o : Labels) (k : ℕ) → place_of new o k ≡ with_place (place_of old) r.owner r.rtype n o k)
    → n ≡ length sets → after ≡ sets ++ own ∷ [] → own ≡ set_of_one s → s ≡ r → ArePlaces new after
new_places old new sets after r s own n are is last pushed made same =
    let whole : after ≡ sets ++ set_of_one r ∷ [] = pushed ∙ ap (λ x. sets ++ x ∷ []) (made ∙ ap set_of_one same) in
    let P = λ (xs : List RrSet). ArePlaces new xs in
    subst P (sym whole) (record {
      each = λ o k.
          is o k ∙ ap (λ m. or_place (place_of old o k) (cond (name_eq r.owner o && (r.rtype == k)) (Some m) None)) last
          ∙ ap (λ p. or_place p (cond (name_eq r.owner o && (r.rtype == k)) (Some (length sets)) None)) (are.each o k)
          ∙ sym (place-push (is_at o k) sets (set_of_one r));
    })

-- ---- signatures

pub none_given : (p : SetPlaces) (sets : List RrSet) (r : Rr) (o : Option RrsigValue) → ArePlaces p sets
    → None ≡ place_covered (place_of p) r.owner o → sets ≡ handed_to_covered r o sets
none_given p sets r None are is = refl
none_given p sets r (Some sig) are is =
    sym ((is_absent (is_at r.owner sig.covered) sets (sym (are.each r.owner sig.covered) ∙ sym is)).unchanged (with_signature r))

-- the place of the set that a signature covers lies in the list
pub covered_within : (p : SetPlaces) (sets : List RrSet) (owner : Labels) (o : Option RrsigValue) (n : ℕ) → ArePlaces p sets
    → Some n ≡ place_covered (place_of p) owner o
    → n < length sets
covered_within p sets owner None n are is = cc
covered_within p sets owner (Some sig) n are is = (place_at p sets owner sig.covered n are is).within

pub given_at : (p : SetPlaces) (sets : List RrSet) (r s : Rr) (o : Option RrsigValue) (n : ℕ) (x y : RrSet) → ArePlaces p sets
    → Some n ≡ place_covered (place_of p) r.owner o
    → x ≡ get_or sets n x → s ≡ r → y ≡ with_signature s x → set sets n y ≡ handed_to_covered r o sets
given_at p sets r s None n x y are is read same made = cc
given_at p sets r s (Some sig) n x y are is read same made =
    ap (set sets n) (made ∙ ap (λ t. with_signature t x) same)
    ∙ sym ((place_at p sets r.owner sig.covered n are is).changed (with_signature r) x read)

pub given_places : (p : SetPlaces) (sets : List RrSet) (owner : Labels) (s : Rr) (o : Option RrsigValue) (n : ℕ) (x y : RrSet)
    → ArePlaces p sets
    → Some n ≡ place_covered (place_of p) owner o → x ≡ get_or sets n x → y ≡ with_signature s x → ArePlaces p (set sets n y)
given_places p sets owner s None n x y are is read made = cc
given_places p sets owner s (Some sig) n x y are is read made =
    subst (ArePlaces p) ((place_at p sets owner sig.covered n are is).changed (with_signature s) x read ∙ ap (set sets n) (sym made))
    (places_kept p sets (is_at owner sig.covered) (with_signature s) (λ q k z. refl) are)

-- ---- before the first record

pub no_places : (p : SetPlaces) → ((o : Labels) (k : ℕ) → place_of p o k ≡ None) → ArePlaces p []
unfolding place_in
no_places p is = record { each = is }

pub no_sets : bare_sets [] ≡ []
unfolding leaders
no_sets = refl
