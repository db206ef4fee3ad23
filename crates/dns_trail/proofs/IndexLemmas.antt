-- Judged sets by their keys: an equal set has the key of the set that repeats it.
use Rattle.std.proofs.Common.{◌≡◌, ℕ, ◌<◌, ◌+◌, true, List, [], ◌∷◌, ◌++◌, length, take, get_or, slice_get, refl, sym, ap, ◌∙◌, subst, arith}
use Rattle.std.specs.Prelude.{Vec}
use Rattle.std.specs.Cmp.{IsTotalOrder}
use Rattle.std.specs.Cmp.Lexicographic.{pointwise}
use Rattle.std.specs.List.{list_any}
use Rattle.std.specs.BTreeMap.{BTreeMap}
use Rattle.std.proofs.lemmas.Bool.{and_parts}
use Rattle.std.proofs.lemmas.Cmp.{then_total, on_total, nat_cmp_total, nat_list_cmp_total}
use Rattle.std.proofs.lemmas.List.{length-map, length-take-le, map-append, take_more}
use Rattle.dns_model.specs.Names.{folded, wire}
use Rattle.dns_model.specs.Records.{Rr}
use Rattle.dns_model.specs.SoundAnswers.{PlacedSet}
use Rattle.dns_model.specs.Trails.{JudgedSetValue}
use Rattle.dns_rules.specs.CacheKeys.{same_bytes}
use Rattle.dns_rules.specs.ChainedSets.{ChainedSet, bare}
use Rattle.dns_rules.specs.Derivation.{is_repeat}
use Rattle.dns_rules.specs.MarkedSets.{MarkedSet}
use Rattle.dns_rules.proofs.KeyLemmas.{owner_same, rtype_same}
use Rattle.dns_evidence.specs.Finding.{passes_at}
use Rattle.dns_trail.specs.declared.places.SetKey.{SetKey}
use Rattle.dns_trail.specs.Indexed.{AreIndexed}
use Rattle.dns_trail.specs.Places.{AddedPlace}
use Rattle.dns_trail.specs.SetKeys.{trail_key_cmp, trail_key_of, key_of_first, key_of_record, set_places}
use Rattle.dns_trail.proofs.PlaceLemmas.{keeps_added, found}

pub key_total : IsTotalOrder trail_key_cmp
key_total = then_total (on_total (λ k. k.owner) nat_list_cmp_total) (on_total (λ k. k.record_type) nat_cmp_total)

-- ---- the key of an equal set

with_key : List ℕ → ℕ → SetKey
with_key owner rtype = record { owner = owner; record_type = rtype }

record_alike : (a b : Rr) → same_bytes a b ≡ true → key_of_record b ≡ key_of_record a
unfolding with_key
record_alike a b h =
    sym (ap (λ o. with_key (wire (folded o)) a.rtype) (owner_same a b h) ∙ ap (with_key (wire (folded b.owner))) (rtype_same a b h))

records_alike : (xs ys : List Rr) → pointwise same_bytes xs ys ≡ true
    → key_of_first (slice_get ys 0) ≡ key_of_first (slice_get xs 0)
records_alike [] [] h = refl
records_alike [] (y ∷ ys) h = cc
records_alike (x ∷ xs) [] h = cc
records_alike (x ∷ xs) (y ∷ ys) h = record_alike x y (and_parts (same_bytes x y) _ h).0

repeat_alike : (placed : PlacedSet) (entry : JudgedSetValue) (judged : MarkedSet) → is_repeat placed entry judged ≡ true
    → trail_key_of judged.set ≡ trail_key_of placed.set
repeat_alike placed entry judged h =
    records_alike placed.set.records judged.set.records
    (and_parts (pointwise same_bytes placed.set.records judged.set.records) _ h).0

-- a set is found among those with its key
pub repeat_found : {Z : Type 0} (places : BTreeMap SetKey (Vec ℕ Z)) (sets : List MarkedSet) (placed : PlacedSet)
    (entry : JudgedSetValue) → AreIndexed places sets
    → list_any (passes_at (is_repeat placed entry) sets)
    (set_places places (trail_key_of placed.set)) ≡ list_any (is_repeat placed entry) sets
repeat_found places sets placed entry indexed =
    found (λ j. trail_key_of j.set) (is_repeat placed entry) (trail_key_of placed.set) (set_places places) sets
    (repeat_alike placed entry) indexed

-- ---- a place more

long_front : (sets : List ChainedSet) (i : ℕ) → i < length sets → length (bare (take i sets)) ≡ i
long_front sets i lt =
    let one =
    length-map (take i sets) (λ x. x.judged) in let two : length (take i sets) ≡ i = grind (arith, length-take-le) in one ∙ two

-- one set more has its place
pub indexed_more : {Z : Type 0} (old new : BTreeMap SetKey (Vec ℕ Z)) (sets : List ChainedSet) (i : ℕ) (c : ChainedSet)
    (key : SetKey) → i < length sets
    → c ≡ get_or sets i c → key ≡ trail_key_of c.judged.set → AreIndexed old (bare (take i sets))
    → AddedPlace trail_key_cmp old new key i
    → AreIndexed new (bare (take (i + 1) sets))
indexed_more old new sets i c key lt is own indexed more =
    let front : take (i + 1) sets ≡ take i sets ++ c ∷ [] =
    take_more sets i c lt ∙ ap (λ x. take i sets ++ x ∷ []) (sym is) in
    let whole : bare (take (i + 1) sets) ≡ bare (take i sets) ++ c.judged ∷ [] =
    ap bare front ∙ map-append (λ x. x.judged) (take i sets) (c ∷ []) in
    let P : List MarkedSet → Type 0 = λ js. AreIndexed new js in
    let long : length (bare (take i sets)) ≡ i = long_front sets i lt in
    let place : AddedPlace trail_key_cmp old new (trail_key_of c.judged.set) (length (bare (take i sets))) =
    subst (λ k. AddedPlace trail_key_cmp old new k (length (bare (take i sets)))) own
    (subst (AddedPlace trail_key_cmp old new key) (sym long) more) in
    subst P (sym whole) (keeps_added key_total (λ j. trail_key_of j.set) old new (bare (take i sets)) c.judged indexed place)
