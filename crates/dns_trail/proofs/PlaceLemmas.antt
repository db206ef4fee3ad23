-- Sets that are found by a key are those of the list, as equal ones have one key.
use Rattle.std.proofs.Common.{◌≡◌, ℕ, ◌<◌, ◌≤◌, Bool, true, false, cond, List, [], ◌∷◌, ◌++◌, length, refl, sym, ap, ◌∙◌, arith}
use Rattle.std.specs.Prelude.{◌==◌, Some, Vec}
use Rattle.std.specs.Cmp.{IsTotalOrder}
use Rattle.std.specs.BTreeMap as tree
use Rattle.std.specs.BTreeMap.{BTreeMap}
use Rattle.std.specs.Ordering.{is_eq, ordering_reverse}
use Rattle.std.specs.declared.cmp.Ordering.{Ordering}
use Rattle.std.specs.declared.cmp.Ordering.TheVariants.{Less, Equal, Greater}
use Rattle.std.proofs.Math.Logic.{⊎_elim}
use Rattle.std.specs.List.{list_any}
use Rattle.std.proofs.lemmas.Bool.{or_left, or_right, eq-eqb, cases_lt}
use Rattle.std.proofs.lemmas.List.{append-nil, get_or_push, get_or_append_left, length_push}
use Rattle.std.proofs.lemmas.List.Folds.{list_any-append, Any-from_list_any}
use Rattle.std.proofs.lemmas.Option.{slice_get-get_or}
use Rattle.dns_model.proofs.TestLemmas.{same_test, tied_equal}
use Rattle.dns_model.proofs.Lists.{lookup-same}
use Rattle.dns_evidence.specs.Finding.{items_or_none, passes, passes_at}
use Rattle.dns_evidence.proofs.Found.{any_place, places_any}
use Rattle.dns_trail.specs.Places.{KeepsPlaces, KeepsAllOf, AddedPlace, places_under}

-- a test that elements with a key alone pass passes at one of the places of these where it passes in the list
pub found_there : {X K : Type 0} (key : X → K) (test : X → Bool) (k : K) (places : List ℕ) (xs : List X)
    → ((x : X) → test x ≡ true → key x ≡ k) → KeepsAllOf key k places xs
    → list_any (passes_at test xs) places ≡ list_any test xs
found_there key test k places xs alike all =
    same_test (list_any (passes_at test xs) places) (list_any test xs) (places_any test xs places)
    (λ h. let some = Any-from_list_any test xs h in
    any_place (passes_at test xs) some.0 places
    (ap (passes test) (slice_get-get_or xs some.0 some.1 some.2 ∙ ap Some some.3) ∙ some.4)
    (all.each some.0 some.1 some.2 (sym some.3) (alike some.1 some.4)))

-- of places by keys, those under one
pub all_under : {X K : Type 0} (key : X → K) (k : K) (places : K → List ℕ) (xs : List X)
    → KeepsPlaces key places xs → KeepsAllOf key k (places k) xs
all_under key k places xs covers = record {
  each = λ i x h is same. ap (λ n. list_any (λ place. i == place) (places n)) (sym same) ∙ covers.each i x h is;
}

pub found : {X K : Type 0} (key : X → K) (test : X → Bool) (k : K) (places : K → List ℕ) (xs : List X)
    → ((x : X) → test x ≡ true → key x ≡ k) → KeepsPlaces key places xs
    → list_any (passes_at test xs) (places k) ≡ list_any test xs
found key test k places xs alike covers = found_there key test k (places k) xs alike (all_under key k places xs covers)

-- places of no element
pub keeps_none : {X K : Type 0} (key : X → K) (places : K → List ℕ) → KeepsPlaces key places []
keeps_none key places = record { each = λ i x h is. absurd (omega arith) }

-- one element more, at its place
pub keeps_more : {X K : Type 0} (key : X → K) (places next : K → List ℕ) (xs : List X) (y : X) (added : K → List ℕ)
    → KeepsPlaces key places xs
    → ((k : K) → next k ≡ places k ++ added k) → added (key y) ≡ length xs ∷ [] → KeepsPlaces key next (xs ++ y ∷ [])
keeps_more key places next xs y added covers after one = record {
  each = λ i x h is.
      ⊎_elim
      (λ (below : i < length xs).
      ap (list_any (λ p. i == p)) (after (key x)) ∙ list_any-append (λ p. i == p) (places (key x)) (added (key x))
      ∙ or_left (list_any (λ p. i == p) (places (key x))) (list_any (λ p. i == p) (added (key x)))
      (covers.each i x below (is ∙ get_or_append_left xs (y ∷ []) x i below)))
      (λ (from : length xs ≤ i).
      let last : length xs ≡ i = omega (arith, length_push xs y) in
      let own : x ≡ y = is ∙ get_or_push xs y x i last in
      ap (λ z. list_any (λ p. i == p) (next (key z))) own
      ∙ ap (list_any (λ p. i == p)) (after (key y)) ∙ list_any-append (λ p. i == p) (places (key y)) (added (key y))
      ∙ or_right (list_any (λ p. i == p) (places (key y))) (list_any (λ p. i == p) (added (key y)))
      (ap (list_any (λ p. i == p)) (one ∙ ap (λ n. n ∷ []) last) ∙ or_left (i == i) false (eq-eqb i i refl)))
      (cases_lt i (length xs));
}

-- ---- places in a map whose keys have a total order

get-same : {K X : Type 0} {cmp : K → K → Ordering} → IsTotalOrder cmp → (m : BTreeMap K X) (k q : K) → cmp k q ≡ Equal
    → tree.get cmp m k ≡ tree.get cmp m q
get-same total m k q same = lookup-same _ _ (λ x. ap is_eq (total.congr k q x same)) m.entries

added_case : {K Z : Type 0} {cmp : K → K → Ordering} → IsTotalOrder cmp
    → (old : BTreeMap K (Vec ℕ Z)) (key k : K) (place : ℕ) (w : Vec ℕ Z)
    → w.items ≡ places_under cmp old key ++ place ∷ []
    → (b : Bool) → is_eq (cmp key k) ≡ b
    → items_or_none (cond b (Some w) (tree.get cmp old k)) ≡ places_under cmp old k ++ cond b (place ∷ []) []
added_case {cmp = cmp} total old key k place w items true tied =
    items ∙ ap (λ o. items_or_none o ++ place ∷ []) (get-same total old key k (tied_equal (cmp key k) tied))
added_case {cmp = cmp} total old key k place w items false tied = sym (append-nil (places_under cmp old k))

pub added : {K Z : Type 0} {cmp : K → K → Ordering} → IsTotalOrder cmp
    → (old new : BTreeMap K (Vec ℕ Z)) (key : K) (place : ℕ) (w : Vec ℕ Z)
    → w.items ≡ places_under cmp old key ++ place ∷ []
    → tree.Updates cmp old new key (Some w) → AddedPlace cmp old new key place
added {cmp = cmp} total old new key place w items updates k =
    ap items_or_none (updates.0 k) ∙ added_case total old key k place w items (is_eq (cmp key k)) refl

self_reverse : (o : Ordering) → o ≡ ordering_reverse o → o ≡ Equal
self_reverse Less h = cc
self_reverse Equal h = refl
self_reverse Greater h = cc

own_place : {K : Type 0} {cmp : K → K → Ordering} → IsTotalOrder cmp → (key : K) (place : ℕ)
    → cond (is_eq (cmp key key)) (place ∷ []) [] ≡ place ∷ []
own_place {cmp = cmp} total key place =
    ap (λ o. cond (is_eq o) (place ∷ []) []) (self_reverse (cmp key key) (total.antisymm key key))

-- one element more has its place
pub keeps_added : {X K Z : Type 0} {cmp : K → K → Ordering} → IsTotalOrder cmp
    → (key : X → K) (old new : BTreeMap K (Vec ℕ Z)) (xs : List X) (y : X)
    → KeepsPlaces key (places_under cmp old) xs → AddedPlace cmp old new (key y) (length xs)
    → KeepsPlaces key (places_under cmp new) (xs ++ y ∷ [])
keeps_added {cmp = cmp} total key old new xs y covers more =
    keeps_more key (places_under cmp old) (places_under cmp new) xs y (λ k. cond (is_eq (cmp (key y) k)) (length xs ∷ []) []) covers more
    (own_place total (key y) (length xs))
