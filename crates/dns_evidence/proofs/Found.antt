-- Elements that are found by a number are those of the list.
use Rattle.std.proofs.Common.{◌≡◌, ℕ, zero, suc, ◌<◌, ◌≤◌, Bool, true, false, cond, List, [], ◌∷◌, ◌++◌, length, refl, sym, ap, ◌∙◌, arith}
use Rattle.std.specs.Prelude.{◌==◌, Some, Vec}
use Rattle.std.proofs.Math.Logic.{⊎_elim}
use Rattle.std.specs.List.{list_any}
use Rattle.std.specs.BTreeMap.{BTreeMap}
use Rattle.std.proofs.lemmas.Bool.{or_left, or_right, or_cases, eqb-true, eq-eqb, cases_lt}
use Rattle.std.proofs.lemmas.List.{get_or_push, get_or_append_left, length_push}
use Rattle.std.proofs.lemmas.List.Folds.{list_any-append, Any-from_list_any}
use Rattle.std.proofs.lemmas.Option.{slice_get-get_or}
use Rattle.dns_model.proofs.TestLemmas.{same_test}
use Rattle.dns_evidence.specs.Finding.{places_at, places_after, passes, passes_at, Covers}

-- what passes at a place passes in the list
pub passes_any : {X : Type 0} (test : X → Bool) (xs : List X) (i : ℕ) → passes_at test xs i ≡ true → list_any test xs ≡ true
passes_any test [] i h = h
passes_any test (x ∷ xs) zero h = or_left (test x) (list_any test xs) h
passes_any test (x ∷ xs) (suc i) h = or_right (test x) (list_any test xs) (passes_any test xs i h)

-- what passes at one of some places passes in the list
pub places_any : {X : Type 0} (test : X → Bool) (xs : List X) (places : List ℕ) → list_any (passes_at test xs) places ≡ true
    → list_any test xs ≡ true
places_any test xs [] h = cc
places_any test xs (place ∷ places) h =
    ⊎_elim (passes_any test xs place) (places_any test xs places)
    (or_cases (passes_at test xs place) (list_any (passes_at test xs) places) h)

-- a place among some, at which a test passes
pub any_place : (p : ℕ → Bool) (i : ℕ) (places : List ℕ) → p i ≡ true → list_any (λ place. i == place) places ≡ true
    → list_any p places ≡ true
any_place p i [] good h = cc
any_place p i (place ∷ places) good h =
    ⊎_elim (λ (e : (i == place) ≡ true). or_left (p place) (list_any p places) (ap p (sym (eqb-true i place e)) ∙ good))
    (λ (e : list_any (λ place. i == place) places ≡ true). or_right (p place) (list_any p places) (any_place p i places good e))
    (or_cases (i == place) (list_any (λ place. i == place) places) h)

-- a test passes at one of the places of a number where it passes in the list
pub found : {X Z : Type 0} (number : X → ℕ) (test : X → Bool) (n : ℕ) (places : BTreeMap ℕ (Vec ℕ Z)) (xs : List X)
    → ((x : X) → test x ≡ true → number x ≡ n) → Covers number places xs
    → list_any (passes_at test xs) (places_at places n) ≡ list_any test xs
found number test n places xs alike covers =
    same_test (list_any (passes_at test xs) (places_at places n)) (list_any test xs) (places_any test xs (places_at places n))
    (λ h. let some = Any-from_list_any test xs h in
    any_place (passes_at test xs) some.0 (places_at places n)
    (ap (passes test) (slice_get-get_or xs some.0 some.1 some.2 ∙ ap Some some.3) ∙ some.4)
    (ap (λ k. list_any (λ place. some.0 == place) (places_at places k)) (sym (alike some.1 some.4))
    ∙ covers some.0 some.1 some.2 (sym some.3)))

kept_if : (b : Bool) (i : ℕ) (there : List ℕ) (place : ℕ) → list_any (λ p. i == p) there ≡ true
    → list_any (λ p. i == p) (cond b (there ++ place ∷ []) there) ≡ true
kept_if true i there place h = list_any-append (λ p. i == p) there (place ∷ [])
    ∙ or_left (list_any (λ p. i == p) there) (list_any (λ p. i == p) (place ∷ [])) h
kept_if false i there place h = h

-- a place stays where another was added
kept_place : {Z : Type 0} (places next : BTreeMap ℕ (Vec ℕ Z)) (number place : ℕ)
    → ((n : ℕ) → places_at next n ≡ places_after places number place n)
    → (i n : ℕ) → list_any (λ p. i == p) (places_at places n) ≡ true → list_any (λ p. i == p) (places_at next n) ≡ true
kept_place places next number place after i n h = ap (list_any (λ p. i == p)) (after n)
    ∙ kept_if (number == n) i (places_at places n) place h

-- the place that was added is there
added_place : {Z : Type 0} (places next : BTreeMap ℕ (Vec ℕ Z)) (number place : ℕ)
    → ((n : ℕ) → places_at next n ≡ places_after places number place n)
    → list_any (λ p. place == p) (places_at next number) ≡ true
added_place places next number place after =
    ap (list_any (λ p. place == p)) (after number
    ∙ ap (λ b. cond b (places_at places number ++ place ∷ []) (places_at places number)) (eq-eqb number number refl))
    ∙ list_any-append (λ p. place == p) (places_at places number) (place ∷ [])
    ∙ or_right (list_any (λ p. place == p) (places_at places number)) (list_any (λ p. place == p) (place ∷ []))
    (or_left (place == place) false (eq-eqb place place refl))

-- places of no element
pub covers_none : {X Z : Type 0} (number : X → ℕ) (places : BTreeMap ℕ (Vec ℕ Z)) → Covers number places []
covers_none number places i x h is = absurd (omega arith)

-- one place more, and the list as it was
pub covers_grown : {X Z : Type 0} (number : X → ℕ) (places next : BTreeMap ℕ (Vec ℕ Z)) (xs : List X) (n place : ℕ)
    → Covers number places xs
    → ((k : ℕ) → places_at next k ≡ places_after places n place k) → Covers number next xs
covers_grown number places next xs n place covers after i x h is = kept_place places next n place after i (number x) (covers i x h is)

-- the same places
pub covers_kept : {X Z : Type 0} (number : X → ℕ) (places next : BTreeMap ℕ (Vec ℕ Z)) (xs : List X) → Covers number places xs
    → ((k : ℕ) → places_at next k ≡ places_at places k) → Covers number next xs
covers_kept number places next xs covers same i x h is = ap (list_any (λ p. i == p)) (same (number x)) ∙ covers i x h is

-- one element more, at its place
pub covers_more : {X Z : Type 0} (number : X → ℕ) (places next : BTreeMap ℕ (Vec ℕ Z)) (xs : List X) (y : X) → Covers number places xs
    → ((k : ℕ) → places_at next k ≡ places_after places (number y) (length xs) k) → Covers number next (xs ++ y ∷ [])
covers_more number places next xs y covers after i x h is =
    ⊎_elim
    (λ (below : i < length xs). kept_place places next (number y) (length xs) after i (number x)
    (covers i x below (is ∙ get_or_append_left xs (y ∷ []) x i below)))
    (λ (from : length xs ≤ i).
    let last : length xs ≡ i = omega (arith, length_push xs y) in
    let one : x ≡ y = is ∙ get_or_push xs y x i last in
    ap (λ z. list_any (λ p. i == p) (places_at next (number z))) one
    ∙ ap (λ k. list_any (λ p. k == p) (places_at next (number y))) (sym last)
    ∙ added_place places next (number y) (length xs) after)
    (cases_lt i (length xs))
