-- Events with their places in a journal.
use Rattle.std.proofs.Common.{◌≡◌, ℕ, ◌+◌, ◌≤◌, ◌<◌, Bool, true, false, List, [], ◌∷◌, ◌++◌, length, slice_get, Some, refl, sym, arith, inl, inr, ◌⊎◌, ⊎_elim, append_assoc, length-append}
use Rattle.std.specs.Prelude.{nat_lt, ◌==◌, ◌||◌, if◌then◌else◌}
use Rattle.std.proofs.lemmas.Bool.{eqb-true, eq-eqb}
use Rattle.std.proofs.lemmas.Bool.Decides.{nat_tests}
use Rattle.turns.specs.Turns.{Begins, has_place, Stands, Rises, Apart, placed_from, put_in, merged}
use Rattle.turns.proofs.Beginnings.{get_begins, get_below, get_behind}

-- one of two tests
or-cases : (a b : Bool) → (a || b) ≡ true → (a ≡ true) ⊎ (b ≡ true)
or-cases true b is = inl refl
or-cases false b is = inr is

or-left : (a b : Bool) → a ≡ true → (a || b) ≡ true
or-left a b is = rw is refl

or-right : (a b : Bool) → b ≡ true → (a || b) ≡ true
or-right true b is = refl
or-right false b is = is

module _ {E : Type 0} where
  -- ---- which places there are

  head_place : (call : ℕ × E) (own : List (ℕ × E)) → has_place call.0 (call ∷ own) ≡ true
  head_place call own = or-left (call.0 == call.0) (has_place call.0 own) (eq-eqb call.0 call.0 refl)

  later_place : (place : ℕ) (call : ℕ × E) (own : List (ℕ × E)) → has_place place own ≡ true → has_place place (call ∷ own) ≡ true
  later_place place call own has = or-right (call.0 == place) (has_place place own) has

  place_cases : (place : ℕ) (call : ℕ × E) (own : List (ℕ × E)) → has_place place (call ∷ own) ≡ true
      → (call.0 ≡ place) ⊎ (has_place place own ≡ true)
  place_cases place call own has = ⊎_elim
      (λ (is : (call.0 == place) ≡ true). inl (eqb-true call.0 place is))
      (λ (is : has_place place own ≡ true). inr is)
      (or-cases (call.0 == place) (has_place place own) has)

  pub has_appended : (place : ℕ) (own more : List (ℕ × E)) → has_place place (own ++ more) ≡ true
      → (has_place place own ≡ true) ⊎ (has_place place more ≡ true)
  has_appended place [] more has = inr has
  has_appended place (call ∷ own) more has = ⊎_elim
      (λ (is : call.0 ≡ place). inl (or-left (call.0 == place) (has_place place own) (eq-eqb call.0 place is)))
      (λ (is : has_place place (own ++ more) ≡ true). ⊎_elim
      (λ (here : has_place place own ≡ true). inl (later_place place call own here))
      (λ (there : has_place place more ≡ true). inr there)
      (has_appended place own more is))
      (place_cases place call (own ++ more) has)

  pub placed_has : (place first : ℕ) (events : List E) → has_place place (placed_from first events) ≡ true → first ≤ place
  unfolding placed_from
  placed_has place first [] has = cc
  placed_has place first (e ∷ events) has = ⊎_elim
      (λ (is : first ≡ place). omega (arith, is))
      (λ (is : has_place place (placed_from (first + 1) events) ≡ true). omega (arith, placed_has place (first + 1) events is))
      (place_cases place (first, e) (placed_from (first + 1) events) has)

  put-has-case : (place : ℕ) (call next : ℕ × E) (own : List (ℕ × E)) (b : Bool)
      → has_place place (if b then call ∷ next ∷ own else next ∷ put_in call own) ≡ true
      → (has_place place (put_in call own) ≡ true → (call.0 ≡ place) ⊎ (has_place place own ≡ true))
      → (call.0 ≡ place) ⊎ (has_place place (next ∷ own) ≡ true)
  put-has-case place call next own true has more = place_cases place call (next ∷ own) has
  put-has-case place call next own false has more = ⊎_elim
      (λ (is : next.0 ≡ place). inr (or-left (next.0 == place) (has_place place own) (eq-eqb next.0 place is)))
      (λ (is : has_place place (put_in call own) ≡ true). ⊎_elim
      (λ (here : call.0 ≡ place). inl here)
      (λ (there : has_place place own ≡ true). inr (later_place place next own there))
      (more is))
      (place_cases place next (put_in call own) has)

  put_has : (place : ℕ) (call : ℕ × E) (own : List (ℕ × E)) → has_place place (put_in call own) ≡ true
      → (call.0 ≡ place) ⊎ (has_place place own ≡ true)
  unfolding put_in
  put_has place call [] has = place_cases place call [] has
  put_has place call (next ∷ own) has =
      put-has-case place call next own (nat_lt call.0 next.0) has (put_has place call own)

  pub merged_has : (place : ℕ) (own other : List (ℕ × E)) → has_place place (merged own other) ≡ true
      → (has_place place own ≡ true) ⊎ (has_place place other ≡ true)
  unfolding merged
  merged_has place [] other has = inr has
  merged_has place (call ∷ own) other has = ⊎_elim
      (λ (is : call.0 ≡ place). inl (or-left (call.0 == place) (has_place place own) (eq-eqb call.0 place is)))
      (λ (is : has_place place (merged own other) ≡ true). ⊎_elim
      (λ (here : has_place place own ≡ true). inl (later_place place call own here))
      (λ (there : has_place place other ≡ true). inr there)
      (merged_has place own other is))
      (put_has place call (merged own other) has)

  -- ---- they stand in the journal

  pub place_below : (journal : List E) (own : List (ℕ × E)) (place : ℕ) → Stands journal own → has_place place own ≡ true
      → place < length journal
  unfolding Stands
  place_below journal [] place stands has = cc
  place_below journal (call ∷ own) place stands has = ⊎_elim
      (λ (is : call.0 ≡ place). omega (arith, is, get_below journal call.0 call.1 stands.0))
      (λ (is : has_place place own ≡ true). place_below journal own place stands.1 is)
      (place_cases place call own has)

  pub stands_on : (whole journal : List E) (own : List (ℕ × E)) → Begins whole journal → Stands journal own → Stands whole own
  unfolding Stands
  stands_on whole journal [] is stands = tt
  stands_on whole journal (call ∷ own) is stands =
      (get_begins whole journal call.0 call.1 is stands.0, stands_on whole journal own is stands.1)

  pub stands_both : (journal : List E) (own more : List (ℕ × E)) → Stands journal own → Stands journal more → Stands journal (own ++ more)
  unfolding Stands
  stands_both journal [] more one other = other
  stands_both journal (call ∷ own) more one other = (one.0, stands_both journal own more one.1 other)

  pub placed_stands : (before events : List E) → Stands (before ++ events) (placed_from (length before) events)
  unfolding Stands placed_from
  placed_stands before [] = tt
  placed_stands before (e ∷ events) =
      let Rest : List E → ℕ → Type 0 = λ whole n. Stands whole (placed_from n events) in
      let rest : Stands ((before ++ e ∷ []) ++ events) (placed_from (length (before ++ e ∷ [])) events) =
      placed_stands (before ++ e ∷ []) events in
      let n : length (before ++ e ∷ []) ≡ length before + 1 = length-append before (e ∷ []) in
      (get_behind before e events, rw (append_assoc before (e ∷ []) events, n) at rest)

  put-stands-case : (journal : List E) (call next : ℕ × E) (own : List (ℕ × E)) (b : Bool)
      → slice_get journal call.0 ≡ Some call.1 → Stands journal (next ∷ own) → Stands journal (put_in call own)
      → Stands journal (if b then call ∷ next ∷ own else next ∷ put_in call own)
  unfolding Stands
  put-stands-case journal call next own true is stands more = (is, stands)
  put-stands-case journal call next own false is stands more = (stands.0, more)

  put_stands : (journal : List E) (call : ℕ × E) (own : List (ℕ × E)) → slice_get journal call.0 ≡ Some call.1
      → Stands journal own → Stands journal (put_in call own)
  unfolding Stands put_in
  put_stands journal call [] is stands = (is, tt)
  put_stands journal call (next ∷ own) is stands =
      put-stands-case journal call next own (nat_lt call.0 next.0) is stands (put_stands journal call own is stands.1)

  pub merged_stands : (journal : List E) (own other : List (ℕ × E)) → Stands journal own → Stands journal other
      → Stands journal (merged own other)
  unfolding Stands merged
  merged_stands journal [] other one two = two
  merged_stands journal (call ∷ own) other one two =
      put_stands journal call (merged own other) one.0 (merged_stands journal own other one.1 two)

  -- ---- their places rise

  pub rises_low : (low place : ℕ) (own : List (ℕ × E)) → Rises low own → has_place place own ≡ true → low ≤ place
  unfolding Rises
  rises_low low place [] rises has = cc
  rises_low low place (call ∷ own) rises has = ⊎_elim
      (λ (is : call.0 ≡ place). omega (arith, is, rises.0))
      (λ (is : has_place place own ≡ true). omega (arith, rises.0, rises_low (call.0 + 1) place own rises.1 is))
      (place_cases place call own has)

  pub rises_from : (low high : ℕ) (own : List (ℕ × E)) → low ≤ high → Rises high own → Rises low own
  unfolding Rises
  rises_from low high [] less rises = tt
  rises_from low high (call ∷ own) less rises = (omega (arith, less, rises.0), rises.1)

  pub placed_rises : (low first : ℕ) (events : List E) → low ≤ first → Rises low (placed_from first events)
  unfolding Rises placed_from
  placed_rises low first [] less = tt
  placed_rises low first (e ∷ events) less = (less, placed_rises (first + 1) (first + 1) events (omega arith))

  pub rises_both : (low high : ℕ) (own more : List (ℕ × E)) → low ≤ high → Rises low own
      → ((place : ℕ) → has_place place own ≡ true → place < high) → Rises high more → Rises low (own ++ more)
  unfolding Rises
  rises_both low high [] more less one below other = rises_from low high more less other
  rises_both low high (call ∷ own) more less one below other =
      let here : call.0 < high = below call.0 (head_place call own) in (
        one.0,
        rises_both (call.0 + 1) high own more (omega (arith, here)) one.1
            (λ place has. below place (later_place place call own has)) other,
      )

  put-rises-case : (low : ℕ) (call next : ℕ × E) (own : List (ℕ × E)) (b : Bool) → nat_lt call.0 next.0 ≡ b
      → low ≤ call.0 → Rises low (next ∷ own) → (next.0 + 1 ≤ call.0 → Rises (next.0 + 1) (put_in call own))
      → (call.0 ≡ next.0 → ⊥) → Rises low (if b then call ∷ next ∷ own else next ∷ put_in call own)
  unfolding Rises
  put-rises-case low call next own true is less rises more other =
      let before : call.0 < next.0 = grind (arith, nat_tests) in (less, (omega (arith, before), rises.1))
  put-rises-case low call next own false is less rises more other =
      let behind : next.0 ≤ call.0 = grind (arith, nat_tests) in
      (rises.0, more (omega (arith, behind, other)))

  put_rises : (low : ℕ) (call : ℕ × E) (own : List (ℕ × E)) → low ≤ call.0 → Rises low own
      → (has_place call.0 own ≡ true → ⊥) → Rises low (put_in call own)
  unfolding Rises put_in
  put_rises low call [] less rises new = (less, tt)
  put_rises low call (next ∷ own) less rises new =
      put-rises-case low call next own _ refl less rises
      (λ behind. put_rises (next.0 + 1) call own behind rises.1 (λ has. new (later_place call.0 next own has)))
      (λ same. new (or-left (next.0 == call.0) (has_place call.0 own) (eq-eqb next.0 call.0 (sym same))))

  pub merged_rises : (low : ℕ) (own other : List (ℕ × E)) → Rises low own → Rises low other → Apart own other
      → Rises low (merged own other)
  unfolding Rises merged
  merged_rises low [] other one two apart = two
  merged_rises low (call ∷ own) other one two apart =
      put_rises low call (merged own other) one.0
      (merged_rises low own other (rises_from low (call.0 + 1) own (omega (arith, one.0)) one.1) two
      (λ place here there. apart place (later_place place call own here) there))
      (λ has. ⊎_elim
      (λ (here : has_place call.0 own ≡ true). absurd (omega (arith, rises_low (call.0 + 1) call.0 own one.1 here)))
      (λ (there : has_place call.0 other ≡ true). apart call.0 (head_place call own) there)
      (merged_has call.0 own other has))
