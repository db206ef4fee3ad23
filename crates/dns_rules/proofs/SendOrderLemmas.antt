-- The order of the sends of a trail: what it begins with, what holds of each number in it, and how many there are.
use Rattle.std.proofs.Common.{◌≡◌, ℕ, zero, suc, ◌+◌, ◌≤◌, ◌<◌, Bool, true, false, ◌==◌, ◌&&◌, List, [], ◌∷◌, ◌++◌, length, Option, None, Some, slice_get, nat_lt, nat_le, if◌then◌else◌, append_assoc, append-nil, refl, sym, ap, ◌∙◌, subst, arith}
use Rattle.std.specs.List.{list_all, range_with_len, AllByRecursion}
use Rattle.std.proofs.lemmas.Bool.{and_parts}
use Rattle.std.proofs.lemmas.Bool.Decides.{nat_tests}
use Rattle.dns_model.specs.declared.trail.AskRef.{AskRef}
use Rattle.dns_model.specs.declared.trail.AskRef.TheVariants.{Step, TooDeep, TooMany}
use Rattle.dns_model.specs.Trails.{AskedValue}
use Rattle.dns_model.proofs.EachLemmas.{each_append}
use Rattle.std.specs.Option.{option_and_then}
use Rattle.dns_rules.specs.Asking.{most_sends}
use Rattle.dns_rules.specs.Derivation.{asks_of, order_asks, order_step}
use Rattle.dns_rules.specs.DerivationParts.{and_then_some}
use Rattle.dns_rules.proofs.SentLemmas.{AreBelow, times, times-cons}

-- ---- what holds of each number that is met

-- a fact of the step that answers an ask
abbrev pub OfAsk : (ℕ → Type 0) → AskRef → Type 0
OfAsk Q (Step n) = Q n
OfAsk Q TooDeep = Unit {0}
OfAsk Q TooMany = Unit {0}

abbrev pub OfAsks : (ℕ → Type 0) → List AskRef → Type 0
OfAsks Q asks = AllByRecursion (OfAsk Q) asks

-- what was met stays in front, and what is met behind it has a fact
pub record Meets (Q : ℕ → Type 0) (met found : List ℕ) : Type 0 where
  pub more : List ℕ
  pub grown : found ≡ met ++ more
  pub each : AllByRecursion Q more

-- visits that meet only steps with a fact
pub record Visits (Q : ℕ → Type 0) (visit : ℕ → List ℕ → Option (List ℕ)) : Type 0 where
  pub visits : (n : ℕ) (met found : List ℕ) → Q n → visit n met ≡ Some found → Meets Q met found

meets_none : (Q : ℕ → Type 0) (met found : List ℕ) → met ≡ found → Meets Q met found
meets_none Q met found same = record { more = []; grown = sym same ∙ sym (append-nil met); each = tt }

meets_then : (Q : ℕ → Type 0) (met middle found : List ℕ) → Meets Q met middle → Meets Q middle found → Meets Q met found
meets_then Q met middle found first second = record {
  more = first.more ++ second.more;
  grown = second.grown ∙ ap (λ t. t ++ second.more) first.grown ∙ append_assoc met first.more second.more;
  each = each_append Q first.more second.more first.each second.each;
}

many_met : (b : Bool) (o : Option (List ℕ)) (found : List ℕ) → (if b then o else None) ≡ Some found → o ≡ Some found
many_met true o found h = h
many_met false o found h = cc

then_meets : (Q : ℕ → Type 0) (met found : List ℕ) (o : Option (List ℕ)) (f : List ℕ → Option (List ℕ)) → and_then_some o f ≡ Some found
    → ((middle : List ℕ) → o ≡ Some middle → Meets Q met middle) → ((middle : List ℕ) → f middle ≡ Some found → Meets Q middle found)
    → Meets Q met found
then_meets Q met found None f h first second = cc
then_meets Q met found (Some middle) f h first second = meets_then Q met middle found (first middle refl) (second middle h)

pub asks_meet : (Q : ℕ → Type 0) (visit : ℕ → List ℕ → Option (List ℕ)) (n : ℕ) (asks : List AskRef) (met found : List ℕ) → Visits Q visit
    → OfAsks Q asks → order_asks visit n asks met ≡ Some found → Meets Q met found
unfolding order_asks
asks_meet Q visit n [] met found v each h = meets_none Q met found cc
asks_meet Q visit n (TooDeep ∷ asks) met found v each h = asks_meet Q visit n asks met found v each.1 h
asks_meet Q visit n (TooMany ∷ asks) met found v each h =
    asks_meet Q visit n asks met found v each.1 (many_met (nat_le most_sends (length met)) (order_asks visit n asks met) found h)
asks_meet Q visit n (Step m ∷ asks) met found v each h =
    then_meets Q met found (visit m met) (order_asks visit n asks)
    (many_met (nat_lt m n && nat_lt (length met) most_sends) (and_then_some (visit m met) (order_asks visit n asks)) found h)
    (λ middle k. v.visits m met middle each.0 k) (λ middle k. asks_meet Q visit n asks middle found v each.1 k)

-- a fact that a step of the trail hands on to those that it asks
pub record HandsOn (Q : ℕ → Type 0) (trail : List AskedValue) : Type 0 where
  pub on : (n : ℕ) (step : AskedValue) → Q n → slice_get trail n ≡ Some step → OfAsks Q (asks_of step)

step_meets_at : (Q : ℕ → Type 0) (trail : List AskedValue) (visit : ℕ → List ℕ
    → Option (List ℕ)) (n : ℕ) (o : Option AskedValue) (met found : List ℕ)
    → HandsOn Q trail → Visits Q visit → Q n → slice_get trail n ≡ o
    → option_and_then (λ s. order_asks visit n (asks_of s) (met ++ n ∷ [])) o ≡ Some found → Meets Q (met ++ n ∷ []) found
step_meets_at Q trail visit n None met found hands v here is h = cc
step_meets_at Q trail visit n (Some step) met found hands v here is h =
    asks_meet Q visit n (asks_of step) (met ++ n ∷ []) found v (hands.on n step here is) h

pub step_visits : (Q : ℕ → Type 0) (trail : List AskedValue) → HandsOn Q trail → (above : ℕ) → Visits Q (order_step above trail)
unfolding order_step
step_visits Q trail hands zero = record { visits = λ n met found here h. cc }
step_visits Q trail hands (suc above) = record {
  visits = λ n met found here h.
      let rest = step_meets_at Q trail (order_step above trail) n (slice_get trail n) met found hands
      (step_visits Q trail hands above) here refl h in
      record { more = n ∷ rest.more; grown = rest.grown ∙ append_assoc met (n ∷ []) rest.more; each = (here, rest.each) };
}

-- the numbers from a step on: the step's, and those of what it asks
pub record BeginsWith (Q : ℕ → Type 0) (n : ℕ) (order : List ℕ) : Type 0 where
  pub rest : List ℕ
  pub is : order ≡ n ∷ rest
  pub each : AllByRecursion Q order

pub step_begins : (Q : ℕ → Type 0) (trail : List AskedValue) (above n : ℕ) (order : List ℕ) → HandsOn Q trail → Q n
    → order_step above trail n [] ≡ Some order → BeginsWith Q n order
unfolding order_step
step_begins Q trail zero n order hands here h = cc
step_begins Q trail (suc above) n order hands here h =
    let rest = step_meets_at Q trail (order_step above trail) n (slice_get trail n) [] order hands
    (step_visits Q trail hands above) here refl h in
    record { rest = rest.more; is = rest.grown; each = subst (AllByRecursion Q) (sym rest.grown) (here, rest.each) }

-- ---- each number once

in_range_step : (test : ℕ → Bool) (a k : ℕ) (t : Bool) → nat_lt a k ≡ t → a ≤ k → test a ≡ true → (a + 1 ≤ k → test k ≡ true)
    → test k ≡ true
in_range_step test a k true is from here later = later (grind (arith, nat_tests))
in_range_step test a k false is from here later =
    let same : a ≡ k = grind (arith, nat_tests) in
    ap test (sym same) ∙ here

pub each_in_range : (test : ℕ → Bool) (a n : ℕ) → list_all test (range_with_len a n) ≡ true → (k : ℕ) → a ≤ k → k < a + n → test k ≡ true
each_in_range test a zero h k from upto = absurd (omega arith)
each_in_range test a (suc n) h k from upto =
    let parts = and_parts (test a) (list_all test (range_with_len (a + 1) n)) h in
    in_range_step test a k (nat_lt a k) refl from parts.0 (λ later. each_in_range test (a + 1) n parts.1 k later (omega arith))

-- how often the numbers below a bound stand in a list
abbrev times_below : ℕ → List ℕ → ℕ
times_below zero order = 0
times_below (suc n) order = times n order + times_below n order

times_none : (n : ℕ) → times_below n [] ≡ 0
times_none zero = refl
times_none (suc n) = let rest = times_none n in omega arith

one_more : (n x : ℕ) (xs : List ℕ) → times_below n (x ∷ xs) ≡ (if nat_lt x n then 1 else 0) + times_below n xs
one_more zero x xs = grind (arith, nat_tests)
one_more (suc n) x xs =
    let here = times-cons n x xs in
    let rest = one_more n x xs in
    let test : (if n == x then 1 else 0) + (if nat_lt x n then 1 else 0) ≡ (if nat_lt x (suc n) then 1 else 0) = grind (arith, nat_tests) in
    omega arith

times_all : (n : ℕ) (order : List ℕ) → AreBelow n order → times_below n order ≡ length order
times_all n [] below = times_none n
times_all n (x ∷ xs) below =
    let first : nat_lt x n ≡ true = grind (arith, nat_tests, below.0) in
    let one = one_more n x xs ∙ ap (λ b. (if b then 1 else 0) + times_below n xs) first in
    let rest = times_all n xs below.1 in
    omega arith

times_each : (n : ℕ) (order : List ℕ) → ((k : ℕ) → k < n → times k order ≡ 1) → times_below n order ≡ n
times_each zero order each = refl
times_each (suc n) order each =
    let here = each n (omega arith) in
    let rest = times_each n order (λ k below. each k (omega arith)) in
    omega arith

-- numbers below a bound, each once, are as many as the bound
pub as_many : (n : ℕ) (order : List ℕ) → AreBelow n order → ((k : ℕ) → k < n → times k order ≡ 1) → length order ≡ n
as_many n order below each = sym (times_all n order below) ∙ times_each n order each
