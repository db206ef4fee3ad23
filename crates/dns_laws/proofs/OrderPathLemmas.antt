-- The order of the sends and that of the ends, where a step asks once or not at all.
use Rattle.std.proofs.Common.{◌≡◌, ℕ, zero, suc, ◌+◌, ◌≤◌, ◌==◌, List, [], ◌∷◌, ◌++◌, length, Option, None, Some, slice_get, nat_lt, nat_le, append_assoc, append-nil, sym, ap, ◌∙◌, arith, if◌then◌else◌}
use Rattle.std.specs.Prelude.{◌&&◌}
use Rattle.std.specs.Option.{option_and_then}
use Rattle.std.proofs.lemmas.Bool.Decides.{nat_tests}
use Rattle.std.proofs.lemmas.List.{append_cancel_left}
use Rattle.std.proofs.lemmas.Option.{same_Some}
use Rattle.dns_model.specs.declared.trail.AskRef.{AskRef}
use Rattle.dns_model.specs.declared.trail.AskRef.TheVariants.{Step, TooDeep, TooMany}
use Rattle.dns_model.specs.Trails.{AskedValue}
use Rattle.dns_model.proofs.SetLemmas.{number_same}
use Rattle.dns_model.proofs.TestLemmas.{if_some}
use Rattle.dns_rules.specs.Asking.{most_sends}
use Rattle.dns_rules.specs.Derivation.{asks_of, order_asks, order_step, end_asks, end_step}
use Rattle.dns_rules.proofs.OrderLemmas.{order_step_at}
use Rattle.dns_rules.proofs.SendOrderLemmas.{OfAsks, HandsOn, asks_meet, step_visits}

-- ---- what is met begins with the step

abbrev Any : ℕ → Type 0
Any n = Unit {0}

any_asks : (asks : List AskRef) → OfAsks Any asks
any_asks [] = tt
any_asks (Step n ∷ asks) = (tt, any_asks asks)
any_asks (TooDeep ∷ asks) = (tt, any_asks asks)
any_asks (TooMany ∷ asks) = (tt, any_asks asks)

any_hands : (trail : List AskedValue) → HandsOn Any trail
any_hands trail = record { on = λ n step here is. any_asks (asks_of step) }

-- the order goes on from a step with the asks of the step
pub record GoesOn (trail : List AskedValue) (n : ℕ) (step : AskedValue) (met order : List ℕ) : Type 0 where
  pub below : ℕ
  pub asks : order_asks (order_step below trail) n (asks_of step) (met ++ n ∷ []) ≡ Some order
  pub more : List ℕ
  pub grown : order ≡ (met ++ n ∷ []) ++ more

pub goes_on : (above : ℕ) (trail : List AskedValue) (n : ℕ) (step : AskedValue) (met order : List ℕ) → slice_get trail n ≡ Some step
    → order_step above trail n met ≡ Some order → GoesOn trail n step met order
unfolding order_step
goes_on zero trail n step met order is h = cc
goes_on (suc above) trail n step met order is h =
    let asks = sym (order_step_at above trail n met step is) ∙ h in
    let meets = asks_meet Any (order_step above trail) n (asks_of step) (met
    ++ n ∷ []) order (step_visits Any trail (any_hands trail) above) (any_asks (asks_of step)) asks in
    record { below = above; asks = asks; more = meets.more; grown = meets.grown }

-- what is met behind others is the step and what comes after it
pub met_next : (met more rest order : List ℕ) (n : ℕ) → order ≡ met ++ more → order ≡ (met ++ n ∷ []) ++ rest → more ≡ n ∷ rest
met_next met more rest order n whole grown =
    append_cancel_left met more (n ∷ rest) (sym whole ∙ grown ∙ append_assoc met (n ∷ []) rest)

-- where nothing is asked, nothing more is met
pub none_met : (trail : List AskedValue) (n : ℕ) (step : AskedValue) (met order : List ℕ) (on : GoesOn trail n step met order)
    → asks_of step ≡ []
    → on.more ≡ []
unfolding order_asks
none_met trail n step met order on none =
    let whole = same_Some (met ++ n ∷ []) order (sym (ap (λ asks. order_asks (order_step on.below trail) n asks (met ++ n ∷ [])) none)
    ∙ on.asks) in
    append_cancel_left (met ++ n ∷ []) on.more [] (sym on.grown ∙ sym whole ∙ sym (append-nil (met ++ n ∷ [])))

then_same : (o : Option (List ℕ)) (order : List ℕ) → option_and_then (λ met. Some met) o ≡ Some order → o ≡ Some order
then_same None order h = cc
then_same (Some met) order h = h

-- where one step is asked, it is met next
pub one_met : (trail : List AskedValue) (n m : ℕ) (step : AskedValue) (met order : List ℕ) (on : GoesOn trail n step met order)
    → asks_of step ≡ Step m ∷ [] → order_step on.below trail m (met ++ n ∷ []) ≡ Some order
unfolding order_asks
one_met trail n m step met order on one =
    let visit = order_step on.below trail in
    let asked = sym (ap (λ asks. order_asks visit n asks (met ++ n ∷ [])) one) ∙ on.asks in
    then_same (visit m (met ++ n ∷ [])) order
    (if_some (nat_lt m n && nat_lt (length (met ++ n ∷ [])) most_sends)
    (option_and_then (order_asks visit n []) (visit m (met ++ n ∷ []))) order asked).1

-- an ask that is refused as one too many comes behind as many sends as may be
pub many_met : (trail : List AskedValue) (n : ℕ) (step : AskedValue) (met order : List ℕ) (on : GoesOn trail n step met order)
    → asks_of step ≡ TooMany ∷ [] → most_sends ≤ length (met ++ n ∷ [])
unfolding order_asks
many_met trail n step met order on one =
    let visit = order_step on.below trail in
    let asked = sym (ap (λ asks. order_asks visit n asks (met ++ n ∷ [])) one) ∙ on.asks in
    let many = (if_some (nat_le most_sends (length (met ++ n ∷ []))) (order_asks visit n [] (met ++ n ∷ [])) order asked).0 in
    grind (arith, nat_tests)

-- ---- the ends

-- a step ends with its number, and its asks before it
pub record EndsAs (trail : List AskedValue) (n k : ℕ) (step : AskedValue) : Type 0 where
  pub below : ℕ
  pub asks : end_asks (end_step below trail) (asks_of step) 0 ≡ Some n
  pub next : k ≡ n + 1

ended_asks : (o : Option ℕ) (n k : ℕ) → option_and_then (λ i. if i == n then Some (n + 1) else None) o ≡ Some k → (o ≡ Some n) × (k ≡ n + 1)
ended_asks None n k h = cc
ended_asks (Some i) n k h =
    let parts = if_some (i == n) (Some (n + 1)) k h in
    (ap Some (number_same i n parts.0), sym (same_Some (n + 1) k parts.1))

pub ends_as : (over : ℕ) (trail : List AskedValue) (n k : ℕ) (step : AskedValue) → slice_get trail n ≡ Some step
    → end_step over trail n 0 ≡ Some k → EndsAs trail n k step
unfolding end_step
ends_as zero trail n k step is h = cc
ends_as (suc over) trail n k step is h =
    let asked =
    sym (ap (λ o. option_and_then (λ s. option_and_then (λ i. if i == n then Some (n + 1)
    else None) (end_asks (end_step over trail) (asks_of s) 0)) o) is) ∙ h in
    let parts = ended_asks (end_asks (end_step over trail) (asks_of step) 0) n k asked in
    record { below = over; asks = parts.0; next = parts.1 }

-- a step that asks nothing is the first
pub none_ends : (trail : List AskedValue) (n k : ℕ) (step : AskedValue) → EndsAs trail n k step → asks_of step ≡ [] → n ≡ 0
unfolding end_asks
none_ends trail n k step ends none =
    sym (same_Some 0 n (sym (ap (λ asks. end_asks (end_step ends.below trail) asks 0) none) ∙ ends.asks))

then_value : (o : Option ℕ) (n : ℕ) → option_and_then (λ i. Some i) o ≡ Some n → o ≡ Some n
then_value None n h = cc
then_value (Some i) n h = h

-- a step that asks once asks the step before it
pub one_ends : (trail : List AskedValue) (n m k : ℕ) (step : AskedValue) (ends : EndsAs trail n k step) → asks_of step ≡ Step m ∷ []
    → end_step ends.below trail m 0 ≡ Some n
unfolding end_asks
one_ends trail n m k step ends one =
    let visit = end_step ends.below trail in
    then_value (visit m 0) n (sym (ap (λ asks. end_asks visit asks 0) one) ∙ ends.asks)
