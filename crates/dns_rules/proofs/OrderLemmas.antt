-- How asks are met: one after another, and a step before what it asks.
use Rattle.std.proofs.Common.{◌≡◌, ℕ, suc, ◌≤◌, ◌<◌, Bool, true, false, ◌&&◌, List, [], ◌∷◌, ◌++◌, length, Option, None, Some, slice_get, nat_lt, nat_le, if◌then◌else◌, refl, sym, ap, ◌∙◌}
use Rattle.std.proofs.lemmas.Bool.{lt-ltb, le-leb, and_from}
use Rattle.dns_model.specs.declared.trail.AskRef.{AskRef}
use Rattle.dns_model.specs.declared.trail.AskRef.TheVariants.{Step, TooDeep, TooMany}
use Rattle.dns_model.specs.Trails.{AskedValue}
use Rattle.std.specs.Option.{option_and_then}
use Rattle.dns_rules.specs.Asking.{most_sends}
use Rattle.dns_rules.specs.Derivation.{asks_of, order_asks, order_step}
use Rattle.dns_rules.specs.DerivationParts.{and_then_some}

pub then_then : {X Y Z : Type 0} (o : Option X) (f : X → Option Y) (g : Y → Option Z)
    → and_then_some (and_then_some o f) g ≡ and_then_some o (λ x. and_then_some (f x) g)
then_then None f g = refl
then_then (Some x) f g = refl

if_then : {X Y : Type 0} (b : Bool) (o : Option X) (f : X → Option Y)
    → and_then_some (if b then o else None) f ≡ (if b then and_then_some o f else None)
if_then true o f = refl
if_then false o f = refl

pub agree_then : {X Y : Type 0} (o : Option X) (f g : X → Option Y) → ((x : X) → f x ≡ g x) → and_then_some o f ≡ and_then_some o g
agree_then None f g same = refl
agree_then (Some x) f g same = same x

-- asks are met one after another
pub order_asks-append : (visit : ℕ → List ℕ → Option (List ℕ)) (n : ℕ) (xs ys : List AskRef) (met : List ℕ)
    → order_asks visit n (xs ++ ys) met ≡ and_then_some (order_asks visit n xs met) (order_asks visit n ys)
unfolding order_asks
order_asks-append visit n [] ys met = refl
order_asks-append visit n (TooDeep ∷ xs) ys met = order_asks-append visit n xs ys met
order_asks-append visit n (TooMany ∷ xs) ys met =
    ap (λ o. if nat_le most_sends (length met) then o else None) (order_asks-append visit n xs ys met)
    ∙ sym (if_then (nat_le most_sends (length met)) (order_asks visit n xs met) (order_asks visit n ys))
order_asks-append visit n (Step m ∷ xs) ys met =
    let test = nat_lt m n && nat_lt (length met) most_sends in
    ap (λ o. if test then o else None)
    (agree_then (visit m met) (order_asks visit n (xs ++ ys)) (λ k. and_then_some (order_asks visit n xs k) (order_asks visit n ys))
    (order_asks-append visit n xs ys)
    ∙ sym (then_then (visit m met) (order_asks visit n xs) (order_asks visit n ys)))
    ∙ sym (if_then test (and_then_some (visit m met) (order_asks visit n xs)) (order_asks visit n ys))

pub order_none : (visit : ℕ → List ℕ → Option (List ℕ)) (n : ℕ) (met : List ℕ) → order_asks visit n [] met ≡ Some met
unfolding order_asks
order_none visit n met = refl

pub order_deep : (visit : ℕ → List ℕ → Option (List ℕ)) (n : ℕ) (met : List ℕ) → order_asks visit n (TooDeep ∷ []) met ≡ Some met
unfolding order_asks
order_deep visit n met = refl

-- an ask that is refused as one too many, where as many as may be were met
pub order_many : (visit : ℕ → List ℕ → Option (List ℕ)) (n : ℕ) (met : List ℕ) → most_sends ≤ length met
    → order_asks visit n (TooMany ∷ []) met ≡ Some met
unfolding order_asks
order_many visit n met many = ap (λ b. if b then Some met else None) (le-leb most_sends (length met) many)

-- a step that is met
pub order_one : (visit : ℕ → List ℕ → Option (List ℕ)) (n m : ℕ) (met found : List ℕ) → m < n → length met < most_sends
    → visit m met ≡ Some found
    → order_asks visit n (Step m ∷ []) met ≡ Some found
unfolding order_asks
order_one visit n m met found before few is =
    ap (λ b. if b then and_then_some (visit m met) (order_asks visit n []) else None)
    (and_from (nat_lt m n) (nat_lt (length met) most_sends) (lt-ltb m n before) (lt-ltb (length met) most_sends few))
    ∙ ap (λ o. and_then_some o (order_asks visit n [])) is

-- a step of the trail is met, and then its asks
pub order_step_at : (above : ℕ) (trail : List AskedValue) (n : ℕ) (met : List ℕ) (step : AskedValue) → slice_get trail n ≡ Some step
    → order_step (suc above) trail n met ≡ order_asks (order_step above trail) n (asks_of step) (met ++ n ∷ [])
unfolding order_step
order_step_at above trail n met step is =
    ap (λ o. option_and_then (λ s. order_asks (order_step above trail) n (asks_of s) (met ++ n ∷ [])) o) is
