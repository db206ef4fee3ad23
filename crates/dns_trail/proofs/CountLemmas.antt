-- The walk that counts: asks one after another, and what it comes to by the order of the sends and that of the ends.
use Rattle.std.proofs.Common.{◌≡◌, ℕ, zero, suc, ◌+◌, ◌<◌, Bool, true, false, ◌==◌, ◌&&◌, List, [], ◌∷◌, ◌++◌, length, Option, None, Some, slice_get, nat_lt, nat_le, if◌then◌else◌, refl, sym, ap, ◌∙◌, arith}
use Rattle.std.specs.Option.{option_and_then}
use Rattle.std.proofs.lemmas.Bool.Decides.{nat_tests}
use Rattle.std.proofs.lemmas.List.{length_push}
use Rattle.dns_model.specs.declared.trail.AskRef.{AskRef}
use Rattle.dns_model.specs.declared.trail.AskRef.TheVariants.{Step, TooDeep, TooMany}
use Rattle.dns_model.specs.Trails.{AskedValue}
use Rattle.dns_rules.specs.Asking.{most_sends}
use Rattle.dns_rules.specs.Derivation.{asks_of, order_asks, order_step, end_asks, end_step}
use Rattle.dns_rules.specs.DerivationParts.{and_then_some}
use Rattle.dns_rules.proofs.OrderLemmas.{then_then, agree_then}
use Rattle.dns_trail.specs.declared.order.Counts.{Counts}
use Rattle.dns_trail.specs.Counting.{count_ask, count_asks, count_step, one_sent, end_at}

-- ---- asks one after another

pub count_asks-append : (visit : ℕ → Counts → Option Counts) (n : ℕ) (xs ys : List AskRef) (counts : Counts)
    → count_asks visit n (xs ++ ys) counts ≡ and_then_some (count_asks visit n xs counts) (count_asks visit n ys)
unfolding count_asks
count_asks-append visit n [] ys counts = refl
count_asks-append visit n (x ∷ xs) ys counts =
    agree_then (count_ask visit n x counts) (count_asks visit n (xs ++ ys))
    (λ c. and_then_some (count_asks visit n xs c) (count_asks visit n ys))
    (count_asks-append visit n xs ys)
    ∙ sym (then_then (count_ask visit n x counts) (count_asks visit n xs) (count_asks visit n ys))

-- ---- by the two orders

-- what was met so far, with how many have ended
abbrev pub counts_of : List ℕ → ℕ → Counts
counts_of met ended = record { sent = length met; ended = ended }

abbrev pub both : Option (List ℕ) → Option ℕ → Option Counts
both None ended = None
both (Some met) None = None
both (Some met) (Some ended) = Some (counts_of met ended)

both_none : (o : Option (List ℕ)) → both o None ≡ None
both_none None = refl
both_none (Some met) = refl

both_then : (o : Option (List ℕ)) (p : Option ℕ) (f : Counts → Option Counts) (g : List ℕ → Option (List ℕ))
    (h : ℕ → Option ℕ)
    → ((met : List ℕ) (ended : ℕ) → f (counts_of met ended) ≡ both (g met) (h ended))
    → option_and_then f (both o p) ≡ both (option_and_then g o) (option_and_then h p)
both_then None p f g h same = refl
both_then (Some met) None f g h same = sym (both_none (g met))
both_then (Some met) (Some ended) f g h same = same met ended

-- visits that count what the two orders give
pub record Counted (visit : ℕ → Counts → Option Counts) (meet : ℕ → List ℕ → Option (List ℕ)) (finish : ℕ → ℕ → Option ℕ) : Type 0 where
  pub is : (n : ℕ) (met : List ℕ) (ended : ℕ) → visit n (counts_of met ended) ≡ both (meet n met) (finish n ended)

many_counted : (b : Bool) (c : Counts) (f : Counts → Option Counts) (o : Option (List ℕ)) (p : Option ℕ)
    → f c ≡ both o p
    → option_and_then f (if b then Some c else None) ≡ both (if b then o else None) p
many_counted true c f o p same = same
many_counted false c f o p same = refl

sent_counted : (b : Bool) (visited : Option Counts) (f : Counts → Option Counts) (o : Option (List ℕ)) (p : Option ℕ)
    → option_and_then f visited ≡ both o p
    → option_and_then f (if b then visited else None) ≡ both (if b then o else None) p
sent_counted true visited f o p same = same
sent_counted false visited f o p same = refl

asks_counted : (visit : ℕ → Counts → Option Counts) (meet : ℕ → List ℕ → Option (List ℕ)) (finish : ℕ → ℕ → Option ℕ)
    (n : ℕ) (asks : List AskRef)
    (met : List ℕ) (ended : ℕ) → Counted visit meet finish
    → count_asks visit n asks (counts_of met ended) ≡ both (order_asks meet n asks met) (end_asks finish asks ended)
unfolding count_asks count_ask order_asks end_asks
asks_counted visit meet finish n [] met ended v = refl
asks_counted visit meet finish n (TooDeep ∷ asks) met ended v = asks_counted visit meet finish n asks met ended v
asks_counted visit meet finish n (TooMany ∷ asks) met ended v =
    many_counted (nat_le most_sends (length met)) (counts_of met ended) (count_asks visit n asks)
    (order_asks meet n asks met) (end_asks finish asks ended)
    (asks_counted visit meet finish n asks met ended v)
asks_counted visit meet finish n (Step m ∷ asks) met ended v =
    sent_counted (nat_lt m n && nat_lt (length met) most_sends) (visit m (counts_of met ended))
    (count_asks visit n asks)
    (option_and_then (order_asks meet n asks) (meet m met)) (option_and_then (end_asks finish asks) (finish m ended))
    (ap (option_and_then (count_asks visit n asks)) (v.is m met ended)
    ∙ both_then (meet m met) (finish m ended) (count_asks visit n asks) (order_asks meet n asks) (end_asks finish asks)
    (λ found k. asks_counted visit meet finish n asks found k v))

end_counted : (b : Bool) (n : ℕ) (met : List ℕ)
    → (if b then Some (counts_of met (n + 1)) else None) ≡ both (Some met) (if b then Some (n + 1) else None)
end_counted true n met = refl
end_counted false n met = refl

ends_counted : (n : ℕ) (o : Option (List ℕ)) (p : Option ℕ)
    → option_and_then (end_at n) (both o p) ≡ both o (option_and_then (λ k. if k == n then Some (n + 1) else None) p)
ends_counted n None p = refl
ends_counted n (Some met) None = refl
ends_counted n (Some met) (Some k) = end_counted (k == n) n met

step_counted_at : (visit : ℕ → Counts → Option Counts) (meet : ℕ → List ℕ → Option (List ℕ)) (finish : ℕ → ℕ → Option ℕ)
    (n : ℕ) (o : Option AskedValue)
    (met : List ℕ) (ended : ℕ) → Counted visit meet finish
    → option_and_then (λ step. option_and_then (end_at n) (count_asks visit n (asks_of step) (one_sent (counts_of met ended)))) o
    ≡ both (option_and_then (λ step. order_asks meet n (asks_of step) (met ++ n ∷ [])) o)
    (option_and_then (λ step. option_and_then (λ k. if k == n then Some (n + 1) else None) (end_asks finish (asks_of step) ended)) o)
step_counted_at visit meet finish n None met ended v = refl
step_counted_at visit meet finish n (Some step) met ended v =
    ap (λ k. option_and_then (end_at n) (count_asks visit n (asks_of step) (record { sent = k; ended = ended })))
    (sym (length_push met n))
    ∙ ap (option_and_then (end_at n)) (asks_counted visit meet finish n (asks_of step) (met ++ n ∷ []) ended v)
    ∙ ends_counted n (order_asks meet n (asks_of step) (met ++ n ∷ [])) (end_asks finish (asks_of step) ended)

pub step_counted : (trail : List AskedValue) (above : ℕ)
    → Counted (count_step above trail) (order_step above trail) (end_step above trail)
unfolding count_step order_step end_step
step_counted trail zero = record { is = λ n met ended. refl }
step_counted trail (suc above) = record {
  is = λ n met ended.
      step_counted_at (count_step above trail) (order_step above trail) (end_step above trail) n
      (slice_get trail n) met ended (step_counted trail above);
}

-- ---- the first number may be any above the step's

if_before : (before few : Bool) (x y : Option Counts) → (before ≡ true → x ≡ y)
    → (if before && few then x else None) ≡ (if before && few then y else None)
if_before true true x y same = same refl
if_before true false x y same = refl
if_before false few x y same = refl

is_before : (m n : ℕ) → nat_lt m n ≡ true → m < n
is_before m n is = grind (arith, nat_tests)

ask_agrees : (visit other : ℕ → Counts → Option Counts) (n : ℕ) (ask : AskRef) (counts : Counts)
    → ((m : ℕ) (c : Counts) → m < n → visit m c ≡ other m c)
    → count_ask visit n ask counts ≡ count_ask other n ask counts
unfolding count_ask
ask_agrees visit other n TooDeep counts same = refl
ask_agrees visit other n TooMany counts same = refl
ask_agrees visit other n (Step m) counts same =
    if_before (nat_lt m n) (nat_lt counts.sent most_sends) (visit m counts) (other m counts)
    (λ is. same m counts (is_before m n is))

asks_agree : (visit other : ℕ → Counts → Option Counts) (n : ℕ) (asks : List AskRef) (counts : Counts)
    → ((m : ℕ) (c : Counts) → m < n → visit m c ≡ other m c)
    → count_asks visit n asks counts ≡ count_asks other n asks counts
unfolding count_asks
asks_agree visit other n [] counts same = refl
asks_agree visit other n (x ∷ xs) counts same =
    ap (option_and_then (count_asks visit n xs)) (ask_agrees visit other n x counts same)
    ∙ agree_then (count_ask other n x counts) (count_asks visit n xs) (count_asks other n xs)
    (λ c. asks_agree visit other n xs c same)

step_agrees_at : (visit other : ℕ → Counts → Option Counts) (n : ℕ) (o : Option AskedValue) (counts : Counts)
    → ((m : ℕ) (c : Counts) → m < n → visit m c ≡ other m c)
    → option_and_then (λ step. option_and_then (end_at n) (count_asks visit n (asks_of step) (one_sent counts))) o
    ≡ option_and_then (λ step. option_and_then (end_at n) (count_asks other n (asks_of step) (one_sent counts))) o
step_agrees_at visit other n None counts same = refl
step_agrees_at visit other n (Some step) counts same =
    ap (option_and_then (end_at n)) (asks_agree visit other n (asks_of step) (one_sent counts) same)

pub any_above : (trail : List AskedValue) (a b n : ℕ) (counts : Counts) → n < a → n < b
    → count_step a trail n counts ≡ count_step b trail n counts
unfolding count_step
any_above trail zero b n counts first second = absurd (omega arith)
any_above trail (suc a) zero n counts first second = absurd (omega arith)
any_above trail (suc a) (suc b) n counts first second =
    step_agrees_at (count_step a trail) (count_step b trail) n (slice_get trail n) counts
    (λ m c before. any_above trail a b m c (omega arith) (omega arith))
