-- Where steps end in the order of their numbers, each is sent once.
use Rattle.std.proofs.Common.{◌≡◌, ℕ, zero, suc, ◌+◌, ◌≤◌, Bool, true, false, ◌==◌, ◌&&◌, List, [], ◌∷◌, ◌++◌, length, Option, None, Some, slice_get, nat_lt, nat_le, if◌then◌else◌, append_assoc, append-nil, refl, sym, ap, ◌∙◌, arith}
use Rattle.std.specs.Option.{option_and_then}
use Rattle.std.proofs.lemmas.Bool.Decides.{nat_tests}
use Rattle.std.proofs.lemmas.List.Sums.{sum_by-append}
use Rattle.dns_model.specs.declared.trail.AskRef.{AskRef}
use Rattle.dns_model.specs.declared.trail.AskRef.TheVariants.{Step, TooDeep, TooMany}
use Rattle.dns_model.specs.Trails.{AskedValue}
use Rattle.dns_model.proofs.TestLemmas.{if_some}
use Rattle.dns_rules.specs.Asking.{most_sends}
use Rattle.dns_rules.specs.Derivation.{asks_of, order_asks, order_step, end_asks, end_step}
use Rattle.dns_rules.specs.Parts.{once_between}
use Rattle.dns_rules.proofs.SentLemmas.{times, times-cons}
use Rattle.dns_rules.proofs.PartLemmas.{between_none, between_then, between_one}

-- behind what was met each number from a up to, and not including, b is met once, and no other
pub record Once (met found : List ℕ) (a b : ℕ) : Type 0 where
  pub more : List ℕ
  pub grown : found ≡ met ++ more
  pub upward : a ≤ b
  pub once : (i : ℕ) → times i more ≡ once_between a b i

once_none : (met found : List ℕ) (a b : ℕ) → Some met ≡ Some found → Some a ≡ Some b → Once met found a b
once_none met found a b h e =
    let same : met ≡ found = cc in
    let still : a ≡ b = cc in
    record {
      more = [];
      grown = sym same ∙ sym (append-nil met);
      upward = omega arith;
      once = λ i. between_none a i ∙ ap (λ t. once_between a t i) still;
    }

once_then : (met middle found : List ℕ) (a k b : ℕ) → Once met middle a k → Once middle found k b → Once met found a b
once_then met middle found a k b first second = record {
  more = first.more ++ second.more;
  grown = second.grown ∙ ap (λ t. t ++ second.more) first.grown ∙ append_assoc met first.more second.more;
  upward = omega (arith, first.upward, second.upward);
  once = λ i.
      sum_by-append (λ x. if i == x then 1 else 0) first.more second.more
      ∙ ap (λ t. t + times i second.more) (first.once i)
      ∙ ap (λ t. once_between a k i + t) (second.once i) ∙ between_then a k b i first.upward second.upward;
}

-- visits that meet so
pub record VisitsOnce (meet : ℕ → List ℕ → Option (List ℕ)) (finish : ℕ → ℕ → Option ℕ) : Type 0 where
  pub visits : (n : ℕ) (met found : List ℕ) (a b : ℕ) → meet n met ≡ Some found → finish n a ≡ Some b
      → Once met found a b

then_once : (met found : List ℕ) (a b : ℕ) (o : Option (List ℕ)) (p : Option ℕ) (f : List ℕ → Option (List ℕ))
    (g : ℕ → Option ℕ)
    → option_and_then f o ≡ Some found → option_and_then g p ≡ Some b
    → ((middle : List ℕ) (k : ℕ) → o ≡ Some middle → p ≡ Some k → Once met middle a k)
    → ((middle : List ℕ) (k : ℕ) → f middle ≡ Some found → g k ≡ Some b → Once middle found k b) → Once met found a b
then_once met found a b None p f g h e first second = cc
then_once met found a b (Some middle) None f g h e first second = cc
then_once met found a b (Some middle) (Some k) f g h e first second =
    once_then met middle found a k b (first middle k refl refl) (second middle k h e)

asks_once : (meet : ℕ → List ℕ → Option (List ℕ)) (finish : ℕ → ℕ → Option ℕ) (n : ℕ) (asks : List AskRef)
    (met found : List ℕ) (a b : ℕ)
    → VisitsOnce meet finish → order_asks meet n asks met ≡ Some found → end_asks finish asks a ≡ Some b
    → Once met found a b
unfolding order_asks end_asks
asks_once meet finish n [] met found a b v h e = once_none met found a b h e
asks_once meet finish n (TooDeep ∷ asks) met found a b v h e = asks_once meet finish n asks met found a b v h e
asks_once meet finish n (TooMany ∷ asks) met found a b v h e =
    asks_once meet finish n asks met found a b v
    (if_some (nat_le most_sends (length met)) (order_asks meet n asks met) found h).1 e
asks_once meet finish n (Step m ∷ asks) met found a b v h e =
    then_once met found a b (meet m met) (finish m a) (order_asks meet n asks) (end_asks finish asks)
    (if_some (nat_lt m n && nat_lt (length met) most_sends) (option_and_then (order_asks meet n asks) (meet m met)) found h).1 e
    (λ middle k o p. v.visits m met middle a k o p)
    (λ middle k o p. asks_once meet finish n asks middle found k b v o p)

-- a step ends with the next number
end_once : (n : ℕ) (met found : List ℕ) (a b k : ℕ) (test : Bool) → (k == n) ≡ test
    → (if test then Some (n + 1) else None) ≡ Some b
    → Once (met ++ n ∷ []) found a k → Once met found a b
end_once n met found a b k false is e rest = cc
end_once n met found a b k true is e rest =
    let here : k ≡ n = grind (arith, nat_tests) in
    let next : n + 1 ≡ b = cc in
    let upward : a ≤ n = omega (arith, rest.upward) in
    record {
      more = n ∷ rest.more;
      grown = rest.grown ∙ append_assoc met (n ∷ []) rest.more;
      upward = omega arith;
      once = λ i.
          times-cons i n rest.more
          ∙ ap (λ t. (if i == n then 1 else 0) + t) (rest.once i ∙ ap (λ t. once_between a t i) here)
          ∙ between_one a n i upward ∙ ap (λ t. once_between a t i) next;
    }

ends_once : (n : ℕ) (met found : List ℕ) (a b : ℕ) (p : Option ℕ)
    → option_and_then (λ k. if k == n then Some (n + 1) else None) p ≡ Some b
    → ((k : ℕ) → p ≡ Some k → Once (met ++ n ∷ []) found a k) → Once met found a b
ends_once n met found a b None e rest = cc
ends_once n met found a b (Some k) e rest = end_once n met found a b k (k == n) refl e (rest k refl)

step_once_at : (meet : ℕ → List ℕ → Option (List ℕ)) (finish : ℕ → ℕ → Option ℕ) (n : ℕ) (o : Option AskedValue)
    (met found : List ℕ) (a b : ℕ)
    → VisitsOnce meet finish → option_and_then (λ step. order_asks meet n (asks_of step) (met ++ n ∷ [])) o ≡ Some found
    → option_and_then (λ step. option_and_then (λ k. if k == n then Some (n + 1) else None) (end_asks finish (asks_of step) a)) o ≡ Some b
    → Once met found a b
step_once_at meet finish n None met found a b v h e = cc
step_once_at meet finish n (Some step) met found a b v h e =
    ends_once n met found a b (end_asks finish (asks_of step) a) e
    (λ k p. asks_once meet finish n (asks_of step) (met ++ n ∷ []) found a k v h p)

pub step_once : (trail : List AskedValue) (above : ℕ) → VisitsOnce (order_step above trail) (end_step above trail)
unfolding order_step end_step
step_once trail zero = record { visits = λ n met found a b h e. cc }
step_once trail (suc above) = record {
  visits = λ n met found a b h e.
      step_once_at (order_step above trail) (end_step above trail) n (slice_get trail n) met found a b
      (step_once trail above) h e;
}
