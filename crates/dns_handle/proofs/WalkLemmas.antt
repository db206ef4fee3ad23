-- Walks put together.
use Rattle.std.proofs.Common.{◌≤◌, inl, inr, Result, Ok, Err, ℕ, ◌+◌, List, [], ◌∷◌, ◌++◌, refl, sym, subst, arith, length-append}
use Rattle.dns_handle.specs.declared.error.NetError.{NetError}
use Rattle.dns_handle.specs.Handles.{OrUnsent}
use Rattle.dns_handle.specs.Walks.{Steps, Walked}

-- one send is a walk
pub one_step : {H Q R : Type 0} (sent : H → Q → H → R → Type 0) (a b : H) (q : Q) (r : R) → sent a q b r → Steps sent a ((q, r) ∷ []) b
one_step sent a b q r s = (b, s, refl)

-- two walks joined
pub steps_append : {H Q R : Type 0} (sent : H → Q → H → R → Type 0) (a b c : H) (xs ys : List (Q × R))
    → Steps sent a xs b → Steps sent b ys c → Steps sent a (xs ++ ys) c
steps_append {H} {Q} {R} sent a b c [] ys first rest =
    let P : H → Type 0 = λ h. Steps sent h ys c in subst P (sym first) rest
steps_append sent a b c (x ∷ xs) ys first rest =
    (first.0, first.1, steps_append sent first.0 b c xs ys first.2 rest)

-- a walk and one more send
pub step_more : {H Q R : Type 0} (sent : H → Q → H → R → Type 0) (a b c : H) (xs : List (Q × R)) (q : Q) (r : R)
    → Steps sent a xs b → sent b q c r → Steps sent a (xs ++ (q, r) ∷ []) c
step_more sent a b c xs q r walk s = steps_append sent a b c xs ((q, r) ∷ []) walk (one_step sent b c q r s)

-- standing still is a walk
pub no_walk : {H Q R : Type 0} (sent : H → Q → H → R → Type 0) (a : H) (n m : ℕ) → n ≤ m → Walked sent a a n m
no_walk sent a n m h = record { steps = []; walked = refl; counted = omega arith }

-- a send that is counted is a walk
pub one_walk : {H Q R : Type 0} (sent : H → Q → H → R → Type 0) (a b : H) (q : Q) (r : R) (n m : ℕ)
    → sent a q b r → n + 1 ≤ m → Walked sent a b n m
one_walk sent a b q r n m s h = record { steps = (q, r) ∷ []; walked = one_step sent a b q r s; counted = omega arith }

-- two walks joined, each with its part of the count
pub then_walk : {H Q R : Type 0} (sent : H → Q → H → R → Type 0) (a b c : H) (n k m : ℕ)
    → Walked sent a b n k → Walked sent b c k m → Walked sent a c n m
then_walk sent a b c n k m first rest = record {
  steps = first.steps ++ rest.steps;
  walked = steps_append sent a b c first.steps rest.steps first.walked rest.walked;
  counted = omega (arith, length-append first.steps rest.steps, first.counted, rest.counted);
}

-- a lookup that is counted is a walk, also where memory ran out before the send
pub lookup_walk : {H Q R X : Type 0} (sent : H → Q → H → R → Type 0) (a b : H) (q : Q) (r : R) (result : Result X NetError) (n m : ℕ)
    → OrUnsent a b result (sent a q b r) → n + 1 ≤ m → Walked sent a b n m
lookup_walk sent a b q r (Ok x) n m s h = one_walk sent a b q r n m s h
lookup_walk {H} sent a b q r (Err e) n m s h =
    elim s as (λ _. Walked sent a b n m) [
      | inl made ↦ one_walk sent a b q r n m made h
      | inr none ↦ record { steps = []; walked = sym none.1; counted = omega arith }
    ]
