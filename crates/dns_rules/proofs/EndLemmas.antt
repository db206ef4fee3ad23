-- How asks end: one after another, and a step after what it asks.
use Rattle.std.proofs.Common.{◌≡◌, ℕ, suc, ◌+◌, ◌==◌, List, [], ◌∷◌, ◌++◌, length, Option, None, Some, if◌then◌else◌, refl, sym, ap, ◌∙◌, arith}
use Rattle.std.proofs.lemmas.Bool.Decides.{nat_tests}
use Rattle.std.specs.Option.{option_and_then}
use Rattle.dns_model.specs.declared.trail.AskRef.{AskRef}
use Rattle.dns_model.specs.declared.trail.AskRef.TheVariants.{Step, TooDeep, TooMany}
use Rattle.dns_model.specs.Trails.{AskedValue}
use Rattle.dns_model.proofs.Lists.{slice_get_appended}
use Rattle.dns_rules.specs.Derivation.{asks_of, end_asks, end_step}
use Rattle.dns_rules.proofs.OrderLemmas.{then_then, agree_then}

-- asks end one after another
pub end_asks-append : (visit : ℕ → ℕ → Option ℕ) (xs ys : List AskRef) (ended : ℕ)
    → end_asks visit (xs ++ ys) ended ≡ option_and_then (end_asks visit ys) (end_asks visit xs ended)
unfolding end_asks
end_asks-append visit [] ys ended = refl
end_asks-append visit (TooDeep ∷ xs) ys ended = end_asks-append visit xs ys ended
end_asks-append visit (TooMany ∷ xs) ys ended = end_asks-append visit xs ys ended
end_asks-append visit (Step m ∷ xs) ys ended =
    agree_then (visit m ended) (end_asks visit (xs ++ ys)) (λ k. option_and_then (end_asks visit ys) (end_asks visit xs k))
    (end_asks-append visit xs ys)
    ∙ sym (then_then (visit m ended) (end_asks visit xs) (end_asks visit ys))

pub end_none : (visit : ℕ → ℕ → Option ℕ) (ended : ℕ) → end_asks visit [] ended ≡ Some ended
unfolding end_asks
end_none visit ended = refl

pub end_deep : (visit : ℕ → ℕ → Option ℕ) (ended : ℕ) → end_asks visit (TooDeep ∷ []) ended ≡ Some ended
unfolding end_asks
end_deep visit ended = refl

pub end_many : (visit : ℕ → ℕ → Option ℕ) (ended : ℕ) → end_asks visit (TooMany ∷ []) ended ≡ Some ended
unfolding end_asks
end_many visit ended = refl

pub end_one : (visit : ℕ → ℕ → Option ℕ) (m ended after : ℕ) → visit m ended ≡ Some after → end_asks visit (Step m ∷ []) ended ≡ Some after
unfolding end_asks
end_one visit m ended after is = ap (λ o. option_and_then (end_asks visit []) o) is

ends_at : (n : ℕ) → (if n == n then Some (n + 1) else None) ≡ Some (n + 1)
ends_at n = grind (arith, nat_tests)

-- a step at the end of some steps ends with the next number, where its asks end behind these
pub end_step_at : (above : ℕ) (b later : List AskedValue) (step : AskedValue) (ended : ℕ)
    → end_asks (end_step above (b ++ step ∷ later)) (asks_of step) ended ≡ Some (length b)
    → end_step (suc above) (b ++ step ∷ later) (length b) ended ≡ Some (length b + 1)
unfolding end_step
end_step_at above b later step ended asks =
    ap (λ o. option_and_then (λ s. option_and_then (λ k. if k == length b then Some (length b + 1)
    else None) (end_asks (end_step above (b ++ step ∷ later)) (asks_of s) ended)) o)
    (slice_get_appended b step later)
    ∙ ap (λ o. option_and_then (λ k. if k == length b then Some (length b + 1) else None) o) asks
    ∙ ends_at (length b)
