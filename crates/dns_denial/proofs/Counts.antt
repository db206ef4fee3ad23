-- A search for each name above a name takes as many steps as it has labels times those of one search.
use Rattle.std.proofs.Common.{◌≡◌, ℕ, ◌+◌, ◌*◌, [], ◌∷◌, length, refl, ap, ◌∙◌, arith}
use Rattle.dns_model.specs.Names.{Label, Labels}
use Rattle.dns_denial.specs.Counts.{steps_above}

pub steps_more : (most : ℕ) (label : Label) (above : Labels) → steps_above most (label ∷ above) ≡ most + steps_above most above
unfolding steps_above
steps_more most label above = refl

pub steps_counted : (most : ℕ) (name : Labels) → steps_above most name ≡ length name * most
unfolding steps_above
steps_counted most [] = grind arith
steps_counted most (label ∷ above) = ap (λ n. most + n) (steps_counted most above) ∙ grind arith
