-- How many lines of one form there are, by the numbers of the lines before and after them.
use Rattle.std.proofs.Common.{◌≡◌, ℕ, ◌+◌, List, [], ◌∷◌, length, Option, None, Some, refl, sym, ap, ◌∙◌, arith}
use Rattle.dns_session.specs.LinePlaces.{Place, place, before_more, many, many_in}

number_step : {X : Type 0} (o : Option X) (number : ℕ) (rest : List (List ℕ)) (more : List X × Place)
    → more.1.number ≡ number + 1 + length more.0
    → (before_more o (place number rest) more).1.number ≡ number + length (before_more o (place number rest) more).0
number_step None number rest more h = omega arith
number_step (Some x) number rest more h = omega (arith, h)

number_in : {X : Type 0} (form : List ℕ → Option X) (number : ℕ) (rest : List (List ℕ))
    → (many_in form number rest).1.number ≡ number + length (many_in form number rest).0
unfolding many_in
number_in form number [] = omega arith
number_in form number (line ∷ []) = omega arith
number_in form number (line ∷ next ∷ rest) =
    number_step (form line) number (line ∷ next ∷ rest) (many_in form (number + 1) (next ∷ rest))
    (number_in form (number + 1) (next ∷ rest))

pub number_after : {X : Type 0} (form : List ℕ → Option X) (at : Place)
    → (many form at).1.number ≡ at.number + length (many form at).0
number_after form at = number_in form at.number at.pieces
