-- Lines, one for each value: what stands before their LFs, and what they say.
use Rattle.std.proofs.Common.{◌≡◌, Bool, true, List, [], ◌∷◌, ◌++◌, map, ℕ, Option, Some, refl, ap, ◌∙◌}
use Rattle.std.specs.List.{list_all, flat_map}
use Rattle.std.proofs.lemmas.Bool.{and_parts}
use Rattle.dns_text.proofs.LineShapes.{Line, text_of, is_line}
use Rattle.dns_session.specs.Spelled.{lines_text, Unbroken, Say}
use Rattle.dns_session.proofs.WordLines.{joined, line_is, line_whole}

-- a line for each value
pub lines_are : {X : Type 0} (of : X → Line) (xs : List X)
    → flat_map (λ x. text_of (of x)) xs ≡ lines_text (map (λ x. joined (of x)) xs)
lines_are of [] = refl
lines_are of (x ∷ xs) =
    ap (λ t. t ++ flat_map (λ x. text_of (of x)) xs) (line_is (of x)) ∙ ap (λ t. (joined (of x) ++ 10 ∷ []) ++ t) (lines_are of xs)

pub lines_whole : {X : Type 0} (of : X → Line) (fits : X → Bool) → ((x : X) → fits x ≡ true → is_line (of x) ≡ true)
    → (xs : List X) → list_all fits xs ≡ true → Unbroken (map (λ x. joined (of x)) xs)
lines_whole of fits good [] h = tt
lines_whole of fits good (x ∷ xs) h =
    let parts = and_parts (fits x) (list_all fits xs) h in
    (line_whole (of x) (good x parts.0), lines_whole of fits good xs parts.1)

pub whole_append : (lines more : List (List ℕ)) → Unbroken lines → Unbroken more → Unbroken (lines ++ more)
whole_append [] more first second = second
whole_append (line ∷ lines) more first second = (first.0, whole_append lines more first.1 second)

-- lines that are read one by one say their values
pub all_say : {X Y : Type 0} (form : List ℕ → Option Y) (of : X → Line) (value : X → Y) (fits : X → Bool)
    → ((x : X) → fits x ≡ true → form (joined (of x)) ≡ Some (value x))
    → (xs : List X) → list_all fits xs ≡ true → Say form (map (λ x. joined (of x)) xs) (map value xs)
all_say form of value fits one [] h = refl
all_say form of value fits one (x ∷ xs) h =
    let parts = and_parts (fits x) (list_all fits xs) h in
    rw (one x parts.0, all_say form of value fits one xs parts.1) refl
