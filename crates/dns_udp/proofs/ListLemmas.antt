-- Lists: an element that is written, and a list without a first element.
use Rattle.std.proofs.Common.{◌≡◌, ℕ, ◌+◌, ◌<◌, List, [], ◌∷◌, ◌++◌, length, map, take, drop, set, get_or, refl, sym, ap, ◌∙◌, arith}
use Rattle.std.proofs.lemmas.List.Edits.{map_over_more}

-- a loop that changes each element, where the new one is known by what stood there
pub map_over_at : {X : Type 0} (f : X → X) (xs ys : List X) (i : ℕ) (x y : X) → i < length xs
    → ys ≡ map f (take i xs) ++ drop i xs → x ≡ get_or ys i x → y ≡ f (get_or ys i x)
    → set ys i y ≡ map f (take (i + 1) xs) ++ drop (i + 1) xs
map_over_at f xs ys i x y within before read written =
    ap (set ys i) (written ∙ ap f (sym read)) ∙ map_over_more f xs ys i x within before read

-- what is itself without its first element is empty
pub empty_from : {X : Type 0} (xs ys : List X) → xs ≡ ys → ys ≡ drop 1 xs → xs ≡ []
empty_from [] ys h k = refl
empty_from (x ∷ xs) ys h k =
    let same : length (x ∷ xs) ≡ length xs = ap length (h ∙ k) in
    absurd (omega arith)
