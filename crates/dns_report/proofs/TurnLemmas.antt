-- What one turn of a loop adds: the lines of an element, which fits as those before it do.
use Rattle.std.proofs.Common.{◌≡◌, ℕ, ◌<◌, ◌+◌, ◌&&◌, Bool, true, List, [], ◌∷◌, ◌++◌, map, length, take, slice_index_or, append-nil, refl, sym, ap, ◌∙◌}
use Rattle.std.specs.List.{flat_map, list_all}
use Rattle.std.proofs.lemmas.Bool.{and_from}
use Rattle.std.proofs.lemmas.Grind.{flat_map-append}
use Rattle.std.proofs.lemmas.List.{append_assoc, map-append, take_more}
use Rattle.std.proofs.lemmas.List.Folds.{list_all-append}

-- one element more was seen
pub seen_more : {X : Type 0} (xs : List X) (i : ℕ) (x : X) → i < length xs → x ≡ slice_index_or xs i x
    → take (i + 1) xs ≡ take i xs ++ x ∷ []
seen_more xs i x long item = take_more xs i x long ∙ ap (λ y. take i xs ++ y ∷ []) (sym item)

-- the same, of what the elements say
pub said_more : {X Y : Type 0} (f : X → Y) (xs : List X) (i : ℕ) (x : X) → i < length xs → x ≡ slice_index_or xs i x
    → map f (take (i + 1) xs) ≡ map f (take i xs) ++ f x ∷ []
said_more f xs i x long item = ap (map f) (seen_more xs i x long item) ∙ map-append f (take i xs) (x ∷ [])

-- its lines are behind the others
pub lines_more : {Y : Type 0} (line : Y → List ℕ) (seen more : List Y) (y : Y) (start before after : List ℕ)
    → more ≡ seen ++ y ∷ [] → before ≡ start ++ flat_map line seen → after ≡ before ++ line y
    → after ≡ start ++ flat_map line more
lines_more line seen more y start before after is was grown =
    let lines : flat_map line (seen ++ y ∷ []) ≡ flat_map line seen ++ line y =
    flat_map-append line seen (y ∷ []) ∙ ap (λ l. flat_map line seen ++ l) (append-nil (line y)) in
    grown ∙ ap (λ l. l ++ line y) was ∙ append_assoc start (flat_map line seen) (line y)
    ∙ ap (λ l. start ++ l) (sym (ap (flat_map line) is ∙ lines))

-- all that were seen fit
pub fits_more : {Y : Type 0} (fits : Y → Bool) (seen more : List Y) (y : Y) → more ≡ seen ++ y ∷ []
    → list_all fits seen ≡ true → fits y ≡ true → list_all fits more ≡ true
fits_more fits seen more y is before next =
    ap (list_all fits) is ∙ list_all-append fits seen (y ∷ [])
    ∙ and_from (list_all fits seen) (fits y && true) before (and_from (fits y) true next refl)
