-- Lists that are copied one element after another.
use Rattle.std.proofs.Common.{◌≡◌, ℕ, ◌<◌, ◌≤◌, ◌+◌, List, [], ◌∷◌, ◌++◌, map, length, take, slice_index_or, sym, ap, ◌∙◌, arith}
use Rattle.std.proofs.lemmas.List.{map-append, take_all, take_more}

-- a copy of one element more
pub copied : {X : Type 0} (xs seen all more : List X) (i : ℕ) (x next : X) → seen ≡ xs → i < length seen → x ≡ slice_index_or seen i x
    → all ≡ take i xs → next ≡ x → more ≡ all ++ next ∷ [] → more ≡ take (i + 1) xs
copied xs seen all more i x next is long item before same grown =
    grown ∙ ap (λ l. l ++ next ∷ []) before ∙ ap (λ y. take i xs ++ y ∷ []) (same ∙ item ∙ ap (λ l. slice_index_or l i x) is)
    ∙ sym (take_more xs i x (omega (arith, long, ap length is)))

-- the same, of what the elements say
pub copied_as : {X Y : Type 0} (f : X → Y) (xs seen all more : List X) (i : ℕ) (x next : X) → seen ≡ xs → i < length seen
    → x ≡ slice_index_or seen i x → map f all ≡ map f (take i xs) → f next ≡ f x → more ≡ all ++ next ∷ []
    → map f more ≡ map f (take (i + 1) xs)
copied_as f xs seen all more i x next is long item before same grown =
    ap (map f) grown ∙ map-append f all (next ∷ []) ∙ ap (λ l. l ++ f next ∷ []) before
    ∙ ap (λ y. map f (take i xs) ++ y ∷ []) (same ∙ ap f (item ∙ ap (λ l. slice_index_or l i x) is))
    ∙ sym (map-append f (take i xs) (slice_index_or xs i x ∷ [])) ∙ ap (map f) (sym (take_more xs i x (omega (arith, long, ap length is))))

-- a copy of as many elements as there are is a copy of all
pub copied_all : {X : Type 0} (xs seen : List X) (i : ℕ) → seen ≡ xs → length seen ≤ i → take i xs ≡ xs
copied_all xs seen i is end = take_all i xs (omega (arith, end, ap length is))
