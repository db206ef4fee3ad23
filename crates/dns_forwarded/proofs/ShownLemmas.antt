-- The records of a section that a client is told.
use Rattle.std.proofs.Common.{◌≡◌, ℕ, ◌+◌, ◌<◌, Bool, true, false, List, [], ◌∷◌, ◌++◌, length, map, take, slice_index_or, refl, sym, ap, ◌∙◌, arith, append-nil}
use Rattle.std.specs.List.{filter}
use Rattle.std.proofs.lemmas.List.{map-append, take_more}
use Rattle.std.proofs.lemmas.List.Elements.{filter-append}

-- a record more that is told: lent items stand for what they say
pub shown_more : {X Y : Type 0} (p : X → Bool) (f : Y → X) (xs : List X) (i : ℕ) (y : Y) (all more : List Y)
    → i < length xs → f y ≡ slice_index_or xs i (f y) → p (f y) ≡ true → map f all ≡ filter p (take i xs)
    → more ≡ all ++ y ∷ [] → map f more ≡ filter p (take (i + 1) xs)
shown_more p f xs i y all more long item test before grown =
    let one : filter p (f y ∷ []) ≡ f y ∷ [] = rw test refl in
    ap (map f) grown ∙ map-append f all (y ∷ []) ∙ ap (λ l. l ++ f y ∷ []) before
    ∙ ap (λ l. filter p (take i xs) ++ l) (sym one) ∙ sym (filter-append p (take i xs) (f y ∷ []))
    ∙ ap (filter p) (ap (λ z. take i xs ++ z ∷ []) item ∙ sym (take_more xs i (f y) (omega (arith, long))))

-- one more that isn't
pub shown_same : {X Y : Type 0} (p : X → Bool) (f : Y → X) (xs : List X) (i : ℕ) (x : X) (all : List Y)
    → i < length xs → x ≡ slice_index_or xs i x → p x ≡ false → map f all ≡ filter p (take i xs)
    → map f all ≡ filter p (take (i + 1) xs)
shown_same p f xs i x all long item test before =
    let none : filter p (x ∷ []) ≡ [] = rw test refl in
    let same : filter p (take i xs ++ x ∷ []) ≡ filter p (take i xs) =
    filter-append p (take i xs) (x ∷ []) ∙ ap (λ l. filter p (take i xs) ++ l) none ∙ append-nil
    (filter p (take i xs)) in
    before ∙ sym same ∙ ap (filter p) (ap (λ z. take i xs ++ z ∷ []) item ∙ sym
    (take_more xs i x (omega (arith, long))))
