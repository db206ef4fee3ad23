-- Records of a list that pass a test, one after another.
use Rattle.std.proofs.Common.{◌≡◌, ℕ, zero, suc, ◌+◌, ◌<◌, ◌≤◌, Bool, true, false, cond, ◌||◌, List, [], ◌∷◌, ◌++◌, length, drop, take, refl, sym, ap, ◌∙◌, append-nil}
use Rattle.std.specs.Prelude.{slice_index_or}
use Rattle.std.specs.List.{filter, list_any}
use Rattle.std.proofs.lemmas.List.{drop_more, take_more, take_all}
use Rattle.std.proofs.lemmas.List.Elements.{filter_more}
use Rattle.std.proofs.lemmas.List.Folds.{list_any-append}

at_place : {X Y : Type 0} (f : X → Y) (xs : List X) (i : ℕ) (x : X) → x ≡ slice_index_or xs i x → f (slice_index_or xs i x) ≡ f x
at_place f xs i x is = sym (ap f is)

-- one that passes
pub kept_more : {X : Type 0} (p : X → Bool) (xs : List X) (i : ℕ) (x own : X) (kept more : List X) → i < length xs
    → x ≡ slice_index_or xs i x → p x ≡ true → kept ≡ filter p (take i xs) → own ≡ x → more ≡ kept ++ own ∷ []
    → more ≡ filter p (take (i + 1) xs)
kept_more p xs i x own kept more h at passed before same pushed =
    pushed
    ∙ ap (λ ks. ks ++ own ∷ []) before
    ∙ ap (λ y. filter p (take i xs) ++ y ∷ []) (same ∙ at)
    ∙ ap (λ b. filter p (take i xs) ++ cond b (slice_index_or xs i x ∷ []) []) (sym (at_place p xs i x at ∙ passed))
    ∙ sym (filter_more p xs i x h)

-- one that doesn't
pub left_more : {X : Type 0} (p : X → Bool) (xs : List X) (i : ℕ) (x : X) (kept : List X) → i < length xs
    → x ≡ slice_index_or xs i x → p x ≡ false → kept ≡ filter p (take i xs) → kept ≡ filter p (take (i + 1) xs)
left_more p xs i x kept h at failed before =
    before
    ∙ sym (append-nil (filter p (take i xs)))
    ∙ ap (λ b. filter p (take i xs) ++ cond b (slice_index_or xs i x ∷ []) []) (sym (at_place p xs i x at ∙ failed))
    ∙ sym (filter_more p xs i x h)

or_true : (a b : Bool) → b ≡ true → (a || b) ≡ true
or_true true b h = refl
or_true false b h = h

last_any : (a b : Bool) → (a || (b || false)) ≡ (a || b)
last_any true b = refl
last_any false true = refl
last_any false false = refl

-- whether one passes, once there is one more
pub any_more : {X : Type 0} (p : X → Bool) (xs : List X) (i : ℕ) (x : X) → i < length xs → x ≡ slice_index_or xs i x
    → list_any p (take (i + 1) xs) ≡ (list_any p (take i xs) || p x)
any_more p xs i x h at =
    ap (list_any p) (take_more xs i x h)
    ∙ ap (λ y. list_any p (take i xs ++ y ∷ [])) (sym at)
    ∙ list_any-append p (take i xs) (x ∷ [])
    ∙ last_any (list_any p (take i xs)) (p x)

any_later : {X : Type 0} (p : X → Bool) (xs : List X) (i : ℕ) → list_any p (drop i xs) ≡ true → list_any p xs ≡ true
any_later p [] zero h = h
any_later p [] (suc i) h = h
any_later p (x ∷ xs) zero h = h
any_later p (x ∷ xs) (suc i) h = or_true (p x) (list_any p xs) (any_later p xs i h)

-- one that passes is among all
pub any_at : {X : Type 0} (p : X → Bool) (xs : List X) (i : ℕ) (x : X) → i < length xs → x ≡ slice_index_or xs i x → p x ≡ true
    → list_any p xs ≡ true
any_at p xs i x h at passed =
    any_later p xs i
    (ap (list_any p) (drop_more xs i x h) ∙ ap (λ y. p y || list_any p (drop (i + 1) xs)) (sym at)
    ∙ ap (λ b. b || list_any p (drop (i + 1) xs)) passed)

pub any_all : {X : Type 0} (p : X → Bool) (xs : List X) (i : ℕ) → length xs ≤ i → list_any p (take i xs) ≡ list_any p xs
any_all p xs i h = ap (list_any p) (take_all i xs h)
