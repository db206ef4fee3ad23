-- Bytes that references show, one after another.
use Rattle.std.proofs.Common.{◌≡◌, ℕ, ◌+◌, ◌<◌, ◌≤◌, List, [], ◌∷◌, ◌++◌, length, map, take, refl, sym, ap, ◌∙◌, arith, append_assoc, append-nil}
use Rattle.std.specs.Prelude.{slice_index_or}
use Rattle.std.specs.Borrow.{Bor}
use Rattle.std.proofs.lemmas.List.{get_or_default, length-map, map-append, take_all, take_more}
use Rattle.std.proofs.Math.ListN.{get_or-map}
use Rattle.dns_roll.specs.TrustedText.{texts_of}

pub texts_push : (kept more : List (Bor (List ℕ))) (b : Bor (List ℕ)) → more ≡ kept ++ b ∷ []
    → texts_of more ≡ texts_of kept ++ b.now ∷ []
texts_push kept more b pushed = ap texts_of pushed ∙ map-append (λ (y : Bor (List ℕ)). y.now) kept (b ∷ [])

-- some values come behind what was there
pub put_more : (old now more : List (Bor (List ℕ))) (vs : List (List ℕ)) (i : ℕ) (v : List ℕ) (b : Bor (List ℕ))
    → i < length vs → v ≡ slice_index_or vs i v → b.now ≡ v
    → texts_of now ≡ texts_of old ++ take i vs → more ≡ now ++ b ∷ []
    → texts_of more ≡ texts_of old ++ take (i + 1) vs
put_more old now more vs i v b h at shows before pushed =
    texts_push now more b pushed
    ∙ ap (λ ts. ts ++ b.now ∷ []) before
    ∙ append_assoc (texts_of old) (take i vs) (b.now ∷ [])
    ∙ ap (λ t. texts_of old ++ (take i vs ++ t ∷ [])) (shows ∙ at)
    ∙ sym (ap (λ ts. texts_of old ++ ts) (take_more vs i v h))

pub put_none : (old : List (Bor (List ℕ))) → texts_of old ≡ texts_of old ++ []
put_none old = sym (append-nil (texts_of old))

pub put_all : (old now : List (Bor (List ℕ))) (vs : List (List ℕ)) (i : ℕ) → length vs ≤ i
    → texts_of now ≡ texts_of old ++ take i vs → texts_of now ≡ texts_of old ++ vs
put_all old now vs i h before = before ∙ ap (λ ys. texts_of old ++ ys) (take_all i vs h)

-- ---- values that are made of others

pub made_within : {X : Type 0} (f : X → List ℕ) (xs : List X) (i : ℕ) → i < length xs → i < length (map f xs)
made_within f xs i h = omega (arith, h, length-map xs f)

pub made_end : {X : Type 0} (f : X → List ℕ) (xs : List X) (i : ℕ) → length xs ≤ i → length (map f xs) ≤ i
made_end f xs i h = omega (arith, h, length-map xs f)

pub made_at : {X : Type 0} (f : X → List ℕ) (xs : List X) (i : ℕ) (x : X) → x ≡ slice_index_or xs i x
    → f x ≡ slice_index_or (map f xs) i (f x)
made_at f xs i x is = ap f is ∙ sym (get_or-map f xs i x)

-- ---- the values that references show

pub texts_within : (references : List (Bor (List ℕ))) (i : ℕ) → i < length references → i < length (texts_of references)
texts_within references i h = made_within (λ (r : Bor (List ℕ)). r.now) references i h

pub texts_end : (references : List (Bor (List ℕ))) (i : ℕ) → length references ≤ i → length (texts_of references) ≤ i
texts_end references i h = made_end (λ (r : Bor (List ℕ)). r.now) references i h

pub texts_at : (references : List (Bor (List ℕ))) (i : ℕ) (r : Bor (List ℕ)) → r ≡ slice_index_or references i r
    → r.now ≡ slice_index_or (texts_of references) i r.now
texts_at references i r is = made_at (λ (x : Bor (List ℕ)). x.now) references i r is

-- the reference at a place
abbrev pub item : List (Bor (List ℕ)) → ℕ → Bor (List ℕ)
item references i = slice_index_or references i (record { ref_ptr = (0, 0); now = [] })

pub item_at : (references : List (Bor (List ℕ))) (i : ℕ) → i < length references
    → (item references i).now ≡ slice_index_or (texts_of references) i (item references i).now
item_at references i h = texts_at references i (item references i) (get_or_default references i _ _ h)
