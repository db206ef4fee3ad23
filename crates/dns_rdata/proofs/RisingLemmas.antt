-- Byte lists put into a sorted set, from the last to the first.
use Rattle.std.proofs.Common.{◌≡◌, ℕ, ◌-◌, ◌≤◌, ◌<◌, suc, List, [], ◌∷◌, map, length, drop, get_or, refl, sym, ap, ◌∙◌, arith, Ordering}
use Rattle.std.proofs.Math.Seq.{drop-cons}
use Rattle.std.proofs.lemmas.Grind.{common_steps}
use Rattle.std.specs.Ordering.{nat_cmp, match_ordering}
use Rattle.std.specs.declared.cmp.Ordering.TheVariants.{Less, Equal, Greater}
use Rattle.std.specs.Cmp.Lexicographic.{slice_cmp}
use Rattle.std.specs.BTreeSet.{insert_key}
use Rattle.dns_model.specs.Signing.{rising_once, insert_once, placed_by}

placed_same : (order : Ordering) (x y : List ℕ) (ys a b : List (List ℕ)) → a ≡ b
    → match_ordering order (x ∷ y ∷ ys) (y ∷ ys) (y ∷ a) ≡ placed_by order x y ys b
placed_same Less x y ys a b h = refl
placed_same Equal x y ys a b h = refl
placed_same Greater x y ys a b h = ap (λ zs. y ∷ zs) h

-- a sorted set takes in a key as the definition does
insert_same : (x : List ℕ) (ys : List (List ℕ)) → insert_key (slice_cmp nat_cmp) ys x ≡ insert_once x ys
unfolding insert_once
insert_same x [] = refl
insert_same x (y ∷ ys) = placed_same (slice_cmp nat_cmp x y) x y ys (insert_key (slice_cmp nat_cmp) ys x) (insert_once x ys)
    (insert_same x ys)

rising_cons : (x : List ℕ) (xs : List (List ℕ)) → rising_once (x ∷ xs) ≡ insert_once x (rising_once xs)
unfolding rising_once
rising_cons x xs = refl

rising_nil : rising_once [] ≡ []
unfolding rising_once
rising_nil = refl

none_left : {X : Type 0} (xs : List X) → drop (length xs) xs ≡ []
none_left xs = grind (arith, common_steps)

pub rising_start : {X : Type 0} (h : X → List ℕ) (xs : List X) → rising_once (map h (drop (length xs) xs)) ≡ []
rising_start h xs = ap (λ ys. rising_once (map h ys)) (none_left xs) ∙ rising_nil

-- one more item from the front, put into the keys of those behind it
pub rising_more : {X : Type 0} (h : X → List ℕ) (xs : List X) (i : ℕ) (d : X) → 0 < i → i ≤ length xs
    → insert_key (slice_cmp nat_cmp) (rising_once (map h (drop i xs))) (h (get_or xs (i - 1) d)) ≡ rising_once (map h (drop (i - 1) xs))
rising_more h xs i d p q =
    let e : suc (i - 1) ≡ i = omega arith in
    let c = drop-cons xs (i - 1) d (omega arith) ∙ ap (λ n. get_or xs (i - 1) d ∷ drop n xs) e in
    insert_same (h (get_or xs (i - 1) d)) (rising_once (map h (drop i xs)))
    ∙ sym (ap (λ ys. rising_once (map h ys)) c ∙ rising_cons (h (get_or xs (i - 1) d)) (map h (drop i xs)))

-- the same as a step of a loop over the items
pub rising_put : {X : Type 0} (h : X → List ℕ) (xs : List X) (i : ℕ) (x : X) (keys now : List (List ℕ)) (key : List ℕ)
    → 0 < i → i ≤ length xs → x ≡ get_or xs (i - 1) x → key ≡ h x → keys ≡ rising_once (map h (drop i xs))
    → now ≡ insert_key (slice_cmp nat_cmp) keys key → now ≡ rising_once (map h (drop (i - 1) xs))
rising_put h xs i x keys now key p q g f k e =
    e
    ∙ (ap (λ ks. insert_key (slice_cmp nat_cmp) ks key) k
    ∙ (ap (λ y. insert_key (slice_cmp nat_cmp) (rising_once (map h (drop i xs))) y) (f ∙ ap h g) ∙ rising_more h xs i x p q))
