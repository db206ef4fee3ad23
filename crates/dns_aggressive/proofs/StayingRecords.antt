-- Records moved to the front by their flags.
use Rattle.std.proofs.Common.{◌≡◌, ℕ, ◌+◌, ◌<◌, ◌≤◌, Bool, true, false, cond, List, [], ◌∷◌, ◌++◌, length, drop, take, min, get_or, set, refl, sym, ap, ◌∙◌, subst, ⊎_elim, arith}
use Rattle.std.specs.List.{swap}
use Rattle.std.proofs.lemmas.Bool.{cases_lt}
use Rattle.std.proofs.lemmas.List.{drop_more, drop-set-lt, get_or_default, length-set, length-take, take_all, take_more, take_more_set, take-set-le}
use Rattle.std.proofs.lemmas.Grind.{drop_more_same}
use Rattle.std.proofs.lemmas.List.Edits.{length-swap, swap_is}
use Rattle.dns_aggressive.specs.Flags.{flagged}

-- ---- records moved to the front

pub flagged_push : {X : Type 0} (flags : List Bool) (xs : List X) (flag : Bool) (x : X) → length flags ≡ length xs
    → flagged (flags ++ flag ∷ []) (xs ++ x ∷ []) ≡ flagged flags xs ++ cond flag (x ∷ []) []
unfolding flagged
flagged_push [] [] flag x e = refl
flagged_push [] (y ∷ xs) flag x e = cc
flagged_push (f ∷ flags) [] flag x e = cc
flagged_push (true ∷ flags) (y ∷ xs) flag x e = ap (λ ys. y ∷ ys) (flagged_push flags xs flag x (omega (arith, e)))
flagged_push (false ∷ flags) (y ∷ xs) flag x e = flagged_push flags xs flag x (omega (arith, e))

pub record IsSwapped {X : Type 0} (xs ys : List X) (s i : ℕ) (x : X) : Type 0 where
  pub front : take (s + 1) ys ≡ take s xs ++ x ∷ []
  pub back : drop (i + 1) ys ≡ drop (i + 1) xs

swap_below : {X : Type 0} (xs : List X) (s i : ℕ) (x y : X) → s < i → i < length xs
    → IsSwapped xs (set (set xs s x) i y) s i x
swap_below xs s i x y below within = record {
  front = take-set-le (s + 1) (set xs s x) i y (omega (arith, below))
      ∙ take_more_set xs s x (omega (arith, below, within));
  back = drop-set-lt (i + 1) (set xs s x) i y (omega arith) ∙ drop-set-lt (i + 1) xs s x (omega (arith, below));
}

swap_here : {X : Type 0} (xs : List X) (i : ℕ) (x y : X) → i < length xs → IsSwapped xs (set (set xs i x) i y) i i y
swap_here xs i x y within = record {
  front = take_more_set (set xs i x) i y (omega (arith, within, length-set xs i x))
      ∙ ap (λ ys. ys ++ y ∷ []) (take-set-le i xs i x (omega arith));
  back = drop-set-lt (i + 1) (set xs i x) i y (omega arith) ∙ drop-set-lt (i + 1) xs i x (omega arith);
}

-- an element is moved to the place behind those in front
pub swapped : {X : Type 0} (xs ys : List X) (s i : ℕ) (x : X) → s ≤ i → i < length xs → x ≡ get_or xs i x
    → ys ≡ swap xs s i
    → IsSwapped xs ys s i x
swapped xs ys s i x below within read is =
    subst (λ zs. IsSwapped xs zs s i x) (swap_is xs s i x (omega (arith, below, within)) within ∙ sym is)
    (subst (λ y. IsSwapped xs (set (set xs s y) i (get_or xs s x)) s i x) read
    (⊎_elim (λ (h : s < i). swap_below xs s i x (get_or xs s x) h within)
    (λ (h : i ≤ s).
    let same : i ≡ s = omega (arith, h, below) in
    subst (λ n. IsSwapped xs (set (set xs n x) i (get_or xs n x)) n i x) same
    (subst (λ y. IsSwapped xs (set (set xs i x) i y) i i x) read (swap_here xs i x x within)))
    (cases_lt s i)))

-- of so many elements those whose flag is set stand in front, and the others are still where they were
pub record IsPacked {X : Type 0} (flags : List Bool) (old new : List X) (s i : ℕ) : Type 0 where
  pub front : take s new ≡ flagged (take i flags) (take i old)
  pub back : drop i new ≡ drop i old
  pub below : s ≤ i
  pub long : length new ≡ length old

pub packed_none : {X : Type 0} (flags : List Bool) (old : List X) → IsPacked flags old old 0 0
unfolding flagged
packed_none flags old = record { front = refl; back = refl; below = omega arith; long = refl }

same_item : {X : Type 0} (old new : List X) (i : ℕ) (d : X) → drop i new ≡ drop i old → i < length old → i < length new
    → get_or new i d ≡ get_or old i d
same_item old new i d back w v =
    let e = sym (drop_more new i d v) ∙ back ∙ drop_more old i d w in
    ap (λ ys. get_or ys 0 d) e

flagged_more : {X : Type 0} (flags : List Bool) (old : List X) (i : ℕ) (flag : Bool) (x : X) → length flags ≡ length old
    → i < length flags → i < length old → flag ≡ get_or flags i flag → x ≡ get_or old i x
    → flagged (take (i + 1) flags) (take (i + 1) old) ≡ flagged (take i flags) (take i old) ++ cond flag (x ∷ []) []
flagged_more flags old i flag x long v w f g =
    ap (λ fs. flagged fs (take (i + 1) old)) (take_more flags i flag v)
    ∙ ap (flagged (take i flags ++ get_or flags i flag ∷ [])) (take_more old i x w)
    ∙ ap (λ b. flagged (take i flags ++ b ∷ []) (take i old ++ get_or old i x ∷ [])) (sym f)
    ∙ ap (λ y. flagged (take i flags ++ flag ∷ []) (take i old ++ y ∷ [])) (sym g)
    ∙ flagged_push (take i flags) (take i old) flag x (length-take i flags ∙ ap (min i) long ∙ sym (length-take i old))

nothing_more : {X : Type 0} (xs : List X) → xs ++ [] ≡ xs
nothing_more [] = refl
nothing_more (x ∷ xs) = ap (λ ys. x ∷ ys) (nothing_more xs)

pub packed_over : {X : Type 0} (flags : List Bool) (old new : List X) (s i : ℕ) (d : X) → length flags ≡ length old
    → i < length flags
    → false ≡ get_or flags i false → IsPacked flags old new s i → IsPacked flags old new s (i + 1)
packed_over flags old new s i d long within unset h =
    let w : i < length old = omega (arith, long, within) in
    let v : i < length new = let l = h.long in omega (arith, w, l) in
    record {
      front = h.front ∙ sym (flagged_more flags old i false (get_or old i d) long within w unset
          (get_or_default old i d (get_or old i d) w)
          ∙ nothing_more (flagged (take i flags) (take i old)));
      back = drop_more_same new old i h.back;
      below = let b = h.below in omega (arith, b);
      long = h.long;
    }

pub packed_more : {X : Type 0} (flags : List Bool) (old new after : List X) (s i : ℕ) (d : X)
    → length flags ≡ length old → i < length flags
    → true ≡ get_or flags i true → after ≡ swap new s i → IsPacked flags old new s i
    → IsPacked flags old after (s + 1) (i + 1)
packed_more flags old new after s i d long within set_ is h =
    let w : i < length old = omega (arith, long, within) in
    let v : i < length new = let l = h.long in omega (arith, w, l) in
    let x = get_or new i d in
    let there : x ≡ get_or old i d = same_item old new i d h.back w v in
    let moved = swapped new after s i x h.below v (get_or_default new i d x v) is in
    record {
      front = moved.front ∙ ap (λ ys. ys ++ x ∷ []) h.front
          ∙ sym (flagged_more flags old i true x long within w set_ (there ∙ get_or_default old i d x w));
      back = moved.back ∙ drop_more_same new old i h.back;
      below = let b = h.below in omega (arith, b);
      long = ap length is ∙ length-swap new s i ∙ h.long;
    }

-- all are gone through
pub packed_all : {X : Type 0} (flags : List Bool) (old new : List X) (s i : ℕ) → length flags ≡ length old
    → length flags ≤ i
    → IsPacked flags old new s i → take s new ≡ flagged flags old
packed_all flags old new s i long end h =
    h.front ∙ ap (λ fs. flagged fs (take i old)) (take_all i flags end)
    ∙ ap (flagged flags) (take_all i old (omega (arith, end, long)))
