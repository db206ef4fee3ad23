-- Lists in which an element passes a test, and names above others: what the law of grounds stands on.
use Rattle.std.proofs.Common.{◌≡◌, ℕ, zero, suc, Bool, true, false, ◌||◌, cond, List, [], ◌∷◌, ◌++◌, Option, None, Some, slice_get, refl, ap, ◌∙◌}
use Rattle.std.specs.List.{find, list_any, AllByRecursion}
use Rattle.std.proofs.lemmas.List.Folds.{list_any-append}
pub use Rattle.std.proofs.lemmas.Map.Keys.{any_passes_from_place as any_at}
use Rattle.dns_model.specs.Names.{Label, Labels, lowered, parent, at_or_above}
use Rattle.dns_model.proofs.AboveLemmas.{above_itself, below_made}

-- ---- an element that passes

any_step : (a b c d : Bool) → (a ≡ true → c ≡ true) → (b ≡ true → d ≡ true) → (a || b) ≡ true → (c || d) ≡ true
any_step true b c d one rest h = ap (λ x. x || d) (one refl)
any_step false b true d one rest h = refl
any_step false b false d one rest h = rest h

-- what passes one test passes another
pub any_more : {X : Type 0} (p q : X → Bool) → ((x : X) → p x ≡ true → q x ≡ true) → (xs : List X) → list_any p xs ≡ true
    → list_any q xs ≡ true
any_more p q more [] h = cc
any_more p q more (x ∷ xs) h = any_step (p x) (list_any p xs) (q x) (list_any q xs) (more x) (any_more p q more xs) h

pub any_front : {X : Type 0} (p : X → Bool) (xs ys : List X) → list_any p xs ≡ true → list_any p (xs ++ ys) ≡ true
any_front p xs ys h = list_any-append p xs ys ∙ ap (λ b. b || list_any p ys) h

pub each_at : {X : Type 0} (P : X → Type 0) (xs : List X) (n : ℕ) (x : X) → AllByRecursion P xs → slice_get xs n ≡ Some x → P x
each_at P [] n x each is = cc
each_at P (y ∷ xs) zero x each is = let same : y ≡ x = cc in rw same at each.0
each_at P (y ∷ xs) (suc n) x each is = each_at P xs n x each.1 is

found_any_step : {X : Type 0} (q : X → Bool) (b c rest : Bool) (x y : X) (found : Option X) → q x ≡ c → q y ≡ true
    → cond b (Some x) found ≡ Some y → (found ≡ Some y → rest ≡ true) → (c || rest) ≡ true
found_any_step q b true rest x y found is h e later = refl
found_any_step q true false rest x y found is h e later = let same : x ≡ y = cc in cc
found_any_step q false false rest x y found is h e later = later e

-- what is found by one test and passes another
pub found_any : {X : Type 0} (p q : X → Bool) (xs : List X) (y : X) → find p xs ≡ Some y → q y ≡ true → list_any q xs ≡ true
found_any p q [] y is h = cc
found_any p q (x ∷ xs) y is h = found_any_step q (p x) (q x) (list_any q xs) x y (find p xs) refl h is (λ e. found_any p q xs y e h)

none_step : {X : Type 0} (b rest : Bool) (x : X) (found : Option X) → cond b (Some x) found ≡ None → (found ≡ None → rest ≡ false)
    → (b || rest) ≡ false
none_step true rest x found e later = cc
none_step false rest x found e later = later e

-- where none is found none passes
pub none_any : {X : Type 0} (p : X → Bool) (xs : List X) → find p xs ≡ None → list_any p xs ≡ false
none_any p [] is = refl
none_any p (x ∷ xs) is = none_step (p x) (list_any p xs) x (find p xs) is (none_any p xs)

-- ---- names

-- a name is below that without its first label
pub above_label : (label : Label) (name : Labels) → at_or_above name (label ∷ name) ≡ true
above_label label name = below_made name (label ∷ name) (record { front = lowered label ∷ []; whole = refl })

pub parent_above : (name : Labels) → at_or_above (parent name) name ≡ true
parent_above [] = above_itself []
parent_above (label ∷ name) = above_label label name
