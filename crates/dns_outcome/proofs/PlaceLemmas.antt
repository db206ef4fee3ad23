-- The places of sets in a list, as one more set is met.
use Rattle.std.proofs.Common.{◌≡◌, ℕ, suc, ◌<◌, Bool, true, false, ◌&&◌, ◌||◌, ◌==◌, cond, List, [], ◌∷◌, ◌++◌, length, get_or, set, Option, None, Some, refl, sym, ap, ◌∙◌, subst, arith}
use Rattle.std.specs.List.{list_any, find}
use Rattle.std.specs.Ordering.{is_eq}
use Rattle.std.specs.BTreeMap as tree
use Rattle.dns_model.specs.Names.{Labels, name_eq}
use Rattle.dns_model.proofs.TestLemmas.{tied_equal}
use Rattle.dns_model.proofs.Lists.{lookup-same}
use Rattle.dns_outcome.specs.declared.set_key.SetKey.{SetKey}
use Rattle.dns_outcome.specs.declared.set_places.SetPlaces.{SetPlaces}
use Rattle.dns_outcome.specs.Joining.{touched}
use Rattle.dns_outcome.specs.SetKeys.{set_key, set_key_cmp, set_key_total}
use Rattle.dns_outcome.specs.SetPlaces.{place_at_key, place_of, or_place, with_place, next_place, place_in}
use Rattle.dns_outcome.proofs.KeyLemmas.{set_key_ties}

-- keys that the order doesn't tell apart have one place
key_place : (p : SetPlaces) (key other : SetKey) → is_eq (set_key_cmp key other) ≡ true → place_at_key p other ≡ place_at_key p key
key_place p key other tied =
    sym (lookup-same (λ x. is_eq (set_key_cmp key x)) (λ x. is_eq (set_key_cmp other x))
    (λ x. ap is_eq (set_key_total.congr key other x (tied_equal (set_key_cmp key other) tied))) p.places.entries)

-- equal owners and types have one place
pub alike_place : (p : SetPlaces) (owner o : Labels) (rtype k : ℕ) → (name_eq owner o && (rtype == k)) ≡ true
    → place_of p o k ≡ place_of p owner rtype
alike_place p owner o rtype k h = key_place p (set_key owner rtype) (set_key o k) (sym (set_key_ties owner o rtype k) ∙ h)

pub or_none : (o : Option ℕ) → o ≡ or_place o None
or_none None = refl
or_none (Some n) = refl

written_step : (b : Bool) (n : ℕ) (before after : Option ℕ) → (b ≡ true → before ≡ None) → after ≡ cond b (Some n) before
    → after ≡ or_place before (cond b (Some n) None)
written_step true n before after absent is = is ∙ ap (λ o. or_place o (Some n)) (sym (absent refl))
written_step false n before after absent is = is ∙ or_none before

-- a set that had no place is given one
pub placed_anew : (old new : SetPlaces) (key : SetKey) (owner : Labels) (rtype n : ℕ) → key ≡ set_key owner rtype
    → None ≡ place_at_key old key
    → tree.Updates set_key_cmp old.places new.places key (Some n)
    → (o : Labels) (k : ℕ) → place_of new o k ≡ with_place (place_of old) owner rtype n o k
placed_anew old new key owner rtype n is absent updates o k =
    let none : None ≡ place_of old owner rtype = absent ∙ ap (place_at_key old) is in
    let written : place_of new o k ≡ cond (name_eq owner o && (rtype == k)) (Some n) (place_of old o k) =
    updates.0 (set_key o k) ∙ ap (λ x. cond (is_eq (set_key_cmp x (set_key o k))) (Some n) (place_of old o k)) is
    ∙ ap (λ b. cond b (Some n) (place_of old o k)) (sym (set_key_ties owner o rtype k)) in
    written_step (name_eq owner o && (rtype == k)) n (place_of old o k) (place_of new o k) (λ h. alike_place old owner o rtype k h
    ∙ sym none) written

present_step : (b : Bool) (n m : ℕ) (o : Option ℕ) → (b ≡ true → o ≡ Some m) → o ≡ or_place o (cond b (Some n) None)
present_step true n m o is = is refl ∙ ap (λ p. or_place p (Some n)) (sym (is refl))
present_step false n m o is = or_none o

-- a set that has a place keeps it
pub placed_before : (p : SetPlaces) (key : SetKey) (owner : Labels) (rtype n m : ℕ) → key ≡ set_key owner rtype
    → Some m ≡ place_at_key p key
    → (o : Labels) (k : ℕ) → place_of p o k ≡ with_place (place_of p) owner rtype n o k
placed_before p key owner rtype n m is found o k =
    let there : Some m ≡ place_of p owner rtype = found ∙ ap (place_at_key p) is in
    present_step (name_eq owner o && (rtype == k)) n m (place_of p o k) (λ h. alike_place p owner o rtype k h ∙ sym there)

-- ---- places in lists

-- what the place of the first that passes says
pub record IsPlace {X : Type 0} (p : X → Bool) (xs : List X) (i : ℕ) : Type 0 where
  pub within : i < length xs
  pub any : list_any p xs ≡ true
  pub changed : (f : X → X) (x : X) → x ≡ get_or xs i x → touched p f xs ≡ set xs i (f x)
  pub found : (x : X) → x ≡ get_or xs i x → find p xs ≡ Some x

here : {X : Type 0} (p : X → Bool) (x : X) (xs : List X) → p x ≡ true → IsPlace p (x ∷ xs) 0
unfolding touched
here p x xs e = record {
  within = omega arith;
  any = ap (λ b. b || list_any p xs) e;
  changed = λ f y read. ap (λ b. cond b (f x ∷ xs) (x ∷ touched p f xs)) e ∙ ap (λ z. f z ∷ xs) (sym read);
  found = λ y read. ap (λ b. cond b (Some x) (find p xs)) e ∙ ap Some (sym read);
}

there : {X : Type 0} (p : X → Bool) (x : X) (xs : List X) (i : ℕ) → p x ≡ false → IsPlace p xs i → IsPlace p (x ∷ xs) (suc i)
unfolding touched
there p x xs i e is = record {
  within = let h = is.within in omega arith;
  any = ap (λ b. b || list_any p xs) e ∙ is.any;
  changed = λ f y read. ap (λ b. cond b (f x ∷ xs) (x ∷ touched p f xs)) e ∙ ap (λ ys. x ∷ ys) (is.changed f y read);
  found = λ y read. ap (λ b. cond b (Some x) (find p xs)) e ∙ is.found y read;
}

next_step : {X : Type 0} (p : X → Bool) (x : X) (xs : List X) (i : ℕ) (o : Option ℕ) → p x ≡ false → ((j : ℕ) → o ≡ Some j → IsPlace p xs j)
    → next_place o ≡ Some i → IsPlace p (x ∷ xs) i
next_step p x xs i None e later h = cc
next_step p x xs i (Some j) e later h =
    let same : suc j ≡ i = cc in
    subst (IsPlace p (x ∷ xs)) same (there p x xs j e (later j refl))

place_step : {X : Type 0} (p : X → Bool) (x : X) (xs : List X) (i : ℕ) (b : Bool) → p x ≡ b
    → ((j : ℕ) → place_in p xs ≡ Some j → IsPlace p xs j)
    → cond b (Some 0) (next_place (place_in p xs)) ≡ Some i → IsPlace p (x ∷ xs) i
place_step p x xs i true e later h =
    let same : 0 ≡ i = cc in
    subst (IsPlace p (x ∷ xs)) same (here p x xs e)
place_step p x xs i false e later h = next_step p x xs i (place_in p xs) e later h

pub is_place : {X : Type 0} (p : X → Bool) (xs : List X) (i : ℕ) → place_in p xs ≡ Some i → IsPlace p xs i
unfolding place_in
is_place p [] i h = cc
is_place p (x ∷ xs) i h = place_step p x xs i (p x) refl (λ j. is_place p xs j) h

-- where no place is, none passes
pub record IsAbsent {X : Type 0} (p : X → Bool) (xs : List X) : Type 0 where
  pub none : list_any p xs ≡ false
  pub unchanged : (f : X → X) → touched p f xs ≡ xs
  pub missing : find p xs ≡ None

next_none : (o : Option ℕ) → next_place o ≡ None → o ≡ None
next_none None h = refl
next_none (Some n) h = cc

absent_step : {X : Type 0} (p : X → Bool) (x : X) (xs : List X) (b : Bool) → p x ≡ b → (place_in p xs ≡ None → IsAbsent p xs)
    → cond b (Some 0) (next_place (place_in p xs)) ≡ None → IsAbsent p (x ∷ xs)
unfolding touched
absent_step p x xs true e later h = cc
absent_step p x xs false e later h =
    let is = later (next_none (place_in p xs) h) in
    record {
      none = ap (λ b. b || list_any p xs) e ∙ is.none;
      unchanged = λ f. ap (λ b. cond b (f x ∷ xs) (x ∷ touched p f xs)) e
          ∙ ap (λ ys. x ∷ ys) (is.unchanged f);
      missing = ap (λ b. cond b (Some x) (find p xs)) e ∙ is.missing;
    }

pub is_absent : {X : Type 0} (p : X → Bool) (xs : List X) → place_in p xs ≡ None → IsAbsent p xs
unfolding place_in touched
is_absent p [] h = record { none = refl; unchanged = λ f. refl; missing = refl }
is_absent p (x ∷ xs) h = absent_step p x xs (p x) refl (is_absent p xs) h

-- a change that the test doesn't see moves no place
touched_one : {X : Type 0} (p q : X → Bool) (f : X → X) (b : Bool) (x : X) (xs : List X) → p (f x) ≡ p x
    → place_in p (touched q f xs) ≡ place_in p xs
    → place_in p (cond b (f x ∷ xs) (x ∷ touched q f xs)) ≡ cond (p x) (Some 0) (next_place (place_in p xs))
unfolding place_in
touched_one p q f true x xs e later = ap (λ b. cond b (Some 0) (next_place (place_in p xs))) e
touched_one p q f false x xs e later = ap (λ o. cond (p x) (Some 0) (next_place o)) later

pub place-touched : {X : Type 0} (p q : X → Bool) (f : X → X) → ((x : X) → p (f x) ≡ p x) → (xs : List X)
    → place_in p (touched q f xs) ≡ place_in p xs
unfolding place_in touched
place-touched p q f same [] = refl
place-touched p q f same (x ∷ xs) = touched_one p q f (q x) x xs (same x) (place-touched p q f same xs)

-- the place of one more element is the length before it
push_step : (b : Bool) (o one : Option ℕ)
    → cond b (Some 0) (next_place (or_place o one)) ≡ or_place (cond b (Some 0) (next_place o)) (next_place one)
push_step true o one = refl
push_step false None one = refl
push_step false (Some m) one = refl

next_one : (b : Bool) (n : ℕ) → next_place (cond b (Some n) None) ≡ cond b (Some (suc n)) None
next_one true n = refl
next_one false n = refl

pub place-push : {X : Type 0} (p : X → Bool) (xs : List X) (x : X)
    → place_in p (xs ++ x ∷ []) ≡ or_place (place_in p xs) (cond (p x) (Some (length xs)) None)
unfolding place_in
place-push p [] x = refl
place-push p (y ∷ xs) x =
    ap (λ o. cond (p y) (Some 0) (next_place o)) (place-push p xs x)
    ∙ push_step (p y) (place_in p xs) (cond (p x) (Some (length xs)) None)
    ∙ ap (or_place (cond (p y) (Some 0) (next_place (place_in p xs)))) (next_one (p x) (length xs))
