-- The last of each key is at its place.
use Rattle.std.proofs.Common.{ℕ, ◌≡◌, ◌+◌, ◌<◌, Bool, true, false, cond, List, [], ◌∷◌, ◌++◌, reverse, length, take, get_or, Option, None, Some, slice_get, if◌then◌else◌, refl, sym, ap, ◌∙◌, subst, arith}
use Rattle.std.specs.Option.{option_map_or}
use Rattle.std.specs.BTreeMap.{BTreeMap, get, Updates}
use Rattle.std.specs.Ordering.{is_eq}
use Rattle.std.specs.Map.{lookup}
use Rattle.std.proofs.lemmas.List.{length-reverse, length-take-le, reverse-append, reverse-reverse, take_more}
use Rattle.dns_model.specs.declared.trail.MarkOrigin.{MarkOrigin}
use Rattle.dns_model.specs.declared.trail.MarkOrigin.TheVariants.{Cache}
use Rattle.dns_model.proofs.Lists.{slice_get_appended}
use Rattle.dns_rules.specs.CacheEntries.{EntryValue}
use Rattle.dns_rules.specs.CacheKeys.{CacheKeyValue, key_eq}
use Rattle.dns_rules.proofs.StayLemmas.{slice_get-stays}
use Rattle.dns_cache.specs.KeyLaws.{key_ties}
use Rattle.dns_cache.specs.KeyOrder.{key_cmp}
use Rattle.dns_validation.specs.Machine.{MadeValue, origin_by, origin_of}
use Rattle.dns_validation.specs.MadePlaces.{ArePlaces, origin_at, place_in}

-- ---- places as one more is given out

pub reverse_last : (all : List MadeValue) (m : MadeValue) → reverse (all ++ m ∷ []) ≡ m ∷ reverse all
reverse_last all m = reverse-append all (m ∷ [])

reverse_first : (made : List MadeValue) (m : MadeValue) → reverse (m ∷ made) ≡ reverse made ++ m ∷ []
reverse_first made m = reverse-append (m ∷ []) made

pub no_places : (places : BTreeMap CacheKeyValue ℕ) (all : List MadeValue) → places.entries ≡ [] → all ≡ []
    → ArePlaces places all
no_places places all none empty = λ key.
    ap (λ es. lookup (λ q. is_eq (key_cmp key q)) es) none ∙ sym (ap (λ xs. place_in (reverse xs) key) empty)

same_step : (b : Bool) (x y z : Option ℕ) → x ≡ y → cond b x z ≡ (if b then y else z)
same_step true x y z is = is
same_step false x y z is = refl

pub places_more : (old new : BTreeMap CacheKeyValue ℕ) (all : List MadeValue) (m : MadeValue) (key : CacheKeyValue)
    (n : ℕ) → ArePlaces old all
    → key ≡ m.key → n ≡ length all → Updates key_cmp old new key (Some n) → ArePlaces new (all ++ m ∷ [])
places_more old new all m key n places same count updates = λ k.
    let here : Some n ≡ Some (length (reverse all)) = ap Some (count ∙ sym (length-reverse all)) in
    updates.0 k
    ∙ ap (λ x. cond (is_eq (key_cmp x k)) (Some n) (get key_cmp old k)) same
    ∙ ap (λ b. cond b (Some n) (get key_cmp old k)) (sym (key_ties m.key k))
    ∙ ap (cond (key_eq m.key k) (Some n)) (places k)
    ∙ same_step (key_eq m.key k) (Some n) (Some (length (reverse all))) (place_in (reverse all) k) here
    ∙ ap (λ xs. place_in xs k) (sym (reverse_last all m))

-- as one more of a list is placed
pub places_next : (old new : BTreeMap CacheKeyValue ℕ) (all : List MadeValue) (m : MadeValue) (key : CacheKeyValue)
    (n : ℕ) → ArePlaces old (take n all)
    → n < length all → m ≡ get_or all n m → key ≡ m.key → Updates key_cmp old new key (Some n)
    → ArePlaces new (take (n + 1) all)
places_next old new all m key n places lt is same updates =
    let front : take (n + 1) all ≡ take n all ++ m ∷ [] =
    take_more all n m lt ∙ ap (λ x. take n all ++ x ∷ []) (sym is) in
    let count : n ≡ length (take n all) = sym (length-take-le n all (omega arith)) in
    subst (ArePlaces new) (sym front) (places_more old new (take n all) m key n places same count updates)

-- ---- a walk

pub walked_past : (all earlier : List MadeValue) (m : MadeValue) (e : EntryValue) → all ≡ earlier ++ m ∷ []
    → key_eq m.key e.key ≡ false → origin_of (reverse all) e ≡ origin_of (reverse earlier) e
unfolding origin_of
walked_past all earlier m e is other =
    ap (λ xs. origin_of (reverse xs) e) is ∙ ap (λ xs. origin_of xs e) (reverse_last earlier m)
    ∙ ap (λ b. if b then origin_by m e else origin_of (reverse earlier) e) other

pub walked_to : (all earlier : List MadeValue) (m : MadeValue) (e : EntryValue) → all ≡ earlier ++ m ∷ []
    → key_eq m.key e.key ≡ true → origin_of (reverse all) e ≡ origin_by m e
unfolding origin_of
walked_to all earlier m e is same =
    ap (λ xs. origin_of (reverse xs) e) is ∙ ap (λ xs. origin_of xs e) (reverse_last earlier m)
    ∙ ap (λ b. if b then origin_by m e else origin_of (reverse earlier) e) same

pub walked_all : (all : List MadeValue) (e : EntryValue) → all ≡ [] → origin_of (reverse all) e ≡ Cache
unfolding origin_of
walked_all all e is = ap (λ xs. origin_of (reverse xs) e) is

-- ---- what stands at a place

record IsThere (made : List MadeValue) (place : ℕ) : Type 0 where
  it : MadeValue
  is : slice_get (reverse made) place ≡ Some it

last_there : (m : MadeValue) (made : List MadeValue) → slice_get (reverse (m ∷ made)) (length made) ≡ Some m
last_there m made =
    ap (λ xs. slice_get xs (length made)) (reverse_first made m)
    ∙ ap (slice_get (reverse made ++ m ∷ [])) (sym (length-reverse made)) ∙ slice_get_appended (reverse made) m []

there_by : (m : MadeValue) (made : List MadeValue) (place : ℕ) (o : Option ℕ) (b : Bool)
    → ((n : ℕ) → o ≡ Some n → IsThere made n)
    → (if b then Some (length made) else o) ≡ Some place → IsThere (m ∷ made) place
there_by m made place o true before is =
    let same : length made ≡ place = cc in subst (IsThere (m ∷ made)) same (record { it = m; is = last_there m made })
there_by m made place o false before is =
    let h = before place is in
    record {
      it =
          h.it;
      is =
          ap (λ xs. slice_get xs place) (reverse_first made m)
          ∙ slice_get-stays (reverse made) (m ∷ []) place h.it h.is;
    }

there : (made : List MadeValue) (key : CacheKeyValue) (place : ℕ) → place_in made key ≡ Some place → IsThere made place
there [] key place is = cc
there (m ∷ made) key place is = there_by m made place (place_in made key) (key_eq m.key key) (there made key) is

-- one that was there stays
stays_at : (m : MadeValue) (made : List MadeValue) (e : EntryValue) (o : Option ℕ)
    → ((n : ℕ) → o ≡ Some n → IsThere made n)
    → origin_at (reverse made) e o ≡ origin_at (reverse (m ∷ made)) e o
stays_at m made e None before = refl
stays_at m made e (Some n) before =
    let h = before n refl in
    let now : slice_get (reverse (m ∷ made)) n ≡ Some h.it =
    ap (λ xs. slice_get xs n) (reverse_first made m) ∙ slice_get-stays (reverse made) (m ∷ []) n h.it h.is in
    let By : Option MadeValue → MarkOrigin = λ o. option_map_or (λ x. origin_by x e) o Cache in
    ap By h.is ∙ sym (ap By now)

origin_step : (m : MadeValue) (made : List MadeValue) (e : EntryValue) (o : Option ℕ) (b : Bool)
    → ((n : ℕ) → o ≡ Some n → IsThere made n)
    → origin_of made e ≡ origin_at (reverse made) e o
    → (if b then origin_by m e else origin_of made e) ≡ origin_at (reverse (m ∷ made)) e
    (if b then Some (length made) else o)
origin_step m made e o true before is = sym (ap (λ x. option_map_or (λ y. origin_by y e) x Cache) (last_there m made))
origin_step m made e o false before is = is ∙ stays_at m made e o before

origin_placed : (made : List MadeValue) (e : EntryValue)
    → origin_of made e ≡ origin_at (reverse made) e (place_in made e.key)
unfolding origin_of
origin_placed [] e = refl
origin_placed (m ∷ made) e =
    origin_step m made e (place_in made e.key) (key_eq m.key e.key) (there made e.key) (origin_placed made e)

-- the origin is found at the place
pub origin_found : (places : BTreeMap CacheKeyValue ℕ) (all : List MadeValue) (e : EntryValue) → ArePlaces places all
    → origin_at all e (get key_cmp places e.key) ≡ origin_of (reverse all) e
origin_found places all e are =
    ap (origin_at all e) (are e.key)
    ∙ ap (λ xs. origin_at xs e (place_in (reverse all) e.key)) (sym (reverse-reverse all))
    ∙ sym (origin_placed (reverse all) e)
