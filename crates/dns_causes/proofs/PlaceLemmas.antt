-- The last cause of each key is at its place.
use Rattle.std.proofs.Common.{ℕ, ◌≡◌, Bool, true, false, cond, [], ◌∷◌, ◌++◌, reverse, length, Option, None, Some, slice_get, if◌then◌else◌, refl, sym, ap, ◌∙◌, subst}
use Rattle.std.specs.Option.{option_map}
use Rattle.std.specs.BTreeMap.{BTreeMap, get, Updates}
use Rattle.std.specs.Ordering.{is_eq}
use Rattle.std.specs.Map.{lookup}
use Rattle.std.proofs.lemmas.List.{length-reverse, reverse-append, reverse-reverse}
use Rattle.dns_model.proofs.Lists.{slice_get_appended}
use Rattle.dns_rules.specs.CacheKeys.{CacheKeyValue, key_eq}
use Rattle.dns_rules.specs.ProofErrors.{ProofErrorKindValue}
use Rattle.dns_rules.proofs.StayLemmas.{slice_get-stays}
use Rattle.dns_cache.specs.KeyLaws.{key_ties}
use Rattle.dns_cache.specs.KeyOrder.{key_cmp}
use Rattle.dns_causes.specs.Causes.{Given, given_for}
use Rattle.dns_causes.specs.GivenPlaces.{ArePlaces, cause_at, place_in}

-- ---- places as one more is given

pub reverse_last : (all : Given) (p : CacheKeyValue × ProofErrorKindValue) → reverse (all ++ p ∷ []) ≡ p ∷ reverse all
reverse_last all p = reverse-append all (p ∷ [])

reverse_first : (given : Given) (p : CacheKeyValue × ProofErrorKindValue)
    → reverse (p ∷ given) ≡ reverse given ++ p ∷ []
reverse_first given p = reverse-append (p ∷ []) given

pub no_places : (places : BTreeMap CacheKeyValue ℕ) (all : Given) → places.entries ≡ [] → all ≡ []
    → ArePlaces places all
no_places places all none empty = λ key.
    ap (λ es. lookup (λ q. is_eq (key_cmp key q)) es) none ∙ sym (ap (λ xs. place_in (reverse xs) key) empty)

same_step : (b : Bool) (x y z : Option ℕ) → x ≡ y → cond b x z ≡ (if b then y else z)
same_step true x y z is = is
same_step false x y z is = refl

pub places_more : (old new : BTreeMap CacheKeyValue ℕ) (all : Given) (p : CacheKeyValue × ProofErrorKindValue)
    (key : CacheKeyValue) (n : ℕ)
    → ArePlaces old all → key ≡ p.0 → n ≡ length all → Updates key_cmp old new key (Some n)
    → ArePlaces new (all ++ p ∷ [])
places_more old new all p key n places same count updates = λ k.
    let here : Some n ≡ Some (length (reverse all)) = ap Some (count ∙ sym (length-reverse all)) in
    updates.0 k
    ∙ ap (λ x. cond (is_eq (key_cmp x k)) (Some n) (get key_cmp old k)) same
    ∙ ap (λ b. cond b (Some n) (get key_cmp old k)) (sym (key_ties p.0 k))
    ∙ ap (cond (key_eq p.0 k) (Some n)) (places k)
    ∙ same_step (key_eq p.0 k) (Some n) (Some (length (reverse all))) (place_in (reverse all) k) here
    ∙ ap (λ xs. place_in xs k) (sym (reverse_last all p))

-- the list that was pushed to
pub places_pushed : (old new : BTreeMap CacheKeyValue ℕ) (all more : Given) (p : CacheKeyValue × ProofErrorKindValue)
    (key : CacheKeyValue) (n : ℕ)
    → ArePlaces old all → key ≡ p.0 → n ≡ length all → Updates key_cmp old new key (Some n) → more ≡ all ++ p ∷ []
    → ArePlaces new more
places_pushed old new all more p key n places same count updates pushed =
    subst (ArePlaces new) (sym pushed) (places_more old new all p key n places same count updates)

-- ---- what stands at a place

record IsThere (given : Given) (place : ℕ) : Type 0 where
  it : CacheKeyValue × ProofErrorKindValue
  is : slice_get (reverse given) place ≡ Some it

last_there : (p : CacheKeyValue × ProofErrorKindValue) (given : Given)
    → slice_get (reverse (p ∷ given)) (length given) ≡ Some p
last_there p given =
    ap (λ xs. slice_get xs (length given)) (reverse_first given p)
    ∙ ap (slice_get (reverse given ++ p ∷ [])) (sym (length-reverse given)) ∙ slice_get_appended (reverse given) p []

there_by : (p : CacheKeyValue × ProofErrorKindValue) (given : Given) (place : ℕ) (o : Option ℕ) (b : Bool)
    → ((n : ℕ) → o ≡ Some n → IsThere given n)
    → (if b then Some (length given) else o) ≡ Some place → IsThere (p ∷ given) place
there_by p given place o true before is =
    let same : length given ≡ place = cc in
    subst (IsThere (p ∷ given)) same (record { it = p; is = last_there p given })
there_by p given place o false before is =
    let h = before place is in
    record {
      it =
          h.it;
      is =
          ap (λ xs. slice_get xs place) (reverse_first given p)
          ∙ slice_get-stays (reverse given) (p ∷ []) place h.it h.is;
    }

there : (given : Given) (key : CacheKeyValue) (place : ℕ) → place_in given key ≡ Some place → IsThere given place
there [] key place is = cc
there (p ∷ given) key place is = there_by p given place (place_in given key) (key_eq p.0 key) (there given key) is

-- one that was there stays
stays_at : (p : CacheKeyValue × ProofErrorKindValue) (given : Given) (o : Option ℕ)
    → ((n : ℕ) → o ≡ Some n → IsThere given n)
    → cause_at (reverse given) o ≡ cause_at (reverse (p ∷ given)) o
stays_at p given None before = refl
stays_at p given (Some n) before =
    let h = before n refl in
    let now : slice_get (reverse (p ∷ given)) n ≡ Some h.it =
    ap (λ xs. slice_get xs n) (reverse_first given p) ∙ slice_get-stays (reverse given) (p ∷ []) n h.it h.is in
    ap (option_map (λ q. q.1)) h.is ∙ sym (ap (option_map (λ q. q.1)) now)

cause_step : (p : CacheKeyValue × ProofErrorKindValue) (given : Given) (key : CacheKeyValue) (o : Option ℕ) (b : Bool)
    → ((n : ℕ) → o ≡ Some n → IsThere given n)
    → given_for given key ≡ cause_at (reverse given) o
    → (if b then Some p.1 else given_for given key) ≡ cause_at (reverse (p ∷ given))
    (if b then Some (length given) else o)
cause_step p given key o true before is = sym (ap (option_map (λ q. q.1)) (last_there p given))
cause_step p given key o false before is = is ∙ stays_at p given o before

cause_placed : (given : Given) (key : CacheKeyValue)
    → given_for given key ≡ cause_at (reverse given) (place_in given key)
cause_placed [] key = refl
cause_placed (p ∷ given) key =
    cause_step p given key (place_in given key) (key_eq p.0 key) (there given key) (cause_placed given key)

-- the cause is found at the place
pub cause_found : (places : BTreeMap CacheKeyValue ℕ) (all : Given) (key : CacheKeyValue) → ArePlaces places all
    → cause_at all (get key_cmp places key) ≡ given_for (reverse all) key
cause_found places all key are =
    ap (cause_at all) (are key)
    ∙ ap (λ xs. cause_at xs (place_in (reverse all) key)) (sym (reverse-reverse all))
    ∙ sym (cause_placed (reverse all) key)
