-- The pairs of a map as the list of a cache.
use Rattle.std.proofs.Common.{◌≡◌, ℕ, zero, suc, ◌+◌, ◌-◌, ◌<◌, ◌≤◌, Bool, true, false, List, [], ◌∷◌, length, take, Option, None, Some, refl, sym, ap, ◌∙◌, subst, arith}
use Rattle.std.specs.Prelude.{nat_lt, if◌then◌else◌}
use Rattle.std.specs.Option.{option_map, option_map_or}
use Rattle.std.specs.List.{IsDistinct, find}
use Rattle.std.specs.Map.{keys_of, lookup, lookup_entry, remove_entry}
use Rattle.std.proofs.lemmas.List.{take_all, take-map}
use Rattle.lru.specs.LruCache.{LruCache, lru_cache, promoted, put_entries}
use Rattle.dns_rules.specs.CacheKeys.{CacheKeyValue, key_eq}
use Rattle.dns_cache.specs.KeyLaws.{key_eq-Decides}
use Rattle.dns_rules.specs.CacheEntries.{EntryValue}
use Rattle.dns_cache.specs.CacheLists.{IsCacheList, after_get, after_insert, has_key, is_hit, without}
use Rattle.dns_cache.specs.KeptEntries.{KeptValue, KeptPair, entry_of, entries_of, listed, IsCacheMap}
use Rattle.dns_cache.proofs.ListLemmas.{apart, empty_is, find_passes, hit_found, is_list-got, is_list-inserted, keys, length-found, none_found, none_hit, none_left_out, none_lives, rest_distinct}

pub same_keys : (pairs : List KeptPair) → keys (entries_of pairs) ≡ keys_of pairs
same_keys [] = refl
same_keys (p ∷ pairs) = ap (λ ks. p.0 ∷ ks) (same_keys pairs)

pub as_found : (key : CacheKeyValue) (pairs : List KeptPair)
    → find (has_key key) (entries_of pairs) ≡ option_map entry_of (lookup_entry (key_eq key) pairs)
as_found key [] = refl
as_found key (p ∷ pairs) = (elim (key_eq key p.0) as (λ b. key_eq key p.0 ≡ b
    → find (has_key key) (entries_of (p ∷ pairs)) ≡ option_map entry_of (lookup_entry (key_eq key) (p ∷ pairs))) [
      | true ↦ λ t. rw t refl
      | false ↦ λ t. rw t (as_found key pairs)
    ]) refl

pub as_looked_up : (key : CacheKeyValue) (pairs : List KeptPair)
    → lookup (key_eq key) pairs ≡ option_map (λ p. p.1) (lookup_entry (key_eq key) pairs)
as_looked_up key [] = refl
as_looked_up key (p ∷ pairs) = (elim (key_eq key p.0) as (λ b. key_eq key p.0 ≡ b
    → lookup (key_eq key) (p ∷ pairs) ≡ option_map (λ q. q.1) (lookup_entry (key_eq key) (p ∷ pairs))) [
      | true ↦ λ t. rw t refl
      | false ↦ λ t. rw t (as_looked_up key pairs)
    ]) refl

-- the pairs without that of a key
pub as_removed : (key : CacheKeyValue) (pairs : List KeptPair) → IsDistinct key_eq (keys (entries_of pairs))
    → entries_of (remove_entry (key_eq key) pairs) ≡ without key (entries_of pairs)
as_removed key [] distinct = refl
as_removed key (p ∷ pairs) distinct =
    (elim (key_eq key p.0) as (λ b. key_eq key p.0 ≡ b
    → entries_of (remove_entry (key_eq key) (p ∷ pairs)) ≡ without key (entries_of (p ∷ pairs))) [
      | true ↦ λ t. rw t (sym (none_left_out key (entries_of pairs) (apart key (entry_of p) (entries_of pairs) distinct t)))
      | false ↦ λ t. rw t (ap (λ es. entry_of p ∷ es) (as_removed key pairs (rest_distinct (entry_of p) (entries_of pairs) distinct)))
    ]) refl

-- ---- what is looked up

pub distinct_keys : (pairs : List KeptPair) → IsDistinct key_eq (keys (entries_of pairs)) → IsDistinct key_eq (keys_of pairs)
distinct_keys pairs distinct = subst (IsDistinct key_eq) (same_keys pairs) distinct

distinct_entries : (pairs : List KeptPair) → IsDistinct key_eq (keys_of pairs) → IsDistinct key_eq (keys (entries_of pairs))
distinct_entries pairs distinct = subst (IsDistinct key_eq) (sym (same_keys pairs)) distinct

-- the value of a key, with that key, is the hit unless it expires
pub live_is : (key : CacheKeyValue) (now : ℕ) (pairs : List KeptPair) (value : KeptValue) → IsDistinct key_eq (keys_of pairs)
    → lookup (key_eq key) pairs ≡ Some value
    → (if nat_lt now value.expires then Some (entry_of (key, value)) else None) ≡ find (is_hit key now) (entries_of pairs)
live_is key now pairs value distinct h = by_pair (lookup_entry (key_eq key) pairs) refl
  where
    by_time : (p : KeptPair) → find (has_key key) (entries_of pairs) ≡ Some (entry_of p) → entry_of p ≡ entry_of (key, value)
        → (lives : Bool) → nat_lt now value.expires ≡ lives
        → (if lives then Some (entry_of (key, value)) else None) ≡ find (is_hit key now) (entries_of pairs)
    by_time p there same true t =
        let lives : nat_lt now (entry_of p).expires ≡ true = ap (λ (e : EntryValue). nat_lt now e.expires) same ∙ t in
        sym (hit_found key now (entries_of pairs) (entry_of p) there lives ∙ ap Some same)
    by_time p there same false t =
        let over : nat_lt now (entry_of p).expires ≡ false = ap (λ (e : EntryValue). nat_lt now e.expires) same ∙ t in
        sym (none_lives key now (entries_of pairs) (entry_of p) (distinct_entries pairs distinct) there over)

    by_pair : (o : Option KeptPair) → lookup_entry (key_eq key) pairs ≡ o
        → (if nat_lt now value.expires then Some (entry_of (key, value)) else None) ≡ find (is_hit key now) (entries_of pairs)
    by_pair None none =
        let nothing : None ≡ Some value = sym (ap (option_map (λ (p : KeptPair). p.1)) none) ∙ sym (as_looked_up key pairs) ∙ h in
        absurd (cc)
    by_pair (Some p) some =
        let kept : Some p.1 ≡ Some value = sym (ap (option_map (λ (q : KeptPair). q.1)) some) ∙ sym (as_looked_up key pairs) ∙ h in
        let there : find (has_key key) (entries_of pairs) ≡ Some (entry_of p) = as_found key pairs ∙ ap (option_map entry_of) some in
        let owner : key ≡ p.0 = (key_eq-Decides key p.0).0 (find_passes (has_key key) (entries_of pairs) (entry_of p) there) in
        let value_is : p.1 ≡ value = cc in
        by_time p there (ap (λ k. entry_of (k, p.1)) (sym owner) ∙ ap (λ v. entry_of (key, v)) value_is) (nat_lt now value.expires) refl

-- a key that isn't there has no hit
pub none_is_hit : (key : CacheKeyValue) (now : ℕ) (pairs : List KeptPair) → lookup (key_eq key) pairs ≡ None
    → find (is_hit key now) (entries_of pairs) ≡ None
none_is_hit key now pairs h = by_pair (lookup_entry (key_eq key) pairs) refl
  where
    by_pair : (o : Option KeptPair) → lookup_entry (key_eq key) pairs ≡ o → find (is_hit key now) (entries_of pairs) ≡ None
    by_pair None none =
        none_hit key now (entries_of pairs) (none_found key (entries_of pairs) (as_found key pairs ∙ ap (option_map entry_of) none))
    by_pair (Some p) some =
        let wrong : Some p.1 ≡ None = sym (ap (option_map (λ (q : KeptPair). q.1)) some) ∙ sym (as_looked_up key pairs) ∙ h in
        absurd (cc)

-- ---- a hit

-- the entry that is found is that of the pair with the key
pub promoted_pairs : (key : CacheKeyValue) (now : ℕ) (pairs : List KeptPair) (e : EntryValue) → IsDistinct key_eq (keys (entries_of pairs))
    → find (is_hit key now) (entries_of pairs) ≡ Some e → entries_of (promoted (key_eq key) pairs) ≡ e ∷ without key (entries_of pairs)
promoted_pairs key now pairs e distinct h =
    (elim (lookup_entry (key_eq key) pairs) as (λ o. lookup_entry (key_eq key) pairs ≡ o
    → entries_of (promoted (key_eq key) pairs) ≡ e ∷ without key (entries_of pairs)) [
      | None ↦ λ none.
          let nowhere : find (has_key key) (entries_of pairs) ≡ None = as_found key pairs ∙ ap (option_map entry_of) none in
          let no_hit : find (is_hit key now) (entries_of pairs) ≡ None =
          none_hit key now (entries_of pairs) (none_found key (entries_of pairs) nowhere) in
          absurd (let wrong : Some e ≡ None = sym h ∙ no_hit in cc)
      | Some p ↦ λ some.
          let there : find (has_key key) (entries_of pairs) ≡ Some (entry_of p) = as_found key pairs ∙ ap (option_map entry_of) some in
          let same : entry_of p ≡ e = is_the_hit key now pairs e p distinct h there (nat_lt now p.1.expires) refl in
          rw some (ap (λ f. f ∷ entries_of (remove_entry (key_eq key) pairs)) same ∙ ap (λ es. e ∷ es) (as_removed key pairs distinct))
    ]) refl
  where
    is_the_hit : (key : CacheKeyValue) (now : ℕ) (pairs : List KeptPair) (e : EntryValue) (p : KeptPair)
        → IsDistinct key_eq (keys (entries_of pairs))
        → find (is_hit key now) (entries_of pairs) ≡ Some e → find (has_key key) (entries_of pairs) ≡ Some (entry_of p)
        → (lives : Bool) → nat_lt now p.1.expires ≡ lives → entry_of p ≡ e
    is_the_hit key now pairs e p distinct h there true t =
        let found : Some (entry_of p) ≡ Some e = sym (hit_found key now (entries_of pairs) (entry_of p) there t) ∙ h in cc
    is_the_hit key now pairs e p distinct h there false t =
        absurd (let wrong : Some e ≡ None = sym h ∙ none_lives key now (entries_of pairs) (entry_of p) distinct there t in cc)

-- a map whose hit went to the front is the list after a get
pub after_promote : (key : CacheKeyValue) (now : ℕ) (pairs : List KeptPair) (capacity : ℕ) (e : EntryValue)
    → IsDistinct key_eq (keys (entries_of pairs))
    → find (is_hit key now) (entries_of pairs) ≡ Some e
    → listed (promoted (key_eq key) pairs) capacity ≡ after_get key now (listed pairs capacity)
after_promote key now pairs capacity e distinct h =
    rw h (ap (λ es. record { entries = es; capacity = capacity }) (promoted_pairs key now pairs e distinct h))

-- ---- an insert

-- the first of a list, and the others as far as they fit
take_first : {X : Type 0} (n : ℕ) (x : X) (xs : List X) → 0 < n → take n (x ∷ xs) ≡ x ∷ take (n - 1) xs
take_first zero x xs h = absurd (omega arith)
take_first (suc n) x xs h = let less : suc n - 1 ≡ n = omega arith in ap (λ m. x ∷ take m xs) (sym less)

put_pairs : (kept : LruCache CacheKeyValue KeptValue) (capacity : ℕ) (key : CacheKeyValue) (value : KeptValue)
    → IsCacheMap kept capacity → 0 < capacity
    → (o : Option KeptPair) → lookup_entry (key_eq key) kept.entries ≡ o
    → entries_of (option_map_or (λ e. (e.0, value) ∷ remove_entry (key_eq key) kept.entries) o
    ((key, value) ∷ take (kept.cap - 1) kept.entries))
    ≡ take capacity (entry_of (key, value) ∷ without key (entries_of kept.entries))
put_pairs kept capacity key value is some None none =
    let entries = entries_of kept.entries in
    let nowhere : find (has_key key) entries ≡ None = as_found key kept.entries ∙ ap (option_map entry_of) none in
    let whole : without key entries ≡ entries = none_left_out key entries (none_found key entries nowhere) in
    ap (λ es. entry_of (key, value) ∷ es) (sym (take-map entry_of (kept.cap - 1) kept.entries)
    ∙ ap (λ n. take (n - 1) entries) (is.bounded some))
    ∙ sym (ap (λ es. take capacity (entry_of (key, value) ∷ es)) whole ∙ take_first capacity (entry_of (key, value)) entries some)
put_pairs kept capacity key value is some (Some p) found =
    let entries = entries_of kept.entries in
    let there : find (has_key key) entries ≡ Some (entry_of p) = as_found key kept.entries ∙ ap (option_map entry_of) found in
    let fewer : length (without key entries) + 1 ≤ length entries = length-found key entries (entry_of p) there in
    let fits : length entries ≤ capacity = is.list.fits in
    let same : key ≡ p.0 = (key_eq-Decides key p.0).0 (find_passes (has_key key) entries (entry_of p) there) in
    ap (λ k. entry_of (k, value) ∷ entries_of (remove_entry (key_eq key) kept.entries)) (sym same)
    ∙ ap (λ es. entry_of (key, value) ∷ es) (as_removed key kept.entries is.list.distinct)
    ∙ sym (take_all capacity (entry_of (key, value) ∷ without key entries) (omega arith))

pub after_put : (kept : LruCache CacheKeyValue KeptValue) (capacity : ℕ) (key : CacheKeyValue) (value : KeptValue)
    → IsCacheMap kept capacity → 0 < capacity
    → listed (put_entries key_eq kept key value) capacity ≡ after_insert (entry_of (key, value)) (listed kept.entries capacity)
after_put kept capacity key value is some =
    ap (λ es. record { entries = es; capacity = capacity })
    (put_pairs kept capacity key value is some (lookup_entry (key_eq key) kept.entries) refl)

-- ---- the map stays one of a cache

pub kept-promoted : (key : CacheKeyValue) (now : ℕ) (kept : LruCache CacheKeyValue KeptValue) (capacity : ℕ) (e : EntryValue)
    → IsCacheMap kept capacity
    → find (is_hit key now) (entries_of kept.entries) ≡ Some e
    → IsCacheMap (lru_cache (promoted (key_eq key) kept.entries) kept.cap) capacity
kept-promoted key now kept capacity e is h = record {
  list = subst IsCacheList (sym (after_promote key now kept.entries capacity e is.list.distinct h))
      (is_list-got key now (listed kept.entries capacity) is.list);
  bounded = is.bounded;
}

pub kept-put : (kept : LruCache CacheKeyValue KeptValue) (capacity : ℕ) (key : CacheKeyValue) (value : KeptValue)
    → IsCacheMap kept capacity → 0 < capacity
    → IsCacheMap (lru_cache (put_entries key_eq kept key value) kept.cap) capacity
kept-put kept capacity key value is some = record {
  list = subst IsCacheList (sym (after_put kept capacity key value is some))
      (is_list-inserted (entry_of (key, value)) (listed kept.entries capacity) is.list);
  bounded = is.bounded;
}

-- a map without pairs
pub kept-none : (kept : LruCache CacheKeyValue KeptValue) (capacity : ℕ) → kept.entries ≡ []
    → (0 < capacity → kept.cap ≡ capacity) → IsCacheMap kept capacity
kept-none kept capacity none bounded = record {
  list = subst (λ pairs. IsCacheList (listed pairs capacity)) (sym none) (empty_is capacity);
  bounded = bounded;
}
