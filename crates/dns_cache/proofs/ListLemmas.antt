-- The list of a cache: entries of a key, and what is left without them.
use Rattle.std.proofs.Common.{◌≡◌, ℕ, zero, suc, ◌+◌, ◌<◌, ◌≤◌, Bool, true, false, ◌&&◌, List, [], ◌∷◌, ◌++◌, map, length, take, drop, get_or, Option, None, Some, refl, sym, ap, ◌∙◌, subst, arith, true≢false}
use Rattle.std.specs.Prelude.{nat_lt, remove, position, slice_get}
use Rattle.std.specs.List.{AllByRecursion, IsDistinct, find, position_or_len}
use Rattle.std.proofs.lemmas.Bool.Decides.{nat_tests}
use Rattle.std.proofs.lemmas.List.{append-nil, drop_all, length-take, take_all}
use Rattle.std.proofs.lemmas.List.Edits.{length-remove}
use Rattle.std.proofs.lemmas.List.Folds.{find_at}
use Rattle.std.proofs.lemmas.List.Quantifiers.{position-Some}
use Rattle.std.proofs.lemmas.Option.{slice_get_read}
use Rattle.dns_rules.specs.CacheKeys.{CacheKeyValue, key_eq}
use Rattle.dns_cache.specs.KeyLaws.{key_eq-Decides}
use Rattle.dns_rules.specs.CacheEntries.{EntryValue}
use Rattle.dns_cache.specs.CacheLists.{CacheList, IsCacheList, after_get, after_insert, has_key, hit, is_hit, without}

abbrev pub keys : List EntryValue → List CacheKeyValue
keys entries = map (λ e. e.key) entries

-- no entry has the key
abbrev pub NoneHas : CacheKeyValue → List EntryValue → Type 0
NoneHas key entries = AllByRecursion (λ e. has_key key e ≡ false) entries

-- no key is this one
abbrev pub NoneIs : CacheKeyValue → List CacheKeyValue → Type 0
NoneIs key others = AllByRecursion (λ k. key_eq key k ≡ false) others

pub none_has : (key : CacheKeyValue) (entries : List EntryValue) → NoneIs key (keys entries) → NoneHas key entries
none_has key [] h = tt
none_has key (e ∷ entries) h = (h.0, none_has key entries h.1)

pub none_is : (key : CacheKeyValue) (entries : List EntryValue) → NoneHas key entries → NoneIs key (keys entries)
none_is key [] h = tt
none_is key (e ∷ entries) h = (h.0, none_is key entries h.1)

-- where the first entry has the key, no later one has
pub apart : (key : CacheKeyValue) (e : EntryValue) (entries : List EntryValue) → IsDistinct key_eq (keys (e ∷ entries))
    → has_key key e ≡ true → NoneHas key entries
unfolding IsDistinct
apart key e entries distinct h =
    none_has key entries (subst (λ k. NoneIs k (keys entries)) (sym ((key_eq-Decides key e.key).0 h)) distinct.0)

pub rest_distinct : (e : EntryValue) (entries : List EntryValue) → IsDistinct key_eq (keys (e ∷ entries)) → IsDistinct key_eq (keys entries)
unfolding IsDistinct
rest_distinct e entries distinct = distinct.1

-- ---- what is found

-- what is found passes
pub find_passes : {X : Type 0} (test : X → Bool) (xs : List X) (x : X) → find test xs ≡ Some x → test x ≡ true
find_passes test [] x h = cc
find_passes test (y ∷ xs) x h = (elim (test y) as (λ b. test y ≡ b → test x ≡ true) [
  | true ↦ λ t. let at = rw t at h in let same : y ≡ x = cc in subst (λ z. test z ≡ true) same t
  | false ↦ λ t. find_passes test xs x (rw t at h)
]) refl

-- an entry of another key is no hit
pub no_hit : (key : CacheKeyValue) (now : ℕ) (e : EntryValue) → has_key key e ≡ false → is_hit key now e ≡ false
no_hit key now e h = ap (λ b. b && nat_lt now e.expires) h

-- nor is one that has expired
pub expired : (key : CacheKeyValue) (now : ℕ) (e : EntryValue) → nat_lt now e.expires ≡ false → is_hit key now e ≡ false
expired key now e h = (elim (has_key key e) as (λ b. has_key key e ≡ b → is_hit key now e ≡ false) [
  | true ↦ λ t. rw (t, h) refl
  | false ↦ λ t. no_hit key now e t
]) refl

pub none_hit : (key : CacheKeyValue) (now : ℕ) (entries : List EntryValue) → NoneHas key entries → find (is_hit key now) entries ≡ None
none_hit key now [] h = refl
none_hit key now (e ∷ entries) h = rw (no_hit key now e h.0) (none_hit key now entries h.1)

pub none_found : (key : CacheKeyValue) (entries : List EntryValue) → find (has_key key) entries ≡ None → NoneHas key entries
none_found key [] h = tt
none_found key (e ∷ entries) h = (elim (has_key key e) as (λ b. has_key key e ≡ b → NoneHas key (e ∷ entries)) [
  | true ↦ λ t. let at = rw t at h in absurd (let none : Some e ≡ None = at in cc)
  | false ↦ λ t. (t, none_found key entries (rw t at h))
]) refl

-- the entry of the key is the hit where it doesn't expire
pub hit_found : (key : CacheKeyValue) (now : ℕ) (entries : List EntryValue) (e : EntryValue)
    → find (has_key key) entries ≡ Some e → nat_lt now e.expires ≡ true → find (is_hit key now) entries ≡ Some e
hit_found key now [] e h live = cc
hit_found key now (f ∷ entries) e h live =
    (elim (has_key key f) as (λ b. has_key key f ≡ b → find (is_hit key now) (f ∷ entries) ≡ Some e) [
      | true ↦ λ t. let at = rw t at h in let same : f ≡ e = cc in let lives : nat_lt now f.expires ≡ true = rw same live in
          rw (t, lives) (ap Some same)
      | false ↦ λ t. rw (no_hit key now f t) (hit_found key now entries e (rw t at h) live)
    ]) refl

-- where it expires there is none
pub none_lives : (key : CacheKeyValue) (now : ℕ) (entries : List EntryValue) (e : EntryValue) → IsDistinct key_eq (keys entries)
    → find (has_key key) entries ≡ Some e → nat_lt now e.expires ≡ false → find (is_hit key now) entries ≡ None
none_lives key now [] e distinct h dead = refl
none_lives key now (f ∷ entries) e distinct h dead =
    (elim (has_key key f) as (λ b. has_key key f ≡ b → find (is_hit key now) (f ∷ entries) ≡ None) [
      | true ↦ λ t. let at = rw t at h in let same : f ≡ e = cc in let over : nat_lt now f.expires ≡ false = rw same dead in
          rw (expired key now f over) (none_hit key now entries (apart key f entries distinct t))
      | false ↦ λ t. rw (no_hit key now f t) (none_lives key now entries e (rest_distinct f entries distinct) (rw t at h) dead)
    ]) refl

-- ---- what is left

pub none_left_out : (key : CacheKeyValue) (entries : List EntryValue) → NoneHas key entries → without key entries ≡ entries
none_left_out key [] h = refl
none_left_out key (e ∷ entries) h = rw h.0 (ap (λ es. e ∷ es) (none_left_out key entries h.1))

all_in : (P : EntryValue → Type 0) (entries : List EntryValue) (n : ℕ) (d : EntryValue) → n < length entries
    → AllByRecursion P entries → P (get_or entries n d)
all_in P [] n d h all = absurd (omega arith)
all_in P (e ∷ entries) zero d h all = all.0
all_in P (e ∷ entries) (suc n) d h all = all_in P entries n d (omega arith) all.1

-- the one at the place of the key's entry
pub removed : (key : CacheKeyValue) (entries : List EntryValue) (n : ℕ) (d : EntryValue) → IsDistinct key_eq (keys entries)
    → n < length entries
    → has_key key (get_or entries n d) ≡ true → remove entries n ≡ without key entries
removed key [] n d distinct within h = absurd (omega arith)
removed key (e ∷ entries) zero d distinct within h =
    rw h (sym (none_left_out key entries (apart key e entries distinct h)))
removed key (e ∷ entries) (suc n) d distinct within h =
    (elim (has_key key e) as (λ b. has_key key e ≡ b → remove (e ∷ entries) (suc n) ≡ without key (e ∷ entries)) [
      | true ↦ λ t. absurd (true≢false (sym h
          ∙ all_in (λ f. has_key key f ≡ false) entries n d (omega arith) (apart key e entries distinct t)))
      | false ↦ λ t. rw t (ap (λ es. e ∷ es) (removed key entries n d (rest_distinct e entries distinct) (omega arith) h))
    ]) refl

pub length-without : (key : CacheKeyValue) (entries : List EntryValue) → length (without key entries) ≤ length entries
length-without key [] = omega arith
length-without key (e ∷ entries) = let rest = length-without key entries in
    (elim (has_key key e) as (λ b. has_key key e ≡ b → length (without key (e ∷ entries)) ≤ length (e ∷ entries)) [
      | true ↦ λ t. rw t (omega arith)
      | false ↦ λ t. rw t (omega arith)
    ]) refl

-- fewer where there was a hit
pub length-hit : (key : CacheKeyValue) (now : ℕ) (entries : List EntryValue) (e : EntryValue) → find (is_hit key now) entries ≡ Some e
    → length (without key entries) + 1 ≤ length entries
length-hit key now [] e h = cc
length-hit key now (f ∷ entries) e h =
    (elim (has_key key f) as (λ b. has_key key f ≡ b → length (without key (f ∷ entries)) + 1 ≤ length (f ∷ entries)) [
      | true ↦ λ t. let rest = length-without key entries in rw t (omega arith)
      | false ↦ λ t. let rest = length-hit key now entries e (rw (no_hit key now f t) at h) in rw t (omega arith)
    ]) refl

-- fewer where an entry has the key
pub length-found : (key : CacheKeyValue) (entries : List EntryValue) (e : EntryValue) → find (has_key key) entries ≡ Some e
    → length (without key entries) + 1 ≤ length entries
length-found key [] e h = cc
length-found key (f ∷ entries) e h =
    (elim (has_key key f) as (λ b. has_key key f ≡ b → length (without key (f ∷ entries)) + 1 ≤ length (f ∷ entries)) [
      | true ↦ λ t. let rest = length-without key entries in rw t (omega arith)
      | false ↦ λ t. let rest = length-found key entries e (rw t at h) in rw t (omega arith)
    ]) refl

-- ---- keys stay apart

all_left : (P : CacheKeyValue → Type 0) (key : CacheKeyValue) (entries : List EntryValue) → AllByRecursion P (keys entries)
    → AllByRecursion P (keys (without key entries))
all_left P key [] all = tt
all_left P key (e ∷ entries) all = (elim (has_key key e) as (λ b. has_key key e ≡ b → AllByRecursion P (keys (without key (e ∷ entries)))) [
  | true ↦ λ t. rw t (all_left P key entries all.1)
  | false ↦ λ t. rw t (all.0, all_left P key entries all.1)
]) refl

pub distinct-without : (key : CacheKeyValue) (entries : List EntryValue) → IsDistinct key_eq (keys entries)
    → IsDistinct key_eq (keys (without key entries))
unfolding IsDistinct
distinct-without key [] distinct = tt
distinct-without key (e ∷ entries) distinct =
    (elim (has_key key e) as (λ b. has_key key e ≡ b → IsDistinct key_eq (keys (without key (e ∷ entries)))) [
      | true ↦ λ t. rw t (distinct-without key entries distinct.1)
      | false ↦ λ t. rw t (all_left (λ k. key_eq e.key k ≡ false) key entries distinct.0, distinct-without key entries distinct.1)
    ]) refl

-- of what is left none has the key
others : (key : CacheKeyValue) (entries : List EntryValue) → NoneIs key (keys (without key entries))
others key [] = tt
others key (e ∷ entries) = (elim (has_key key e) as (λ b. has_key key e ≡ b → NoneIs key (keys (without key (e ∷ entries)))) [
  | true ↦ λ t. rw t (others key entries)
  | false ↦ λ t. rw t (t, others key entries)
]) refl

distinct-front : (e : EntryValue) (entries : List EntryValue) → IsDistinct key_eq (keys entries)
    → IsDistinct key_eq (keys (e ∷ without e.key entries))
unfolding IsDistinct
distinct-front e entries distinct = (others e.key entries, distinct-without e.key entries distinct)

all_taken : (P : CacheKeyValue → Type 0) (n : ℕ) (entries : List EntryValue) → AllByRecursion P (keys entries)
    → AllByRecursion P (keys (take n entries))
all_taken P zero entries all = tt
all_taken P (suc n) [] all = tt
all_taken P (suc n) (e ∷ entries) all = (all.0, all_taken P n entries all.1)

distinct-take : (n : ℕ) (entries : List EntryValue) → IsDistinct key_eq (keys entries) → IsDistinct key_eq (keys (take n entries))
unfolding IsDistinct
distinct-take zero entries distinct = tt
distinct-take (suc n) [] distinct = tt
distinct-take (suc n) (e ∷ entries) distinct =
    (all_taken (λ k. key_eq e.key k ≡ false) n entries distinct.0, distinct-take n entries distinct.1)

-- ---- the list stays one of a cache

pub is_list-inserted : (entry : EntryValue) (list : CacheList) → IsCacheList list → IsCacheList (after_insert entry list)
is_list-inserted entry list is = record {
  distinct = distinct-take list.capacity (entry ∷ without entry.key list.entries) (distinct-front entry list.entries is.distinct);
  fits = let taken = length-take list.capacity (entry ∷ without entry.key list.entries) in omega arith;
}

moved : (key : CacheKeyValue) (now : ℕ) (list : CacheList) (e : EntryValue) → IsCacheList list → hit key now list ≡ Some e
    → IsCacheList (record list { entries = e ∷ without key list.entries })
moved key now list e is h =
    let passes = find_passes (is_hit key now) list.entries e h in
    let same : key ≡ e.key = (key_eq-Decides key e.key).0 (first (has_key key e) (nat_lt now e.expires) passes) in
    record {
      distinct = subst (λ k. IsDistinct key_eq (keys (e ∷ without k list.entries))) (sym same) (distinct-front e list.entries is.distinct);
      fits = let fewer = length-hit key now list.entries e h in let fits = is.fits in omega arith;
    }
  where
    first : (a b : Bool) → (a && b) ≡ true → a ≡ true
    first true b h = refl
    first false b h = h

pub is_list-got : (key : CacheKeyValue) (now : ℕ) (list : CacheList) → IsCacheList list → IsCacheList (after_get key now list)
is_list-got key now list is = (elim (hit key now list) as (λ o. hit key now list ≡ o → IsCacheList (after_get key now list)) [
  | None ↦ λ h. rw h is
  | Some e ↦ λ h. rw h (moved key now list e is h)
]) refl

pub empty_is : (capacity : ℕ) → IsCacheList (record { entries = []; capacity = capacity })
unfolding IsDistinct
empty_is capacity = record { distinct = tt; fits = omega arith }

-- ---- by places

place_of_first : {X : Type 0} (test : X → Bool) (xs : List X) (i : ℕ) → position test xs ≡ Some i → position_or_len test xs ≡ i
place_of_first test xs i h = (elim (nat_lt (position_or_len test xs) (length xs)) as
    (λ b. nat_lt (position_or_len test xs) (length xs) ≡ b → position_or_len test xs ≡ i) [
      | true ↦ λ t. let at : Some (position_or_len test xs) ≡ Some i = rw t at h in cc
      | false ↦ λ t. let at : None ≡ Some i = rw t at h in cc
    ]) refl

-- the element at the first place that passes is the one that is found
pub found_at : {X : Type 0} (test : X → Bool) (xs : List X) (i : ℕ) (x : X) → position test xs ≡ Some i → x ≡ get_or xs i x
    → find test xs ≡ Some x
found_at test xs i x h e =
    let within = (position-Some test xs i x h).0 in
    find_at test xs ∙ ap (slice_get xs) (place_of_first test xs i h) ∙ slice_get_read xs (length xs) i x refl within e

past_end : {X : Type 0} (xs : List X) (n : ℕ) → length xs ≤ n → slice_get xs n ≡ None
past_end [] n h = refl
past_end (x ∷ xs) zero h = absurd (omega arith)
past_end (x ∷ xs) (suc n) h = past_end xs n (omega arith)

-- without such a place nothing is found
pub found_nowhere : {X : Type 0} (test : X → Bool) (xs : List X) → position test xs ≡ None → find test xs ≡ None
found_nowhere test xs h = (elim (nat_lt (position_or_len test xs) (length xs)) as (λ b. nat_lt (position_or_len test xs) (length xs) ≡ b
    → find test xs ≡ None) [
      | true ↦ λ t. let at : Some (position_or_len test xs) ≡ None = rw t at h in cc
      | false ↦ λ t. find_at test xs ∙ past_end xs (position_or_len test xs) (grind (arith, nat_tests, t))
    ]) refl

-- what a slice was written over, put back whole
pub whole : {X : Type 0} (old new : List X) (n : ℕ) → length new ≡ length old → n ≡ length old → take n (new ++ drop (length new) old) ≡ new
whole old new n long is =
    ap (λ rest. take n (new ++ rest)) (drop_all (length new) old (omega arith)) ∙ ap (take n) (append-nil new)
    ∙ take_all n new (omega arith)

-- the list after a get, by the place of the hit
pub got : (key : CacheKeyValue) (now : ℕ) (old new : List EntryValue) (capacity place : ℕ) (e : EntryValue) → IsDistinct key_eq (keys old)
    → position (is_hit key now) old ≡ Some place → e ≡ get_or old place e → ((d : EntryValue) → new ≡ get_or old place d ∷ remove old place)
    → record { entries = new; capacity = capacity } ≡ after_get key now (record { entries = old; capacity = capacity })
got key now old new capacity place e distinct first at moved =
    let found = found_at (is_hit key now) old place e first at in
    let passes = position-Some (is_hit key now) old place e first in
    let has : has_key key (get_or old place e) ≡ true =
    first_test (has_key key (get_or old place e)) (nat_lt now (get_or old place e).expires) passes.1 in
    let list : new ≡ e ∷ without key old = moved e ∙ ap (λ x. x ∷ remove old place) (sym at)
    ∙ ap (λ es. e ∷ es) (removed key old place e distinct passes.0 has) in
    rw found (ap (λ es. record { entries = es; capacity = capacity }) list)
  where
    first_test : (a b : Bool) → (a && b) ≡ true → a ≡ true
    first_test true b h = refl
    first_test false b h = h

-- the list after an insert, by the place of the key
pub put_over : (entry : EntryValue) (old : List EntryValue) (capacity place : ℕ)
    → IsCacheList (record { entries = old; capacity = capacity })
    → position (has_key entry.key) old ≡ Some place → entry ∷ remove old place ≡ take capacity (entry ∷ without entry.key old)
put_over entry old capacity place is first =
    let passes = position-Some (has_key entry.key) old place entry first in
    let rest : remove old place ≡ without entry.key old = removed entry.key old place entry is.distinct passes.0 passes.1 in
    let fewer : length (remove old place) + 1 ≡ length old = length-remove old place passes.0 in
    let fits : length old ≤ capacity = is.fits in
    sym (take_all capacity (entry ∷ remove old place) (omega arith)) ∙ ap (λ es. take capacity (entry ∷ es)) rest

pub put_more : (entry : EntryValue) (old : List EntryValue) (capacity : ℕ) → position (has_key entry.key) old ≡ None
    → take capacity (entry ∷ old) ≡ take capacity (entry ∷ without entry.key old)
put_more entry old capacity none =
    ap (λ es. take capacity (entry ∷ es))
    (sym (none_left_out entry.key old (none_found entry.key old (found_nowhere (has_key entry.key) old none))))

-- where there is no hit nothing moves
pub nothing_moves : (key : CacheKeyValue) (now : ℕ) (list : CacheList) → hit key now list ≡ None → after_get key now list ≡ list
nothing_moves key now list none = rw none refl

-- a place after the first
pub remove_next : {X : Type 0} (x : X) (xs : List X) (n : ℕ) → remove (x ∷ xs) (n + 1) ≡ x ∷ remove xs n
remove_next x xs n = let next : n + 1 ≡ suc n = omega arith in ap (remove (x ∷ xs)) next

-- what a search for a hit found in a list, and the entry that stands there
pub hit_at : (key : CacheKeyValue) (now : ℕ) (entries shown : List EntryValue) (searched : Option ℕ) (place : ℕ) (e read : EntryValue)
    → shown ≡ entries → searched ≡ position (is_hit key now) shown → searched ≡ Some place → e ≡ read → read ≡ get_or entries place read
    → (position (is_hit key now) entries ≡ Some place) × (e ≡ get_or entries place e)
hit_at key now entries shown searched place e read same by is copied at = (
  ap (position (is_hit key now)) (sym same) ∙ sym by ∙ is,
  copied ∙ at ∙ ap (get_or entries place) (sym copied),
)
