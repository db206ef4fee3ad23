-- What the calls of a cache leave of its list: the entries that were there, and those that are inserted.
use Rattle.std.proofs.Common.{◌≡◌, ℕ, Bool, true, false, not, cond, List, [], ◌∷◌, ◌++◌, take, zero, suc, slice_get, Option, None, Some, refl, sym, ap, subst, ◌∙◌}
use Rattle.std.specs.List.{AllByRecursion, find}
use Rattle.std.specs.Option.{option_map, option_map_or}
use Rattle.dns_rules.specs.CacheKeys.{CacheKeyValue}
use Rattle.dns_rules.specs.CacheEntries.{EntryValue}
use Rattle.dns_rules.proofs.FindLemmas.{each_taken}
use Rattle.dns_cache.specs.CacheLists.{CacheList, has_key, is_hit, hit, without, after_get, after_insert}
use Rattle.dns_lookup.specs.Driving.{after_inserts, front_entry}

-- ---- all but those of a key

without_step : (P Q : EntryValue → Type 0) (key : CacheKeyValue)
    → ((e : EntryValue) → has_key key e ≡ false → P e → Q e) → (e : EntryValue) (b : Bool)
    (rest : List EntryValue) → has_key key e ≡ b → P e → AllByRecursion Q rest
    → AllByRecursion Q (cond (not b) (e ∷ rest) rest)
without_step P Q key f e true rest is h all = all
without_step P Q key f e false rest is h all = (f e is h, all)

-- what holds of each, and follows for those of other keys, holds of each that is left without a key
pub each_without : (P Q : EntryValue → Type 0) (key : CacheKeyValue)
    → ((e : EntryValue) → has_key key e ≡ false → P e → Q e) → (entries : List EntryValue)
    → AllByRecursion P entries → AllByRecursion Q (without key entries)
each_without P Q key f [] h = tt
each_without P Q key f (e ∷ entries) h =
    without_step P Q key f e (has_key key e) (without key entries) refl h.0 (each_without P Q key f entries h.1)

-- ---- a hit

find_step : (P : EntryValue → Type 0) (e x : EntryValue) (b : Bool) (rest : Option EntryValue)
    → cond b (Some e) rest ≡ Some x → P e → (rest ≡ Some x → P x) → P x
find_step P e x true rest is h later = let same : e ≡ x = cc in subst P same h
find_step P e x false rest is h later = later is

find_each : (P : EntryValue → Type 0) (p : EntryValue → Bool) (entries : List EntryValue) (x : EntryValue)
    → AllByRecursion P entries → find p entries ≡ Some x → P x
find_each P p [] x h is = cc
find_each P p (e ∷ entries) x h is =
    find_step P e x (p e) (find p entries) is h.0 (λ later. find_each P p entries x h.1 later)

-- of a hit what holds of each entry
pub hit_each : (P : EntryValue → Type 0) (key : CacheKeyValue) (now : ℕ) (list : CacheList) (e : EntryValue)
    → AllByRecursion P list.entries → hit key now list ≡ Some e → P e
hit_each P key now list e h is = find_each P (is_hit key now) list.entries e h is

got_by : (P : EntryValue → Type 0) (key : CacheKeyValue) (list : CacheList) (o : Option EntryValue)
    → ((e : EntryValue) → o ≡ Some e → P e) → AllByRecursion P list.entries
    → AllByRecursion P ((option_map_or (λ e. record list { entries = e ∷ without key list.entries }) o list).entries)
got_by P key list None hit h = h
got_by P key list (Some e) hit h = (hit e refl, each_without P P key (λ x no y. y) list.entries h)

-- it stays so of each after a hit
pub each_got : (P : EntryValue → Type 0) (key : CacheKeyValue) (now : ℕ) (list : CacheList)
    → AllByRecursion P list.entries
    → AllByRecursion P ((after_get key now list).entries)
each_got P key now list h = got_by P key list (hit key now list) (λ e is. hit_each P key now list e h is) h

got_room : (key : CacheKeyValue) (list : CacheList) (o : Option EntryValue)
    → (option_map_or (λ e. record list { entries = e ∷ without key list.entries }) o list).capacity ≡ list.capacity
got_room key list None = refl
got_room key list (Some e) = refl

pub room_got : (key : CacheKeyValue) (now : ℕ) (list : CacheList) → (after_get key now list).capacity ≡ list.capacity
room_got key now list = got_room key list (hit key now list)

-- ---- an insertion

-- what holds of the new one, and follows for the others
pub each_inserted : (P Q : EntryValue → Type 0) (x : EntryValue) (list : CacheList)
    → ((e : EntryValue) → has_key x.key e ≡ false → P e → Q e) → Q x
    → AllByRecursion P list.entries → AllByRecursion Q ((after_insert x list).entries)
each_inserted P Q x list f new h =
    each_taken Q list.capacity (x ∷ without x.key list.entries) (new, each_without P Q x.key f list.entries h)

-- of all that are inserted and of all that are there
pub each_inserts : (P : EntryValue → Type 0) (entries : List EntryValue) (list : CacheList) → AllByRecursion P entries
    → AllByRecursion P list.entries
    → AllByRecursion P ((after_inserts entries list).entries)
each_inserts P [] list new h = h
each_inserts P (x ∷ entries) list new h =
    each_inserts P entries (after_insert x list) new.1 (each_inserted P P x list (λ e no y. y) new.0 h)

pub room_inserts : (entries : List EntryValue) (list : CacheList)
    → (after_inserts entries list).capacity ≡ list.capacity
room_inserts [] list = refl
room_inserts (x ∷ entries) list = room_inserts entries (after_insert x list)

-- ---- one after another

pub inserts_more : (entries : List EntryValue) (x : EntryValue) (list : CacheList)
    → after_inserts (entries ++ x ∷ []) list ≡ after_insert x (after_inserts entries list)
inserts_more [] x list = refl
inserts_more (e ∷ entries) x list = inserts_more entries x (after_insert e list)

inserted_some : (entries : List EntryValue) (x : EntryValue) (o : Option CacheList)
    → option_map (after_inserts (entries ++ x ∷ [])) o ≡ option_map (after_insert x)
    (option_map (after_inserts entries) o)
inserted_some entries x None = refl
inserted_some entries x (Some list) = ap (λ l. Some l) (inserts_more entries x list)

pub told_more : (entries : List EntryValue) (x : EntryValue) (old now new : Option CacheList)
    → now ≡ option_map (after_inserts entries) old
    → new ≡ option_map (after_insert x) now → new ≡ option_map (after_inserts (entries ++ x ∷ [])) old
told_more entries x old now new here there =
    there ∙ ap (option_map (after_insert x)) here ∙ sym (inserted_some entries x old)

pub none_inserted : (o : Option CacheList) → o ≡ option_map (after_inserts []) o
none_inserted None = refl
none_inserted (Some list) = refl

-- ---- the first entry

front_any : (kept xs ys : List EntryValue) (x : EntryValue) → front_entry kept (x ∷ xs) ≡ front_entry kept (x ∷ ys)
unfolding front_entry
front_any [] xs ys x = refl
front_any (e ∷ kept) xs ys x = front_any kept (x ∷ xs) (x ∷ ys) e

inserted_first : (x : EntryValue) (entries : List EntryValue) (room : ℕ) → (room ≡ 0 → ⊥)
    → slice_get (take room (x ∷ entries)) 0 ≡ Some x
inserted_first x entries zero some = absurd (some refl)
inserted_first x entries (suc n) some = refl

-- that is the first one after all insertions, where there is room
pub inserts_first : (kept : List EntryValue) (list : CacheList) → (list.capacity ≡ 0 → ⊥)
    → slice_get ((after_inserts kept list).entries) 0 ≡ front_entry kept list.entries
unfolding front_entry
inserts_first [] list some = refl
inserts_first (x ∷ kept) list some =
    inserts_first kept (after_insert x list) some ∙ front_of kept (without x.key list.entries) list.capacity some
  where
    front_of : (kept entries : List EntryValue) (room : ℕ) → (room ≡ 0 → ⊥)
        → front_entry kept (take room (x ∷ entries)) ≡ front_entry kept (x ∷ list.entries)
    front_of kept entries zero some = absurd (some refl)
    front_of kept entries (suc n) some = front_any kept (take n entries) list.entries x

-- the last of more that are to be kept
pub front_last : (kept more : List EntryValue) (x : EntryValue) (entries : List EntryValue)
    → front_entry (kept ++ more ++ x ∷ []) entries ≡ Some x
unfolding front_entry
front_last [] [] x entries = refl
front_last [] (m ∷ more) x entries = front_last [] more x (m ∷ entries)
front_last (k ∷ kept) more x entries = front_last kept more x (k ∷ entries)
