-- A cache as the list of its entries, the most recently used first (RFC 4035, 4.5).
use Rattle.std.specs.Prelude.{ℕ, ◌≤◌, Bool, not, ◌&&◌, nat_lt, List, ◌∷◌, map, length, take, Option}
use Rattle.std.specs.List.{find, filter, IsDistinct}
use Rattle.std.specs.Option.{option_map_or}
use Rattle.dns_rules.specs.CacheKeys.{CacheKeyValue, key_eq}
use Rattle.dns_rules.specs.CacheEntries.{EntryValue}

pub record CacheList : Type 0 where
  pub entries : List EntryValue
  pub capacity : ℕ

-- a list, and how often it was hit
pub record CountedList : Type 0 where
  pub list : CacheList
  pub hits : ℕ

abbrev pub has_key : CacheKeyValue → EntryValue → Bool
has_key key entry = key_eq key entry.key

-- the entry is the key's, and its time isn't up
abbrev pub is_hit : CacheKeyValue → ℕ → EntryValue → Bool
is_hit key now entry = has_key key entry && nat_lt now entry.expires

-- the entry that is given for a key at a moment
abbrev pub hit : CacheKeyValue → ℕ → CacheList → Option EntryValue
hit key now list = find (is_hit key now) list.entries

-- all entries but that of a key
abbrev pub without : CacheKeyValue → List EntryValue → List EntryValue
without key entries = filter (λ e. not (has_key key e)) entries

-- a hit goes to the front
abbrev pub after_get : CacheKeyValue → ℕ → CacheList → CacheList
after_get key now list = option_map_or (λ e. record list { entries = e ∷ without key list.entries }) (hit key now list) list

-- the new entry stands in front and replaces one of the same key; what passes the capacity falls off the end
abbrev pub after_insert : EntryValue → CacheList → CacheList
after_insert entry list = record list { entries = take list.capacity (entry ∷ without entry.key list.entries) }

-- the keys differ, and the entries are at most as many as the capacity
pub record IsCacheList (list : CacheList) : Type 0 where
  pub distinct : IsDistinct key_eq (map (λ e. e.key) list.entries)
  pub fits : length list.entries ≤ list.capacity
