-- For private functions of this crate only: the entries of a map from keys to what is kept for them, as a list of entries.
use Rattle.std.specs.Prelude.{ℕ, ◌≡◌, ◌<◌, List, map, Option}
use Rattle.dns_model.specs.SoundAnswers.{ChainValue}
use Rattle.dns_rules.specs.CacheKeys.{CacheKeyValue}
use Rattle.dns_rules.specs.CacheEntries.{EntryValue, Found}
use Rattle.dns_cache.specs.CacheLists.{CacheList, IsCacheList}
use Rattle.lru.specs.LruCache.{LruCache}

-- an entry without its key
pub record KeptValue : Type 0 where
  pub expires : ℕ
  pub found : Found
  pub chain : Option ChainValue

abbrev pub KeptPair : Type 0
KeptPair = CacheKeyValue × KeptValue

abbrev pub entry_of : KeptPair → EntryValue
entry_of pair = record { key = pair.0; expires = pair.1.expires; found = pair.1.found; chain = pair.1.chain }

abbrev pub entries_of : List KeptPair → List EntryValue
entries_of pairs = map entry_of pairs

abbrev pub listed : List KeptPair → ℕ → CacheList
listed pairs capacity = record { entries = entries_of pairs; capacity = capacity }

-- the pairs are a cache's list, and the map has that capacity, unless it is 0
pub record IsCacheMap (kept : LruCache CacheKeyValue KeptValue) (capacity : ℕ) : Type 0 where
  pub list : IsCacheList (listed kept.entries capacity)
  pub bounded : 0 < capacity → kept.cap ≡ capacity
