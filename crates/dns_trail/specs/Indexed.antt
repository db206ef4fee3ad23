-- For private functions of this crate only: judged sets and kept entries that are found by a key.
use Rattle.std.specs.Prelude.{ℕ, List, Option, None, Some, Vec}
use Rattle.std.specs.BTreeMap.{BTreeMap}
use Rattle.dns_rules.specs.CacheEntries.{EntryValue}
use Rattle.dns_rules.specs.CacheKeys.{CacheKeyValue}
use Rattle.dns_rules.specs.MarkedSets.{MarkedSet}
use Rattle.dns_cache.specs.KeyOrder.{key_cmp}
use Rattle.dns_trail.specs.Places.{KeepsPlaces, KeepsAllOf, places_under}
use Rattle.dns_trail.specs.SetKeys.{trail_key_of, set_places}
use Rattle.dns_trail.specs.declared.places.SetKey.{SetKey}

-- the place of each set is kept for its key
abbrev pub AreIndexed : {Z : Type 0} → BTreeMap SetKey (Vec ℕ Z) → List MarkedSet → Type 0
AreIndexed places sets = KeepsPlaces (λ j. trail_key_of j.set) (set_places places) sets

-- where there is an index
abbrev pub MayBeIndexed : {Z : Type 0} → Option (BTreeMap SetKey (Vec ℕ Z)) → List MarkedSet → Type 0
MayBeIndexed None sets = Unit {0}
MayBeIndexed (Some places) sets = AreIndexed places sets

-- the place of each entry is kept for its key
abbrev pub AreKeyed : {Z : Type 0} → BTreeMap CacheKeyValue (Vec ℕ Z) → List EntryValue → Type 0
AreKeyed places entries = KeepsPlaces (λ e. e.key) (places_under key_cmp places) entries

-- these are the places of all entries with a key
abbrev pub HaveKey : CacheKeyValue → List ℕ → List EntryValue → Type 0
HaveKey key places entries = KeepsAllOf (λ e. e.key) key places entries
