-- For private functions of this crate only: where the last of each key stands among what was given out.
use Rattle.std.specs.Prelude.{ℕ, ◌≡◌, List, [], ◌∷◌, reverse, length, Option, None, Some, slice_get, if◌then◌else◌}
use Rattle.std.specs.Option.{option_and_then, option_map_or}
use Rattle.std.specs.BTreeMap.{BTreeMap, get}
use Rattle.dns_model.specs.declared.trail.MarkOrigin.{MarkOrigin}
use Rattle.dns_model.specs.declared.trail.MarkOrigin.TheVariants.{Cache}
use Rattle.dns_rules.specs.CacheEntries.{EntryValue}
use Rattle.dns_rules.specs.CacheKeys.{CacheKeyValue, key_eq}
use Rattle.dns_cache.specs.KeyOrder.{key_cmp}
use Rattle.dns_validation.specs.Machine.{MadeValue, origin_by}

-- the place of the last of a key, counted from the first that was given out; the list has the last first
abbrev pub place_in : List MadeValue → CacheKeyValue → Option ℕ
place_in [] key = None
place_in (m ∷ made) key = if key_eq m.key key then Some (length made) else place_in made key

-- each key has the place of its last
abbrev pub ArePlaces : BTreeMap CacheKeyValue ℕ → List MadeValue → Type 0
ArePlaces places all = (key : CacheKeyValue) → get key_cmp places key ≡ place_in (reverse all) key

-- the origin of an entry whose key has a place, if it has one
abbrev pub origin_at : List MadeValue → EntryValue → Option ℕ → MarkOrigin
origin_at all e place = option_map_or (λ m. origin_by m e) (option_and_then (slice_get all) place) Cache
