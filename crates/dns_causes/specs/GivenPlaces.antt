-- For private functions of this crate only: where the last of each key stands among what was given.
use Rattle.std.specs.Prelude.{ℕ, ◌≡◌, [], ◌∷◌, reverse, length, Option, None, Some, slice_get, if◌then◌else◌}
use Rattle.std.specs.Option.{option_map, option_and_then}
use Rattle.std.specs.BTreeMap.{BTreeMap, get}
use Rattle.dns_rules.specs.CacheKeys.{CacheKeyValue, key_eq}
use Rattle.dns_rules.specs.ProofErrors.{ProofErrorKindValue}
use Rattle.dns_cache.specs.KeyOrder.{key_cmp}
use Rattle.dns_causes.specs.Causes.{Given}

-- the place of the last of a key, counted from the first that was given; the list has the last first
abbrev pub place_in : Given → CacheKeyValue → Option ℕ
place_in [] key = None
place_in (p ∷ given) key = if key_eq p.0 key then Some (length given) else place_in given key

-- each key has the place of its last
abbrev pub ArePlaces : BTreeMap CacheKeyValue ℕ → Given → Type 0
ArePlaces places all = (key : CacheKeyValue) → get key_cmp places key ≡ place_in (reverse all) key

-- the cause at a place, if there is one
abbrev pub cause_at : Given → Option ℕ → Option ProofErrorKindValue
cause_at all place = option_map (λ p. p.1) (option_and_then (slice_get all) place)
