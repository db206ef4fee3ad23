-- Which keys of a zone are trusted after some sightings of its key set (RFC 5011, 2.1, 2.2 and 2.4). Lists are newest first.
use Rattle.std.specs.Prelude.{ℕ, ◌+◌, max, nat_le, Bool, false, not, ◌&&◌, ◌||◌, List, [], ◌∷◌, reverse, Option, None, Some, is_some, unwrap_or, slice_get}
use Rattle.std.specs.Option.{option_map_or}
use Rattle.std.specs.List.{filter, take_while, list_any}
use Rattle.dns_model.specs.Names.{Labels}
use Rattle.dns_model.specs.Keys.{VerifierAnswers}
use Rattle.dns_anchor_roll.specs.FollowedKeys.{is_given}
use Rattle.dns_anchor_roll.specs.Sightings.{SightingValue}
use Rattle.dns_anchor_roll.specs.Facts.{Fact, fact_of}

-- those of accepted sightings
abbrev pub accepted : List Fact → List Fact
accepted facts = filter (λ f. is_some f.ttl) facts

-- of accepted ones the stretch that shows a key and ends with the newest: each of it shows the key, the one before it doesn't
abbrev pub stretch : List ℕ → List Fact → List Fact
stretch key facts = take_while (λ f. f.shows key) facts

-- the first in time
abbrev pub oldest : List Fact → Option Fact
oldest facts = slice_get (reverse facts) 0

-- seconds: 30 days, or the original ttl of the stretch's first, if that is longer (RFC 5011, 2.4.1)
abbrev pub hold_down : Fact → ℕ
hold_down first = max 2592000 (unwrap_or first.ttl 0)

-- the hold-down that began with a sighting is over at a moment
abbrev pub is_over : Fact → ℕ → Bool
is_over first moment = nat_le (first.moment + hold_down first) moment

-- the hold-down of that stretch is over when its newest is seen
abbrev pub is_held : List ℕ → Fact → List Fact → Bool
is_held key newest older = option_map_or (λ first. is_over first newest.moment) (oldest (stretch key (newest ∷ older))) false

-- among accepted ones there is such a stretch, which may end with each
unfoldable pub was_held : List ℕ → List Fact → Bool
was_held key [] = false
was_held key (f ∷ older) = is_held key f older || was_held key older

abbrev pub is_revoked_by : List Fact → List ℕ → Bool
is_revoked_by facts key = list_any (λ f. f.revokes key) facts

-- a key is trusted: nothing revokes it, and it was given at the start or came through its hold-down
abbrev pub trusted_by : List (List ℕ) → List Fact → List ℕ → Bool
trusted_by given facts key = not (is_revoked_by facts key) && (is_given given key || was_held key (accepted facts))

-- what is followed: a verifier's answers, a zone, and the rdatas of the keys that are given at the start
pub record Start : Type 0 where
  pub answers : VerifierAnswers
  pub zone : Labels
  pub given : List (List ℕ)

abbrev pub next_fact : Start → List Fact → SightingValue → Fact
next_fact start before s = fact_of start.answers start.zone (trusted_by start.given before) s

abbrev pub with_fact : Start → List Fact → SightingValue → List Fact
with_fact start before s = next_fact start before s ∷ before

-- what sightings come to, each by who was trusted before it
unfoldable pub facts : Start → List SightingValue → List Fact
facts start [] = []
facts start (s ∷ past) = with_fact start (facts start past) s

-- the keys that are trusted after some sightings
abbrev pub trusted : Start → List SightingValue → List ℕ → Bool
trusted start list key = trusted_by start.given (facts start list) key

-- a sighting is accepted after others
abbrev pub is_accepted : Start → List SightingValue → SightingValue → Bool
is_accepted start past s = is_some (next_fact start (facts start past) s).ttl
