-- The state of a key after some sightings (RFC 5011, 4). Lists are newest first.
use Rattle.std.specs.Prelude.{ℕ, ◌+◌, nat_le, Bool, true, false, ◌||◌, List, [], ◌∷◌, reverse, Option, None, Some, slice_get, if◌then◌else◌}
use Rattle.std.specs.Option.{option_map, option_map_or}
use Rattle.std.specs.List.{find}
use Rattle.dns_model.specs.Sections.{is_empty}
use Rattle.dns_model.specs.Views.{DnskeyValue}
use Rattle.dns_anchor_roll.specs.FollowedKeys.{key_bytes, key_in}
use Rattle.dns_anchor_roll.specs.Sightings.{SightingValue}
use Rattle.dns_anchor_roll.specs.Facts.{Fact}
use Rattle.dns_anchor_roll.specs.Trust.{Start, accepted, facts, trusted_by}
use Rattle.dns_anchor_roll.specs.declared.states.KeyState.{KeyState}
use Rattle.dns_anchor_roll.specs.declared.states.KeyState.TheVariants.{Pending, Valid, Missing, Revoked, Removed}

-- when the first fact that revokes a key was seen
abbrev pub revoked_at : List Fact → List ℕ → Option ℕ
revoked_at facts key = option_map (λ f. f.moment) (find (λ f. f.revokes key) (reverse facts))

-- the last accepted sighting shows a key
abbrev pub is_shown_last : List Fact → List ℕ → Bool
is_shown_last facts key = option_map_or (λ f. f.shows key) (slice_get (accepted facts) 0) false

-- by when it was revoked, whether it is trusted, whether the last accepted sighting shows it, and whether there is none.
-- Seconds: 30 days after it was revoked a key is removed (RFC 5011, 2.4.2)
abbrev pub state_by : Option ℕ → Bool → Bool → Bool → ℕ → Option KeyState
state_by (Some moment) trusted shown none now = Some (if nat_le (moment + 2592000) now then Removed else Revoked)
state_by None true shown none now = Some (if shown || none then Valid else Missing)
state_by None false shown none now = if shown then Some Pending else None

abbrev pub state_after : List (List ℕ) → List Fact → List ℕ → ℕ → Option KeyState
state_after given facts key now =
    state_by (revoked_at facts key) (trusted_by given facts key) (is_shown_last facts key) (is_empty (accepted facts)) now

abbrev pub state_of_key : List (List ℕ) → List Fact → ℕ → Option DnskeyValue → Option KeyState
state_of_key given facts now None = None
state_of_key given facts now (Some text) = state_after given facts (key_bytes text) now

-- the state of the key that an rdata says, at a moment; one that doesn't count has none
abbrev pub state_of : Start → List SightingValue → List ℕ → ℕ → Option KeyState
state_of start list rdata now = state_of_key start.given (facts start list) now (key_in rdata)
