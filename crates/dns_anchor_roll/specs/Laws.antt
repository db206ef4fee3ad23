-- Laws of trust that follows a zone's keys (RFC 5011, 2.1, 2.2 and 2.4.1). Lists are newest first.
use Rattle.std.specs.Prelude.{ℕ, ◌≡◌, ◌+◌, ◌≤◌, ◌↔◌, Bool, true, false, ◌||◌, List, [], ◌∷◌, ◌++◌, Some, slice_get}
use Rattle.std.specs.Option.{option_map_or}
use Rattle.std.specs.List.{list_all, list_any}
use Rattle.dns_anchor_roll.specs.Sightings.{SightingValue}
use Rattle.dns_anchor_roll.specs.Facts.{Fact, may_accept}
use Rattle.dns_anchor_roll.specs.Trust.{Start, facts, hold_down, is_accepted, is_revoked_by, oldest, trusted, was_held}

-- a key that is revoked is trusted after no longer list
abbrev pub RevokedForGood : Type 0
RevokedForGood = (start : Start) (later list : List SightingValue) (key : List ℕ) → is_revoked_by (facts start list) key ≡ true
    → trusted start (later ++ list) key ≡ false

-- no stretch of accepted facts goes over one that doesn't show the key
abbrev pub GapEndsStretch : Type 0
GapEndsStretch = (later older : List Fact) (gap : Fact) (key : List ℕ) → gap.shows key ≡ false
    → was_held key (later ++ gap ∷ older) ≡ (was_held key later || was_held key older)

-- an accepted sighting holds an unrevoked key that was trusted before
abbrev pub TrustedBeforeAccept : Type 0
TrustedBeforeAccept = (start : Start) (past : List SightingValue) (s : SightingValue) → is_accepted start past s ≡ true
    → list_any (may_accept start.zone (trusted start past)) s.set.records ≡ true

-- a stretch of accepted facts that ends a hold-down: each shows the key, the one before it doesn't, and its last comes at the moment
-- of its first and the hold-down or later
pub record CameThrough (key : List ℕ) (accepted : List Fact) : Type 0 where
  pub later : List Fact
  pub held : List Fact
  pub before : List Fact
  pub last : Fact
  pub first : Fact
  pub parts : accepted ≡ later ++ (held ++ before)
  pub shows : list_all (λ f. f.shows key) held ≡ true
  pub gap : option_map_or (λ f. f.shows key) (slice_get before 0) false ≡ false
  pub newest : slice_get held 0 ≡ Some last
  pub begins : oldest held ≡ Some first
  pub over : first.moment + hold_down first ≤ last.moment

-- a key was held exactly where there is such a stretch
abbrev pub IsTrustOfStretches : Type 0
IsTrustOfStretches = (key : List ℕ) (accepted : List Fact) → (was_held key accepted ≡ true) ↔ CameThrough key accepted
