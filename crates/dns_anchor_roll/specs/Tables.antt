-- For private functions of this crate only: what a roll keeps of the keys of its zone.
use Rattle.std.specs.Prelude.{ℕ, ◌≡◌, Bool, true, false, ◌||◌, not, nat_le, ◌+◌, max, List, Option, None, Some, is_some, unwrap_or, Vec, if◌then◌else◌, slice_get}
use Rattle.std.specs.Option.{option_map, option_map_or}
use Rattle.std.specs.List.{list_any}
use Rattle.std.specs.Borrow.{Bor}
use Rattle.std.specs.BTreeMap.{BTreeMap, get_by}
use Rattle.std.specs.Cmp.Lexicographic.{slice_cmp}
use Rattle.std.specs.Ordering.{nat_cmp}
use Rattle.dns_model.specs.Keys.{bytes_eq}
use Rattle.dns_model.specs.Sections.{is_empty}
use Rattle.dns_anchor_roll.specs.FollowedKeys.{is_given}
use Rattle.dns_anchor_roll.specs.Facts.{Fact}
use Rattle.dns_anchor_roll.specs.Trust.{accepted, stretch, oldest, hold_down, was_held}
use Rattle.dns_anchor_roll.specs.States.{revoked_at, state_by}
use Rattle.dns_anchor_roll.specs.declared.found.Found.{Found}
use Rattle.dns_anchor_roll.specs.declared.states.KeyState.{KeyState}
use Rattle.dns_anchor_roll.specs.declared.standing.Standing.{Standing}
use Rattle.dns_anchor_roll.specs.declared.standing.Standing.TheVariants.{Unknown, Trusted, Revoked}
use Rattle.dns_anchor_roll.specs.declared.standing.Change.{Change}
use Rattle.dns_anchor_roll.specs.declared.standing.Change.TheVariants.{Trust, Revoke}
use Rattle.dns_anchor_roll.specs.declared.standing.Stretch.{Stretch}
use Rattle.dns_anchor_roll.specs.declared.key_table.KeyTable.{KeyTable}

-- a key is one of these
abbrev pub among : List ℕ → List (Bor (List ℕ)) → Bool
among key keys = list_any (λ b. bytes_eq key b.now) keys

-- ---- what is kept of a key

abbrev pub is_trusted : Standing → Bool
is_trusted Trusted = true
is_trusted _ = false

-- a key that nothing is known of is trusted; a revoked one isn't, and the first moment that revokes it stays
abbrev pub changed : Change → Standing → Standing
changed Trust Unknown = Trusted
changed Trust Trusted = Trusted
changed Trust (Revoked at) = Revoked at
changed (Revoke moment) Unknown = Revoked moment
changed (Revoke moment) Trusted = Revoked moment
changed (Revoke moment) (Revoked at) = Revoked at

abbrev pub changed_if : Bool → Change → Standing → Standing
changed_if b change standing = if b then changed change standing else standing

-- a key came through its hold-down or didn't, and was revoked or wasn't
abbrev pub settled : Bool → ℕ → Bool → Standing → Standing
settled revoked moment through standing = changed_if revoked (Revoke moment) (changed_if through Trust standing)

-- what a map has for a key, by its bytes
abbrev pub entry_at : {X Z : Type 0} → BTreeMap (Vec ℕ Z) X → List ℕ → Option X
entry_at map key = get_by (λ k. slice_cmp nat_cmp key k.items) map

abbrev pub has_entry : {X Z : Type 0} → BTreeMap (Vec ℕ Z) X → List ℕ → Bool
has_entry map key = is_some (entry_at map key)

abbrev pub standing_in : {Z : Type 0} → BTreeMap (Vec ℕ Z) Standing → List ℕ → Standing
standing_in known key = unwrap_or (entry_at known key) Unknown

-- ---- the stretches that go on

abbrev pub begun : ℕ → ℕ → Stretch
begun moment ttl = record { since = moment; wait = max 2592000 ttl }

abbrev pub is_done : Stretch → ℕ → Bool
is_done s moment = nat_le (s.since + s.wait) moment

abbrev pub is_done_at : Option Stretch → ℕ → Bool
is_done_at s moment = option_map_or (λ s. is_done s moment) s false

-- the stretch of a key after an accepted sighting that shows it or doesn't
abbrev pub gone_on : Bool → Option Stretch → ℕ → ℕ → Option Stretch
gone_on shown old moment ttl = if shown then Some (unwrap_or old (begun moment ttl)) else None

-- ---- the state of a key

abbrev pub state_by_standing : Standing → Bool → Bool → ℕ → Option KeyState
state_by_standing (Revoked moment) shown none now = state_by (Some moment) false shown none now
state_by_standing Trusted shown none now = state_by None true shown none now
state_by_standing Unknown shown none now = state_by None false shown none now

abbrev pub state_in : KeyTable → List ℕ → ℕ → Option KeyState
state_in table key now = state_by_standing (standing_in table.known key) (has_entry table.shown key) (not table.accepted) now

-- ---- a table, and what a fact makes of it

-- nothing changed that is kept of any key
pub record IsSameTable (old new : KeyTable) : Type 0 where
  pub known : (key : List ℕ) → standing_in new.known key ≡ standing_in old.known key
  pub shown : (key : List ℕ) → entry_at new.shown key ≡ entry_at old.shown key
  pub accepted : new.accepted ≡ old.accepted
  pub last : new.last ≡ old.last

-- the stretch of a key after a sighting that shows it or doesn't, and is accepted by an original ttl or isn't
abbrev pub next_stretch : Bool → ℕ → Option ℕ → Option Stretch → Option Stretch
next_stretch shown moment None old = old
next_stretch shown moment (Some ttl) old = gone_on shown old moment ttl

-- a key has come through its hold-down
abbrev pub is_through : Option ℕ → Option Stretch → ℕ → Bool
is_through None s moment = false
is_through (Some ttl) s moment = is_done_at s moment

pub record TakesFound (found : Found) (moment : ℕ) (old new : KeyTable) : Type 0 where
  pub shown : (key : List ℕ) → entry_at new.shown key ≡ next_stretch (among key found.shown.items) moment found.ttl (entry_at old.shown key)
  pub known : (key : List ℕ) → standing_in new.known key
      ≡ settled (among key found.revoked.items) moment (is_through found.ttl (entry_at new.shown key) moment) (standing_in old.known key)
  pub accepted : new.accepted ≡ (is_some found.ttl || old.accepted)
  pub last : new.last ≡ Some moment

-- ---- a table beside the facts of sightings

abbrev pub standing_by : Option ℕ → Bool → Standing
standing_by (Some moment) trusted = Revoked moment
standing_by None true = Trusted
standing_by None false = Unknown

abbrev pub standing_of : List (List ℕ) → List Fact → List ℕ → Standing
standing_of given facts key = standing_by (revoked_at facts key) (is_given given key || was_held key (accepted facts))

abbrev pub stretch_from : Fact → Stretch
stretch_from first = record { since = first.moment; wait = hold_down first }

abbrev pub stretch_of : List Fact → List ℕ → Option Stretch
stretch_of facts key = option_map stretch_from (oldest (stretch key (accepted facts)))

-- it keeps what the facts say
pub record IsTableOf (given : List (List ℕ)) (facts : List Fact) (table : KeyTable) : Type 0 where
  pub known : (key : List ℕ) → standing_in table.known key ≡ standing_of given facts key
  pub shown : (key : List ℕ) → entry_at table.shown key ≡ stretch_of facts key
  pub accepted : table.accepted ≡ not (is_empty (accepted facts))
  pub last : table.last ≡ option_map (λ f. f.moment) (slice_get facts 0)
