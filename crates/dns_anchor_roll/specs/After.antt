-- When a roll has taken some sightings, the newest first, and no others.
use Rattle.std.specs.Prelude.{ℕ, ◌≡◌, ◌≤◌, Bool, true, false, nat_lt, List, [], ◌∷◌, Option, None, Some, slice_get, if◌then◌else◌}
use Rattle.std.specs.Option.{option_map, option_map_or}
use Rattle.std.specs.List.{All, count_by}
use Rattle.dns_model.specs.Names.{Labels}
use Rattle.dns_model.specs.Keys.{VerifierAnswers, AnchorValue, holds_anchor, is_anchor}
use Rattle.dns_anchor_roll.specs.Sightings.{SightingValue}
use Rattle.dns_anchor_roll.specs.Trust.{Start, facts}
use Rattle.dns_anchor_roll.specs.Tables.{IsTableOf, IsSameTable}
use Rattle.dns_anchor_roll.specs.declared.anchor_roll.AnchorRoll.{AnchorRoll}
use Rattle.dns_trust.specs.Anchoring.{with_anchor}
use Rattle.dns_anchor_roll.specs.declared.states.RollError.{RollError}
use Rattle.dns_anchor_roll.specs.declared.states.RollError.TheVariants.{Earlier, NoMemory}
use Rattle.dns_anchor_roll.specs.declared.states.Seen.{Seen}
use Rattle.dns_anchor_roll.specs.declared.states.Seen.TheVariants.{Accepted, Ignored}

-- a roll that was made of a start has taken these sightings: it keeps what their facts say
pub record IsAfter {V : Type 0} (answers : V → VerifierAnswers) (start : Start) (list : List SightingValue) (roll : AnchorRoll V) : Type 0 where
  pub verifier : answers roll.verifier ≡ start.answers
  pub zone : roll.zone ≡ start.zone
  pub table : IsTableOf start.given (facts start list) roll.table

-- a roll is as it was
pub record IsAsBefore {V : Type 0} (old new : AnchorRoll V) : Type 0 where
  pub verifier : new.verifier ≡ old.verifier
  pub zone : new.zone ≡ old.zone
  pub table : IsSameTable old.table new.table

-- what a roll begins with
abbrev pub starting : VerifierAnswers → Labels → List (List ℕ) → Start
starting answers zone given = record { answers = answers; zone = zone; given = given }

-- what is answered of a sighting that is accepted, or isn't
abbrev pub seen : Bool → Seen
seen accepted = if accepted then Accepted else Ignored

-- when the last of some sightings was seen
abbrev pub last_moment : List SightingValue → Option ℕ
last_moment list = option_map (λ s. s.moment) (slice_get list 0)

-- a moment lies before that of the last sighting
abbrev pub is_before : Option ℕ → ℕ → Bool
is_before last moment = option_map_or (λ last. nat_lt moment last) last false

abbrev pub is_earlier : List SightingValue → ℕ → Bool
is_earlier list moment = is_before (last_moment list) moment

-- why a sighting at a moment isn't taken: `Earlier`, with the last sighting's moment, exactly where that is later
abbrev pub IsCause : List SightingValue → ℕ → RollError → Type 0
IsCause list moment (Earlier last) = (last_moment list ≡ Some last) × (is_earlier list moment ≡ true)
IsCause list moment NoMemory = is_earlier list moment ≡ false

-- of sightings in the order of time: the moment before the first that falls
unfoldable pub fall_from : Option ℕ → List SightingValue → Option ℕ
fall_from last [] = None
fall_from last (s ∷ rest) = if is_before last s.moment then last else fall_from (Some s.moment) rest

abbrev pub first_fall : List SightingValue → Option ℕ
first_fall sightings = fall_from None sightings

-- why sightings aren't taken: `Earlier` names the moment before the first that falls
abbrev pub IsFall : Option ℕ → RollError → Type 0
IsFall fall (Earlier last) = fall ≡ Some last
IsFall fall NoMemory = Unit {0}

-- anchors are these keys of a zone, each once; a key is its algorithm and its public key behind that
pub record AreAnchors (zone : Labels) (trusted : List ℕ → Bool) (anchors : List AnchorValue) : Type 0 where
  pub owners : All (λ a. a.owner ≡ zone) anchors
  pub keys : (algorithm : ℕ) (key : List ℕ) → holds_anchor anchors zone algorithm key ≡ trusted (algorithm ∷ key)
  pub once : (algorithm : ℕ) (key : List ℕ) → count_by (is_anchor zone algorithm key) anchors ≤ 1

-- ---- for private functions of this crate only

-- anchors with a key more, by its bytes; no bytes are no key
abbrev pub with_key : Labels → List ℕ → List AnchorValue → List AnchorValue
with_key zone [] anchors = anchors
with_key zone (algorithm ∷ key) anchors = with_anchor anchors (record { owner = zone; algorithm = algorithm; key = key })

abbrev pub with_trusted : Bool → Labels → List ℕ → List AnchorValue → List AnchorValue
with_trusted trusted zone key anchors = if trusted then with_key zone key anchors else anchors
