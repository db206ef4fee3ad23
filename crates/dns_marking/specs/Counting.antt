-- For private functions of this crate only: the signatures that marking has met of each judged set.
use Rattle.std.specs.Prelude.{◌≡◌, ℕ, ◌+◌, ◌<◌, Bool, ◌&&◌, List, get_or, set, length, count_by, slice_get, Option, None, Some, if◌then◌else◌}
use Rattle.std.specs.Option.{option_and_then}
use Rattle.dns_model.specs.Records.{Rr}
use Rattle.dns_model.specs.SoundAnswers.{set_rtype}
use Rattle.dns_rules.specs.MarkedSets.{MarkedSet}
use Rattle.dns_rules.specs.MarkParts.{is_place}
use Rattle.dns_outcome.specs.declared.set_places.SetPlaces.{SetPlaces}
use Rattle.dns_outcome.specs.SetPlaces.{is_readable, place_of}

-- the place of a record's set
abbrev pub place_for : SetPlaces → Rr → Option ℕ
place_for p r = place_of p r.owner (set_rtype r)

-- the count of the set at a place
abbrev pub count_at : List ℕ → Option ℕ → ℕ
count_at counts None = 0
count_at counts (Some n) = get_or counts n 0

-- the set at a place
abbrev pub set_at : List MarkedSet → Option ℕ → Option MarkedSet
set_at sets place = option_and_then (slice_get sets) place

-- the counts with one more at a place, where it can be read
abbrev pub counted_if : List ℕ → ℕ → Bool → List ℕ
counted_if counts n readable = if readable then set counts n (get_or counts n 0 + 1) else counts

-- the counts with one more record, of the set at this place
abbrev pub counted : List ℕ → Option ℕ → Rr → List ℕ
counted counts None r = counts
counted counts (Some n) r = counted_if counts n (is_readable r)

-- a signature of the set at a place
abbrev pub is_signature_at : SetPlaces → ℕ → Rr → Bool
is_signature_at p n r = is_readable r && is_place (place_for p r) n

-- each set has the count of the signatures of it that were met
pub record AreCounted (p : SetPlaces) (sets : List MarkedSet) (counts : List ℕ) (met : List Rr) : Type 0 where
  pub long : length counts ≡ length sets
  pub each : (n : ℕ) → n < length sets → get_or counts n 0 ≡ count_by (is_signature_at p n) met
