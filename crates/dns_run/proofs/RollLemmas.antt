-- What is written of a text of sightings, by a verifier that answers as the text says.
use Rattle.std.proofs.Common.{◌≡◌, ℕ, List, refl}
use Rattle.dns_model.specs.Keys.{VerifierAnswers}
use Rattle.dns_model.specs.Names.{Labels}
use Rattle.dns_anchor_roll.specs.After.{starting}
use Rattle.dns_evidence.specs.Listing.{answers_of}
use Rattle.dns_roll.specs.RollValue.{RollValue, SightValue}
use Rattle.dns_roll.specs.TrustedText.{sightings_in, trusted_text}
use Rattle.dns_session_lookup.specs.Verifying.{listing}
use Rattle.dns_run.specs.Tasks.{followed_text}

pub followed_is : (t : RollValue) (answers : VerifierAnswers) (zone : Labels) (keys : List (List ℕ))
    (sights : List SightValue)
    → answers ≡ answers_of (listing t.algorithms t.accepts) → zone ≡ t.zone → keys ≡ t.keys → sights ≡ t.sights
    → trusted_text (starting answers zone keys) (sightings_in zone sights) ≡ followed_text t
followed_is t answers zone keys sights told in_zone given seen = rw (told, in_zone, given, seen) refl
