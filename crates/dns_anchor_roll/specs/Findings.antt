-- For private functions of this crate only: what is found of a sighting, and which records of it the verifier is asked for.
use Rattle.std.specs.Prelude.{ℕ, ◌≡◌, Bool, true, ◌==◌, ◌&&◌, ◌||◌, List, is_some}
use Rattle.std.specs.Option.{option_map_or}
use Rattle.std.specs.Prelude.{false}
use Rattle.std.specs.List.{list_any}
use Rattle.dns_model.specs.Names.{Labels, name_eq}
use Rattle.dns_model.specs.Types.{type_rrsig}
use Rattle.dns_model.specs.Records.{Rr, RrSet}
use Rattle.dns_model.specs.Views.{DnskeyValue, is_revoked}
use Rattle.dns_model.specs.Keys.{VerifierAnswers}
use Rattle.dns_anchor_roll.specs.FollowedKeys.{followed, key_bytes, is_unrevoked, shows_form}
use Rattle.dns_anchor_roll.specs.Sightings.{SightingValue}
use Rattle.dns_anchor_roll.specs.Facts.{accepted_ttl, shows_revoked, may_accept}
use Rattle.dns_anchor_roll.specs.Tables.{among}
use Rattle.dns_anchor_roll.specs.declared.found.Found.{Found}
use Rattle.dns_anchor_roll.specs.declared.examining.Asked.{Asked}
use Rattle.dns_anchor_roll.specs.declared.examining.Asked.TheVariants.{ToAccept, ToRevoke}

-- what is found is what the fact of the sighting says
pub record FindsFact (answers : VerifierAnswers) (zone : Labels) (trusted : List ℕ → Bool) (s : SightingValue) (found : Found) : Type 0 where
  pub ttl : found.ttl ≡ accepted_ttl answers zone trusted s
  pub shown : (key : List ℕ) → among key found.shown.items ≡ list_any (shows_form zone is_unrevoked key) s.set.records
  pub revoked : (key : List ℕ) → among key found.revoked.items
      ≡ ((is_some found.ttl || trusted key) && shows_revoked answers zone s key)

-- the form of a key with the flag REVOKE, or without it
abbrev pub form_of : Bool → DnskeyValue → Bool
form_of true text = is_revoked text
form_of false text = is_unrevoked text

-- a record is a revoked key, and a trusted one, or any where the sighting is accepted
abbrev pub may_revoke : Labels → (List ℕ → Bool) → Bool → Rr → Bool
may_revoke zone trusted accepted r =
    option_map_or (λ text. is_revoked text && (accepted || trusted (key_bytes text))) (followed zone r) false

-- the verifier is asked for a record
abbrev pub is_asked : Labels → (List ℕ → Bool) → Asked → Rr → Bool
is_asked zone trusted ToAccept r = may_accept zone trusted r
is_asked zone trusted (ToRevoke accepted) r = may_revoke zone trusted accepted r

-- a signature stands at the owner and the class of a set
abbrev pub stands_at : RrSet → Rr → Bool
stands_at set r = name_eq set.owner r.owner && ((set.class == r.class) && (r.rtype == type_rrsig))
