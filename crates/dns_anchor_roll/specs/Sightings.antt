-- Sightings of a zone's key set, and what a message shows of it (RFC 5011, 2.3; RFC 2181, 5).
use Rattle.std.specs.Prelude.{ℕ, Bool, ◌==◌, ◌&&◌, List, [], ◌∷◌, Option, None, Some}
use Rattle.std.specs.List.{filter}
use Rattle.dns_model.specs.Names.{Labels, name_eq}
use Rattle.dns_model.specs.Types.{type_dnskey, class_in}
use Rattle.dns_model.specs.Records.{Rr, RrSet, MessageValue}
use Rattle.dns_model.specs.RecordViews.{rrsig_of}
use Rattle.std.specs.Option.{option_map_or}
use Rattle.std.specs.Prelude.{false}

-- a set that was seen, and when, in seconds since 1970
pub record SightingValue : Type 0 where
  pub moment : ℕ
  pub set : RrSet

-- the set is the keys of a zone
abbrev pub is_key_set : Labels → RrSet → Bool
is_key_set zone set = name_eq zone set.owner && ((set.rtype == type_dnskey) && (set.class == class_in))

abbrev pub is_of_zone : Labels → Rr → Bool
is_of_zone zone r = name_eq zone r.owner && (r.class == class_in)

-- the record is a key of a zone, readable or not
abbrev pub is_key_record : Labels → Rr → Bool
is_key_record zone r = is_of_zone zone r && (r.rtype == type_dnskey)

-- the record is a readable signature over its keys
abbrev pub is_key_signature : Labels → Rr → Bool
is_key_signature zone r = is_of_zone zone r && option_map_or (λ sig. sig.covered == type_dnskey) (rrsig_of r) false

-- a set of keys with their signatures; none where there is no key
abbrev pub key_sighting : Labels → ℕ → List Rr → List Rr → Option SightingValue
key_sighting zone moment [] signatures = None
key_sighting zone moment (key ∷ keys) signatures = Some (record {
  moment = moment;
  set = record { owner = zone; rtype = type_dnskey; class = class_in; records = key ∷ keys; signatures = signatures };
})

-- the key set that the answer section of a message shows of a zone; its question, code and flags don't matter
abbrev pub sighting_of : Labels → ℕ → MessageValue → Option SightingValue
sighting_of zone moment message =
    key_sighting zone moment (filter (is_key_record zone) message.answers) (filter (is_key_signature zone) message.answers)
