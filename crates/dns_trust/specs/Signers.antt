-- For the calls of this crate, and for no promise of a check or a lookup: which signature of a key set is good by one
-- of some keys of it, as the plain definitions (RFC 4035, 5.2 and 5.3).
use Rattle.std.specs.Prelude.{◌≡◌, Bool, true, List, Option, slice_get}
use Rattle.std.specs.List.{filter_map, find, list_all, enumerate_from}
use Rattle.std.specs.Option.{option_map}
use Rattle.dns_model.specs.Keys.{bytes_eq}
use Rattle.dns_model.specs.Records.{Rr, RrSet}
use Rattle.dns_model.specs.Chains.{Judge}
use Rattle.dns_rules.specs.Validity.{is_good_by}
use Rattle.dns_rules.specs.KeySets.{SignedKeys}
use Rattle.dns_trust.specs.declared.signers.SignedBy.{SignedBy}

abbrev pub signed_value : SignedBy → SignedKeys
signed_value by = record { place = by.place; signature = by.signature.now; key = by.key.now }

-- ---- for private functions of this crate only

-- the first of some keys by which a signature of a set is good
abbrev pub signing_key : Judge → RrSet → List Rr → Rr → Option Rr
signing_key j set keys r = find (is_good_by j set r) keys

-- a test that tells keys that pass another one by their rdata alone
abbrev pub TellsRdata : (Rr → Bool) → (Rr → Bool) → Type 0
TellsRdata may test = (a b : Rr) → may a ≡ true → may b ≡ true → a.rdata ≡ b.rdata → test a ≡ test b

-- of keys with one rdata there is still the first: for whatever test that tells keys by their rdata the same key is the first
abbrev pub AreOnce : List Rr → List Rr → Type 0
AreOnce once keys = (may test : Rr → Bool) → list_all may keys ≡ true → TellsRdata may test → find test once ≡ find test keys

-- two keys have one rdata
abbrev pub have_one_rdata : Rr → Rr → Bool
have_one_rdata a b = bytes_eq a.rdata b.rdata

-- the first of some signatures that is good by one of some keys
unfoldable pub first_signed_by : Judge → RrSet → List Rr → List Rr → Option SignedKeys
first_signed_by j set keys signatures =
    slice_get
    (filter_map (λ p. option_map (λ key. record { place = p.0; signature = p.1; key = key }) (signing_key j set keys p.1))
    (enumerate_from 0 signatures))
    0
