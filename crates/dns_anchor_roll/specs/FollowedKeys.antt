-- Keys that may come to be trust anchors of a zone (RFC 4034, 2.1.1; RFC 5011, 1 and 2.1).
use Rattle.std.specs.Prelude.{ℕ, Bool, false, not, ◌&&◌, List, ◌∷◌, Option, None, Some, if◌then◌else◌}
use Rattle.std.specs.Option.{option_map_or}
use Rattle.std.specs.List.{list_any}
use Rattle.dns_model.specs.Bytes.{has_flag}
use Rattle.dns_model.specs.Names.{Labels, name_eq}
use Rattle.dns_model.specs.Records.{Rr}
use Rattle.dns_model.specs.RecordViews.{dnskey_of}
use Rattle.dns_model.specs.Views.{DnskeyValue, dnskey_in, is_zone_key, is_revoked}
use Rattle.dns_model.specs.Keys.{bytes_eq}

-- a DNSKEY's flag for a key that is meant to be an anchor, a secure entry point (RFC 4034, 2.1.1)
abbrev pub is_entry_point : DnskeyValue → Bool
is_entry_point text = has_flag text.flags 0x0001

-- a key counts where it is a zone's and meant to be an anchor, whatever its flag REVOKE
abbrev pub counts : DnskeyValue → Bool
counts text = is_zone_key text && is_entry_point text

abbrev pub counting : Option DnskeyValue → Option DnskeyValue
counting None = None
counting (Some text) = if counts text then Some text else None

-- which key it is: its algorithm, and its public key behind that. Flags and protocol tell no keys apart
abbrev pub key_bytes : DnskeyValue → List ℕ
key_bytes text = text.algorithm ∷ text.key

-- what an rdata says as a key that counts
abbrev pub key_in : List ℕ → Option DnskeyValue
key_in rdata = counting (dnskey_in rdata)

-- what a record says as a key of a zone that counts
abbrev pub followed : Labels → Rr → Option DnskeyValue
followed zone r = if name_eq zone r.owner then counting (dnskey_of r) else None

abbrev pub is_unrevoked : DnskeyValue → Bool
is_unrevoked text = not (is_revoked text)

-- a record shows this key of a zone in a form that passes a test: with the flag REVOKE, or without it
abbrev pub shows_form : Labels → (DnskeyValue → Bool) → List ℕ → Rr → Bool
shows_form zone form key r = option_map_or (λ text. form text && bytes_eq key (key_bytes text)) (followed zone r) false

-- a key is one of those that were given, as rdatas, at the start; their flag REVOKE isn't looked at
abbrev pub is_given : List (List ℕ) → List ℕ → Bool
is_given given key = list_any (λ rdata. option_map_or (λ text. bytes_eq key (key_bytes text)) (key_in rdata) false) given
