-- What a record says as one of a type, as an RRSIG or as a DNSKEY: nothing where its type or its shape is another (RFC 4034, 2.1 and 3.1).
use Rattle.std.specs.Prelude.{ℕ, ◌==◌, List, Option, None, if◌then◌else◌}
use Rattle.dns_model.specs.Types.{type_rrsig, type_dnskey}
use Rattle.dns_model.specs.Views.{RrsigValue, DnskeyValue, rrsig_in, dnskey_in}
use Rattle.dns_model.specs.Records.{Rr}

-- what the rdata says, if the record is of that type
abbrev pub read_as : {X : Type 0} → ℕ → (List ℕ → Option X) → Rr → Option X
read_as rtype read record_ = if record_.rtype == rtype then read record_.rdata else None

-- as an RRSIG
abbrev pub rrsig_of : Rr → Option RrsigValue
rrsig_of r = read_as type_rrsig rrsig_in r

-- as a DNSKEY
abbrev pub dnskey_of : Rr → Option DnskeyValue
dnskey_of r = read_as type_dnskey dnskey_in r
