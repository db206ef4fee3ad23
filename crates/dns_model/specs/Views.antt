-- What an rdata says where it has its type's shape (RFC 1035, 3.3; RFC 4034, 2 to 5; RFC 5155, 3).
use Rattle.std.specs.Prelude.{ℕ, Bool, ◌==◌, nat_lt, List, length, drop, if◌then◌else◌, Option, None, Some, slice_index, option_map}
use Rattle.dns_model.specs.Bytes.{u16_at, u32_at, has_flag}
use Rattle.dns_model.specs.Names.{Labels}
use Rattle.dns_model.specs.NameForm.{name_in, whole_name}
use Rattle.dns_model.specs.Shapes.{counted_in, is_bitmap}
use Rattle.dns_model.specs.OptionSteps.{◌>>=◌}

pub record RrsigValue : Type 0 where
  pub covered : ℕ
  pub algorithm : ℕ
  pub labels : ℕ
  pub original_ttl : ℕ
  pub expiration : ℕ
  pub inception : ℕ
  pub key_tag : ℕ
  pub signer : Labels
  pub signature : List ℕ

pub record DnskeyValue : Type 0 where
  pub flags : ℕ
  pub protocol : ℕ
  pub algorithm : ℕ
  pub key : List ℕ

pub record DsValue : Type 0 where
  pub key_tag : ℕ
  pub algorithm : ℕ
  pub digest_type : ℕ
  pub digest : List ℕ

pub record NsecValue : Type 0 where
  pub next : Labels
  pub types : List ℕ

pub record Nsec3Value : Type 0 where
  pub hash_algorithm : ℕ
  pub flags : ℕ
  pub iterations : ℕ
  pub salt : List ℕ
  pub next : List ℕ
  pub types : List ℕ

pub record SoaValue : Type 0 where
  pub mname : Labels
  pub rname : Labels
  pub serial : ℕ
  pub refresh : ℕ
  pub retry : ℕ
  pub expire : ℕ
  pub minimum : ℕ

abbrev pub rrsig_of : List ℕ → Labels → List ℕ → RrsigValue
rrsig_of rdata signer signature = record {
  covered = u16_at rdata 0;
  algorithm = slice_index rdata 2;
  labels = slice_index rdata 3;
  original_ttl = u32_at rdata 4;
  expiration = u32_at rdata 8;
  inception = u32_at rdata 12;
  key_tag = u16_at rdata 16;
  signer = signer;
  signature = signature;
}

-- RRSIG (RFC 4034, 3.1)
unfoldable pub rrsig_in : List ℕ → Option RrsigValue
rrsig_in rdata = if nat_lt (length rdata) 18 then None else option_map (λ signer. rrsig_of rdata signer.0 signer.1) (name_in (drop 18 rdata))

-- DNSKEY (RFC 4034, 2.1)
unfoldable pub dnskey_in : List ℕ → Option DnskeyValue
dnskey_in rdata =
    if nat_lt (length rdata) 4 then None
    else Some (record { flags = u16_at rdata 0; protocol = slice_index rdata 2; algorithm = slice_index rdata 3; key = drop 4 rdata })

-- DS (RFC 4034, 5.1)
unfoldable pub ds_in : List ℕ → Option DsValue
ds_in rdata =
    if nat_lt (length rdata) 4 then None
    else Some (record { key_tag = u16_at rdata 0; algorithm = slice_index rdata 2; digest_type = slice_index rdata 3; digest = drop 4 rdata })

abbrev pub nsec_from : Option (Labels × List ℕ) → Option NsecValue
nsec_from None = None
nsec_from (Some (next, types)) = if is_bitmap types then Some (record { next = next; types = types }) else None

-- NSEC (RFC 4034, 4.1)
unfoldable pub nsec_in : List ℕ → Option NsecValue
nsec_in rdata = nsec_from (name_in rdata)

abbrev pub nsec3_from : List ℕ → List ℕ → Option (List ℕ × List ℕ) → Option Nsec3Value
nsec3_from rdata salt None = None
nsec3_from rdata salt (Some (next, types)) =
    if is_bitmap types
    then Some (record { hash_algorithm = slice_index rdata 0; flags = slice_index rdata 1; iterations = u16_at rdata 2; salt = salt; next = next; types = types })
    else None

abbrev pub nsec3_after_salt : List ℕ → Option (List ℕ × List ℕ) → Option Nsec3Value
nsec3_after_salt rdata None = None
nsec3_after_salt rdata (Some (salt, rest)) = nsec3_from rdata salt (counted_in rest)

-- NSEC3 (RFC 5155, 3.2)
unfoldable pub nsec3_in : List ℕ → Option Nsec3Value
nsec3_in rdata = if nat_lt (length rdata) 4 then None else nsec3_after_salt rdata (counted_in (drop 4 rdata))

abbrev pub soa_numbers : Labels → Labels → List ℕ → Option SoaValue
soa_numbers mname rname rest =
    if length rest == 20
    then Some (record { mname = mname; rname = rname; serial = u32_at rest 0; refresh = u32_at rest 4; retry = u32_at rest 8; expire = u32_at rest 12; minimum = u32_at rest 16 })
    else None

-- SOA (RFC 1035, 3.3.13)
unfoldable pub soa_in : List ℕ → Option SoaValue
soa_in rdata = do
  mname ← name_in rdata
  rname ← name_in mname.1
  soa_numbers mname.0 rname.0 rname.1

-- NS (RFC 1035, 3.3.11)
unfoldable pub ns_in : List ℕ → Option Labels
ns_in rdata = whole_name (name_in rdata)

-- a DNSKEY's flag for a zone's keys (RFC 4034, 2.1.1)
abbrev pub is_zone_key : DnskeyValue → Bool
is_zone_key key = has_flag key.flags 0x0100

-- a DNSKEY's flag for a revoked key (RFC 5011, 2.1)
abbrev pub is_revoked : DnskeyValue → Bool
is_revoked key = has_flag key.flags 0x0080
