-- The rdata of each type as words (RFC 1035, 3.3; the RFCs named below). None where the rdata has not its type's shape, or has no text
-- that would be read as the same rdata.
use Rattle.std.specs.Prelude.{ℕ, Bool, ◌==◌, ◌&&◌, ◌||◌, nat_lt, List, [], ◌∷◌, ◌++◌, length, drop, map, if◌then◌else◌, Option, None, Some, option_map, slice_index}
use Rattle.std.specs.Char.{is_ascii_alphanumeric}
use Rattle.std.specs.Fmt.{decimal}
use Rattle.std.specs.List.{list_all}
use Rattle.std.specs.Net.Addr.{segments_of}
use Rattle.std.specs.Net.Text.{ipv4_text, ipv6_text}
use Rattle.base64.specs.GeneralPurpose.{encode_of}
use Rattle.base64.specs.Engines.{standard}
use Rattle.dns_model.specs.Bytes.{u16_at}
use Rattle.dns_model.specs.Names.{Labels}
use Rattle.dns_model.specs.NameForm.{name_of}
use Rattle.dns_model.specs.Nsec3Hash.{base32hex}
use Rattle.dns_model.specs.OptionSteps.{◌>>=◌}
use Rattle.dns_model.specs.Shapes.{counted_in}
use Rattle.dns_model.specs.Types.{type_a, type_ns, type_cname, type_soa, type_aaaa, type_dname, type_ds, type_rrsig, type_nsec, type_dnskey, type_nsec3}
use Rattle.dns_model.specs.Views.{RrsigValue, DnskeyValue, DsValue, NsecValue, Nsec3Value, SoaValue, rrsig_in, dnskey_in, ds_in, nsec_in, nsec3_in, soa_in}
use Rattle.dns_text.specs.Words.{octets_word}
use Rattle.dns_presentation.specs.Calendar.{time_text}
use Rattle.dns_presentation.specs.Spelling.{name_text, quoted, spaced}
use Rattle.dns_presentation.specs.TypeLists.{types_in}
use Rattle.dns_presentation.specs.TypeTexts.{type_text}

abbrev pub Words : Type 0
Words = List (List ℕ)

-- words that end with bytes, which can't be left out
abbrev pub where_some : List ℕ → Words → Option Words
where_some bytes words = if nat_lt 0 (length bytes) then Some words else None

-- bytes in base64 (RFC 4648, 4)
abbrev pub base64_word : List ℕ → List ℕ
base64_word bytes = encode_of standard bytes

-- an address of IPv4 (RFC 1035, 3.4.1)
unfoldable pub a_words : List ℕ → Option Words
a_words rdata = if length rdata == 4 then Some (ipv4_text rdata ∷ []) else None

-- an address of IPv6 (RFC 3596, 2.4; RFC 5952)
unfoldable pub aaaa_words : List ℕ → Option Words
aaaa_words rdata = if length rdata == 16 then Some (ipv6_text (segments_of rdata) ∷ []) else None

-- NS, CNAME, PTR, and DNAME (RFC 6672, 2.1)
unfoldable pub name_words : List ℕ → Option Words
name_words rdata = option_map (λ name. name_text name ∷ []) (name_of rdata)

-- preference and name
unfoldable pub mx_words : List ℕ → Option Words
mx_words rdata =
    if nat_lt (length rdata) 2 then None
    else option_map (λ name. decimal (u16_at rdata 0) ∷ name_text name ∷ []) (name_of (drop 2 rdata))

-- what an SRV record says (RFC 2782)
pub record SrvValue : Type 0 where
  pub priority : ℕ
  pub weight : ℕ
  pub port : ℕ
  pub target : Labels

abbrev pub srv_of : List ℕ → Labels → SrvValue
srv_of rdata target = record { priority = u16_at rdata 0; weight = u16_at rdata 2; port = u16_at rdata 4; target = target }

unfoldable pub srv_in : List ℕ → Option SrvValue
srv_in rdata = if nat_lt (length rdata) 6 then None else option_map (srv_of rdata) (name_of (drop 6 rdata))

abbrev pub srv_fields : SrvValue → Words
srv_fields srv = decimal srv.priority ∷ decimal srv.weight ∷ decimal srv.port ∷ name_text srv.target ∷ []

unfoldable pub srv_words : List ℕ → Option Words
srv_words rdata = option_map srv_fields (srv_in rdata)

-- the character-strings that the bytes are; the first list only bounds how many are read
unfoldable pub strings_in : List ℕ → List ℕ → Option (List (List ℕ))
strings_in bound [] = Some []
strings_in [] (byte ∷ bytes) = None
strings_in (_ ∷ bound) (byte ∷ bytes) = do
  text ← counted_in (byte ∷ bytes)
  texts ← strings_in bound text.1
  Some (text.0 ∷ texts)

-- one character-string or more, each between quotes
unfoldable pub txt_words : List ℕ → Option Words
txt_words rdata = strings_in rdata rdata >>= λ texts. where_some rdata (map quoted texts)

-- character-strings between quotes, a space before each
abbrev pub quoted_words : List (List ℕ) → List ℕ
quoted_words texts = spaced (map quoted texts)

abbrev pub soa_fields : SoaValue → Words
soa_fields soa =
    name_text soa.mname ∷ name_text soa.rname ∷ decimal soa.serial ∷ decimal soa.refresh ∷ decimal soa.retry ∷ decimal soa.expire
    ∷ decimal soa.minimum ∷ []

unfoldable pub soa_words : List ℕ → Option Words
soa_words rdata = option_map soa_fields (soa_in rdata)

abbrev pub ds_fields : DsValue → Option Words
ds_fields ds =
    where_some ds.digest (decimal ds.key_tag ∷ decimal ds.algorithm ∷ decimal ds.digest_type ∷ octets_word ds.digest ∷ [])

-- DS and CDS (RFC 4034, 5.3; RFC 7344, 3.1)
unfoldable pub ds_words : List ℕ → Option Words
ds_words rdata = ds_in rdata >>= ds_fields

abbrev pub dnskey_fields : DnskeyValue → Option Words
dnskey_fields key =
    where_some key.key (decimal key.flags ∷ decimal key.protocol ∷ decimal key.algorithm ∷ base64_word key.key ∷ [])

-- DNSKEY and CDNSKEY (RFC 4034, 2.2; RFC 7344, 3.2)
unfoldable pub dnskey_words : List ℕ → Option Words
dnskey_words rdata = dnskey_in rdata >>= dnskey_fields

-- what a signature says of the records and of its time
abbrev pub signed_fields : RrsigValue → Words
signed_fields sig =
    type_text sig.covered ∷ decimal sig.algorithm ∷ decimal sig.labels ∷ decimal sig.original_ttl ∷ time_text sig.expiration
    ∷ time_text sig.inception ∷ []

-- whose signature it is, and the signature
abbrev pub signer_fields : RrsigValue → Words
signer_fields sig = decimal sig.key_tag ∷ name_text sig.signer ∷ base64_word sig.signature ∷ []

abbrev pub rrsig_fields : RrsigValue → Option Words
rrsig_fields sig = where_some sig.signature (signed_fields sig ++ signer_fields sig)

-- RRSIG (RFC 4034, 3.2)
unfoldable pub rrsig_words : List ℕ → Option Words
rrsig_words rdata = rrsig_in rdata >>= rrsig_fields

abbrev pub nsec_fields : NsecValue → Option Words
nsec_fields nsec = option_map (λ types. name_text nsec.next ∷ map type_text types) (types_in nsec.types)

-- NSEC (RFC 4034, 4.2)
unfoldable pub nsec_words : List ℕ → Option Words
nsec_words rdata = nsec_in rdata >>= nsec_fields

-- the next hash, of 20 bytes as SHA-1 gives it, in base32hex without padding
abbrev pub nsec3_fields : Nsec3Value → Option Words
nsec3_fields nsec3 =
    if length nsec3.next == 20
    then option_map
    (λ types. decimal nsec3.hash_algorithm ∷ decimal nsec3.flags ∷ decimal nsec3.iterations ∷ octets_word nsec3.salt
    ∷ base32hex nsec3.next ∷ map type_text types)
    (types_in nsec3.types)
    else None

-- NSEC3 (RFC 5155, 3.3)
unfoldable pub nsec3_words : List ℕ → Option Words
nsec3_words rdata = nsec3_in rdata >>= nsec3_fields

-- bytes that are counted, where no others follow
abbrev pub whole_counted : Option (List ℕ × List ℕ) → Option (List ℕ)
whole_counted (Some (bytes, [])) = Some bytes
whole_counted _ = None

-- NSEC3PARAM (RFC 5155, 4.3)
unfoldable pub nsec3param_words : List ℕ → Option Words
nsec3param_words rdata =
    if nat_lt (length rdata) 4 then None
    else option_map
    (λ salt. decimal (slice_index rdata 0) ∷ decimal (slice_index rdata 1) ∷ decimal (u16_at rdata 2) ∷ octets_word salt ∷ [])
    (whole_counted (counted_in (drop 4 rdata)))

-- SSHFP (RFC 4255, 3.2)
unfoldable pub sshfp_words : List ℕ → Option Words
sshfp_words rdata =
    if nat_lt 2 (length rdata)
    then Some (decimal (slice_index rdata 0) ∷ decimal (slice_index rdata 1) ∷ octets_word (drop 2 rdata) ∷ [])
    else None

-- TLSA and SMIMEA (RFC 6698, 2.2; RFC 8162, 2)
unfoldable pub tlsa_words : List ℕ → Option Words
tlsa_words rdata =
    if nat_lt 3 (length rdata)
    then Some (decimal (slice_index rdata 0) ∷ decimal (slice_index rdata 1) ∷ decimal (slice_index rdata 2)
    ∷ octets_word (drop 3 rdata) ∷ [])
    else None

-- a tag has letters and digits, at least one
abbrev pub is_tag : List ℕ → Bool
is_tag tag = nat_lt 0 (length tag) && list_all is_ascii_alphanumeric tag

abbrev pub caa_fields : ℕ → List ℕ × List ℕ → Option Words
caa_fields flags (tag, value) = if is_tag tag then Some (decimal flags ∷ tag ∷ quoted value ∷ []) else None

-- CAA (RFC 8659, 4.1.1)
unfoldable pub caa_words : List ℕ → Option Words
caa_words [] = None
caa_words (flags ∷ rest) = counted_in rest >>= caa_fields flags

-- the words of an rdata that has its type's shape, for the types that have a form here: PTR is 12, MX 15, TXT 16, SRV 33, SSHFP 44,
-- NSEC3PARAM 51, TLSA 52, SMIMEA 53, CDS 59, CDNSKEY 60, CAA 257
unfoldable pub form_words : ℕ → List ℕ → Option Words
form_words rtype rdata =
    if rtype == type_a then a_words rdata
    else if (rtype == type_ns) || (rtype == type_cname) || (rtype == 12) || (rtype == type_dname) then name_words rdata
    else if rtype == type_soa then soa_words rdata
    else if rtype == 15 then mx_words rdata
    else if rtype == 16 then txt_words rdata
    else if rtype == type_aaaa then aaaa_words rdata
    else if rtype == 33 then srv_words rdata
    else if (rtype == type_ds) || (rtype == 59) then ds_words rdata
    else if rtype == 44 then sshfp_words rdata
    else if rtype == type_rrsig then rrsig_words rdata
    else if rtype == type_nsec then nsec_words rdata
    else if (rtype == type_dnskey) || (rtype == 60) then dnskey_words rdata
    else if rtype == type_nsec3 then nsec3_words rdata
    else if rtype == 51 then nsec3param_words rdata
    else if (rtype == 52) || (rtype == 53) then tlsa_words rdata
    else if rtype == 257 then caa_words rdata
    else None
