-- A DS record that names a key of its zone and has another digest: what is said of it (RFC 4034, 5.1; RFC 4035, 5.2).
use Rattle.std.specs.Prelude.{ℕ, Bool, false, not, ◌==◌, ◌&&◌, List, [], ◌++◌, codes, Option, None, Some, is_some, slice_get}
use Rattle.std.specs.Fmt.{decimal}
use Rattle.std.specs.List.{find, list_any}
use Rattle.std.specs.Option.{option_map_or, option_and_then}
use Rattle.dns_model.specs.declared.section.Section.TheVariants.{Answer}
use Rattle.dns_model.specs.declared.trail.AskRef.{AskRef}
use Rattle.dns_model.specs.declared.trail.AskRef.TheVariants.{Step, TooDeep, TooMany}
use Rattle.dns_model.specs.Keys.{covers_key}
use Rattle.dns_model.specs.Names.{Labels, name_eq}
use Rattle.dns_model.specs.Records.{Rr}
use Rattle.dns_model.specs.RecordViews.{dnskey_of, read_as}
use Rattle.dns_model.specs.Signing.{key_tag}
use Rattle.dns_model.specs.Types.{type_ds}
use Rattle.dns_model.specs.Views.{DsValue, ds_in}
use Rattle.dns_rdata.specs.Covers.{digest_type_of}
use Rattle.dns_query_answer.specs.Following.{blamed_ask}
use Rattle.dns_query_answer.specs.Places.{Explained, Place, heard_section, records_beside}

-- the rdata of a key with this tag
abbrev pub has_tag : ℕ → List ℕ → Bool
has_tag tag rdata = option_map_or (λ found. found == tag) (key_tag rdata) false

-- a key of an owner that a DS record names, by tag and algorithm
abbrev pub names_key : Labels → DsValue → Rr → Bool
names_key owner ds r =
    name_eq owner r.owner
    && option_map_or (λ key. (key.algorithm == ds.algorithm) && has_tag ds.key_tag r.rdata) (dnskey_of r) false

-- and whose digest it has
abbrev pub has_digest : Labels → DsValue → Rr → Bool
has_digest owner ds r = names_key owner ds r && covers_key owner r.rdata ds

-- a DS record of a supported digest type that names a key, and has the digest of no key that it names
abbrev pub is_of_another_digest : Labels → List Rr → DsValue → Bool
is_of_another_digest owner keys ds =
    is_some (digest_type_of ds.digest_type) && (list_any (names_key owner ds) keys && not (list_any (has_digest owner ds) keys))

abbrev pub tells_another_digest : Labels → List Rr → Rr → Bool
tells_another_digest owner keys r = option_map_or (is_of_another_digest owner keys) (read_as type_ds ds_in r) false

-- the DS records that an ask was answered with
abbrev pub ds_records : Explained → Option AskRef → List Rr
ds_records g (Some (Step n)) = option_map_or (λ step. heard_section step.reply Answer) (slice_get g.steps n) []
ds_records g (Some TooDeep) = []
ds_records g (Some TooMany) = []
ds_records g None = []

-- the first of them that is to blame for a key set
abbrev pub blamed_ds : Explained → Place → Option DsValue
blamed_ds g p =
    option_and_then (read_as type_ds ds_in)
    (find (tells_another_digest p.set.owner (records_beside p)) (ds_records g (blamed_ask g.steps p.set.asked)))

-- `: the DS record of key TAG has another digest`
unfoldable pub ds_key_words : DsValue → List ℕ
ds_key_words ds = codes ": the DS record of key " ++ decimal ds.key_tag

unfoldable pub ds_words : DsValue → List ℕ
ds_words ds = ds_key_words ds ++ codes " has another digest"

abbrev pub digest_words : Explained → Place → List ℕ
digest_words g p = option_map_or ds_words (blamed_ds g p) []
