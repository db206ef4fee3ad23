-- Verifiers, trust anchors, and which keys may sign (RFC 4034, 2.1; RFC 4035, 5.2 and 5.3.1; RFC 5011, 2.1).
use Rattle.std.specs.Prelude.{ℕ, Bool, false, not, ◌==◌, ◌&&◌, List, Option, Some}
use Rattle.std.specs.List.{list_any}
use Rattle.std.specs.Cmp.Lexicographic.{pointwise}
use Rattle.std.specs.Prelude.{nat_eq}
use Rattle.dns_model.specs.Names.{Labels, name_eq}
use Rattle.dns_model.specs.Views.{DnskeyValue, DsValue, dnskey_in, ds_in, is_zone_key, is_revoked}
use Rattle.dns_model.specs.Signing.{key_tag_of, ds_digest}
use Rattle.std.specs.Option.{option_map_or}

-- byte lists compare byte for byte
abbrev pub bytes_eq : List ℕ → List ℕ → Bool
bytes_eq = pointwise nat_eq

-- what a verifier answers: which algorithms it supports, and which signatures (algorithm, key, bytes, signature) it accepts
pub record VerifierAnswers : Type 0 where
  pub supports : ℕ → Bool
  pub accepts : ℕ → List ℕ → List ℕ → List ℕ → Bool

-- a signature over bytes that a verifier accepts as a key's, under an algorithm
pub record AcceptedSignatureValue : Type 0 where
  pub algorithm : ℕ
  pub key : List ℕ
  pub bytes : List ℕ
  pub signature : List ℕ

-- a trust anchor: a zone's key, its flags aside
pub record AnchorValue : Type 0 where
  pub owner : Labels
  pub algorithm : ℕ
  pub key : List ℕ

abbrev pub is_anchor : Labels → ℕ → List ℕ → AnchorValue → Bool
is_anchor owner algorithm key anchor =
    name_eq owner anchor.owner && ((algorithm == anchor.algorithm) && bytes_eq key anchor.key)

abbrev pub holds_anchor : List AnchorValue → Labels → ℕ → List ℕ → Bool
holds_anchor anchors owner algorithm key = list_any (is_anchor owner algorithm key) anchors

-- the key can be read, and is an anchor of its owner
abbrev pub anchored : List AnchorValue → Labels → List ℕ → Bool
anchored anchors owner key = option_map_or (λ k. holds_anchor anchors owner k.algorithm k.key) (dnskey_in key) false

-- a DS covers a key: its digest type is supported and the digest is that of owner and key
abbrev pub covers_key : Labels → List ℕ → DsValue → Bool
covers_key owner key ds = option_map_or (λ expected. bytes_eq expected ds.digest) (ds_digest ds.digest_type owner key) false

abbrev pub matches_read : VerifierAnswers → Labels → List ℕ → Option DnskeyValue → Option DsValue → Bool
matches_read answers owner rdata (Some key) (Some ds) =
    (key.algorithm == ds.algorithm) && ((key_tag_of rdata == ds.key_tag) && (answers.supports ds.algorithm && covers_key owner rdata ds))
matches_read answers owner rdata _ _ = false

-- a DS rdata matches a key rdata of that owner
abbrev pub ds_covers_key : VerifierAnswers → Labels → List ℕ → List ℕ → Bool
ds_covers_key answers owner key ds = matches_read answers owner key (dnskey_in key) (ds_in ds)

-- a key that may sign records
abbrev pub usable_key : VerifierAnswers → DnskeyValue → Bool
usable_key answers key = is_zone_key key && (not (is_revoked key) && ((key.protocol == 3) && answers.supports key.algorithm))
