-- The bytes that a signature is over, key tags and digests (RFC 4034, 3.1.8.1, 5.1.4, 6 and appendix B; RFC 4509; RFC 6605).
use Rattle.std.specs.Prelude.{ℕ, ◌+◌, ◌*◌, ◌/◌, ◌%◌, nat_lt, ◌==◌, List, [], ◌∷◌, ◌++◌, map, length, if◌then◌else◌, Option, None, Some}
use Rattle.std.specs.Ordering.{nat_cmp}
use Rattle.std.specs.declared.cmp.Ordering.{Ordering}
use Rattle.std.specs.declared.cmp.Ordering.TheVariants.{Less, Equal, Greater}
use Rattle.std.specs.Cmp.Lexicographic.{slice_cmp}
use Rattle.std.specs.List.{concat}
use Rattle.sha1.specs.Sha1.{sha1}
use Rattle.sha2.specs.Sha256.{sha256}
use Rattle.sha2.specs.Sha512.{sha384}
use Rattle.dns_model.specs.Bytes.{u16_bytes, u32_bytes}
use Rattle.dns_model.specs.Names.{Labels, folded, wire, last_labels, star, num_labels}
use Rattle.dns_model.specs.Shapes.{canonical_form}
use Rattle.dns_model.specs.Views.{RrsigValue}

abbrev pub placed_by : Ordering → List ℕ → List ℕ → List (List ℕ) → List (List ℕ) → List (List ℕ)
placed_by Less x y ys placed = x ∷ y ∷ ys
placed_by Equal x y ys placed = y ∷ ys
placed_by Greater x y ys placed = y ∷ placed

-- x at its place in a rising list, once
unfoldable pub insert_once : List ℕ → List (List ℕ) → List (List ℕ)
insert_once x [] = x ∷ []
insert_once x (y ∷ ys) = placed_by (slice_cmp nat_cmp x y) x y ys (insert_once x ys)

-- byte lists in rising order, each once (RFC 4034, 6.3)
unfoldable pub rising_once : List (List ℕ) → List (List ℕ)
rising_once [] = []
rising_once (x ∷ xs) = insert_once x (rising_once xs)

-- the owner as it was signed: the wildcard that it was expanded from where Labels says so, lower-cased (RFC 4035, 5.3.2)
abbrev pub signed_owner : Labels → ℕ → Labels
signed_owner owner labels = folded (if nat_lt labels (num_labels owner) then star (last_labels labels owner) else owner)

-- a signature's rdata without the signature itself, the signer lower-cased
abbrev pub signed_head : RrsigValue → List ℕ
signed_head sig =
    u16_bytes sig.covered ++ (sig.algorithm ∷ sig.labels ∷ []) ++ u32_bytes sig.original_ttl ++ u32_bytes sig.expiration
    ++ u32_bytes sig.inception ++ u16_bytes sig.key_tag ++ wire (folded sig.signer)

-- one record as it was signed
abbrev pub signed_record : Labels → ℕ → ℕ → RrsigValue → List ℕ → List ℕ
signed_record owner rtype class sig rdata =
    wire (signed_owner owner sig.labels) ++ u16_bytes rtype ++ u16_bytes class ++ u32_bytes sig.original_ttl
    ++ u16_bytes (length rdata) ++ rdata

-- the bytes that a signature of a set is over
unfoldable pub signed_bytes : Labels → ℕ → ℕ → List (List ℕ) → RrsigValue → List ℕ
signed_bytes owner rtype class rdatas sig =
    signed_head sig ++ concat (map (signed_record owner rtype class sig) (rising_once (map (canonical_form rtype) rdatas)))

-- the sum of the bytes, those at even places shifted left by 8
unfoldable pub tag_sum : List ℕ → ℕ
tag_sum [] = 0
tag_sum (high ∷ []) = high * 256
tag_sum (high ∷ low ∷ rest) = high * 256 + low + tag_sum rest

-- the bits of the sum from 16 up are added once, and 16 bits kept
abbrev pub key_tag_of : List ℕ → ℕ
key_tag_of rdata = (tag_sum rdata + tag_sum rdata / 65536) % 65536

abbrev pub key_tag : List ℕ → Option ℕ
key_tag rdata = if nat_lt (length rdata) 4 then None else Some (key_tag_of rdata)

-- the digest of an owner and a key, for the digest types that are supported: 1 is SHA-1, 2 SHA-256 and 4 SHA-384
unfoldable pub ds_digest : ℕ → Labels → List ℕ → Option (List ℕ)
ds_digest digest_type owner key =
    if digest_type == 1 then Some (sha1 (wire (folded owner) ++ key))
    else if digest_type == 2 then Some (sha256 (wire (folded owner) ++ key))
    else if digest_type == 4 then Some (sha384 (wire (folded owner) ++ key))
    else None
