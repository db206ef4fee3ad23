-- A chain through a delegation, worked out: a key, its DS in the zone above, and what may not stand for it.
use Rattle.std.specs.Prelude.{◌≡◌, ℕ, true, false, ◌==◌, List, [], ◌∷◌, ◌++◌, refl}
use Rattle.sha2.specs.Sha256.{sha256, first_words, schedule, rounds, compress, hash_after, digest_bytes}
use Rattle.dns_model.specs.Bytes.{u16_bytes, u32_bytes}
use Rattle.dns_model.specs.Names.{Labels, wire}
use Rattle.dns_model.specs.NameForm.{label_in, labels_in, name_in}
use Rattle.dns_model.specs.Signing.{ds_digest, tag_sum}
use Rattle.dns_model.specs.Views.{rrsig_in, dnskey_in, ds_in}
use Rattle.dns_model.specs.Keys.{VerifierAnswers, ds_covers_key}
use Rattle.dns_model.specs.Chains.{LinkValue, Anchored, Matched, KeySet, Signed, judge, justified, links_hold, link_holds, all_shown}
use Rattle.dns_model.proofs.Worked.{example, upper_example, letter_a, key, anchors}

-- a verifier that takes every signature of algorithm 13 for good
abbrev pub trusting : VerifierAnswers
trusting = record { supports = λ algorithm. algorithm == 13; accepts = λ algorithm public bytes sig. algorithm == 13 }

-- the SHA-256 digest of `example.` and the key, under the key's tag and algorithm
abbrev pub ds_of_key : List ℕ
ds_of_key =
    174 ∷ 201 ∷ 13 ∷ 2 ∷ 154 ∷ 119 ∷ 17 ∷ 57 ∷ 140 ∷ 248 ∷ 156 ∷ 111 ∷ 234 ∷ 132 ∷ 81 ∷ 83 ∷ 142 ∷ 28
    ∷ 96 ∷ 92 ∷ 163 ∷ 74 ∷ 222 ∷ 215 ∷ 116 ∷ 44 ∷ 40 ∷ 238 ∷ 81 ∷ 68 ∷ 213 ∷ 187 ∷ 235 ∷ 70 ∷ 255 ∷ 41 ∷ []

pub ds_matches : ds_covers_key trusting (example ∷ []) key ds_of_key ≡ true
unfolding dnskey_in ds_in tag_sum ds_digest sha256 first_words schedule rounds compress hash_after digest_bytes
ds_matches = refl

pub ds_matches_in_upper_case : ds_covers_key trusting (upper_example ∷ []) key ds_of_key ≡ true
unfolding dnskey_in ds_in tag_sum ds_digest sha256 first_words schedule rounds compress hash_after digest_bytes
ds_matches_in_upper_case = refl

pub ds_matches_no_other_owner : ds_covers_key trusting (letter_a ∷ example ∷ []) key ds_of_key ≡ false
unfolding dnskey_in ds_in tag_sum ds_digest sha256 first_words schedule rounds compress hash_after digest_bytes
ds_matches_no_other_owner = refl

-- the rdata of a signature by the key, from 900 to 2000
abbrev pub signature_of : ℕ → ℕ → Labels → List ℕ
signature_of covered labels signer =
    u16_bytes covered ++ (13 ∷ labels ∷ []) ++ u32_bytes 3600 ++ u32_bytes 2000 ++ u32_bytes 900 ++ u16_bytes 44745 ++ wire signer
    ++ (192 ∷ 222 ∷ [])

-- the root's key set, a DS set of an owner signed by a signer, the key of `example.` by that DS set, its key set,
-- and an address signed by it
abbrev pub chain_over : Labels → Labels → List LinkValue
chain_over owner signer =
    Anchored [] 1 key ∷ KeySet [] 1 (key ∷ []) (0 ∷ []) ∷ Signed owner 1 43 (ds_of_key ∷ []) (signature_of 43 1 signer) 1 key
    ∷ Matched (example ∷ []) 1 key 2 ds_of_key ∷ Signed (example ∷ []) 1 48 (key ∷ []) (signature_of 48 1 (example ∷ [])) 3 key
    ∷ Signed (letter_a ∷ example ∷ []) 1 1 ((127 ∷ 0 ∷ 0 ∷ 1 ∷ []) ∷ []) (signature_of 1 2 (example ∷ [])) 4 key ∷ []

pub justified_over : justified (judge trusting anchors 1000) (chain_over (example ∷ []) []) ≡ true
unfolding links_hold link_holds all_shown rrsig_in dnskey_in ds_in name_in labels_in label_in tag_sum ds_digest sha256
    first_words schedule rounds compress hash_after digest_bytes
justified_over = refl

pub no_other_owner : justified (judge trusting anchors 1000) (chain_over (letter_a ∷ []) []) ≡ false
unfolding links_hold link_holds all_shown rrsig_in dnskey_in ds_in name_in labels_in label_in tag_sum ds_digest sha256
    first_words schedule rounds compress hash_after digest_bytes
no_other_owner = refl

pub no_ds_by_its_own_zone : justified (judge trusting anchors 1000) (chain_over (example ∷ []) (example ∷ [])) ≡ false
unfolding links_hold link_holds all_shown rrsig_in dnskey_in ds_in name_in labels_in label_in tag_sum ds_digest sha256
    first_words schedule rounds compress hash_after digest_bytes
no_ds_by_its_own_zone = refl
