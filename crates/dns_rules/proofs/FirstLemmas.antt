-- The first two keys of each tag, and the first signature that is good by a key that may sign, found one after the other.
use Rattle.std.proofs.Common.{◌≡◌, ℕ, ◌+◌, Bool, true, false, cond, List, [], ◌∷◌, ◌++◌, map, length, take, Option, None, Some, refl, sym, ap, ◌∙◌, arith, append_assoc, length-append}
use Rattle.std.specs.Prelude.{nat_lt, slice_get}
use Rattle.std.specs.List.{filter, filter_map, cons_option, count_by, enumerate_from, AllByRecursion}
use Rattle.std.specs.Option.{option_map}
use Rattle.dns_model.specs.Records.{Rr, RrSet}
use Rattle.dns_model.specs.Chains.{Judge}
use Rattle.dns_model.proofs.EachLemmas.{each_of}
use Rattle.dns_rules.specs.Marks.{same_tag, first_two}
use Rattle.dns_rules.specs.KeySets.{SignedKeys, signer_among, first_signed}
use Rattle.dns_rules.specs.MarkParts.{is_early}

-- ---- the first two of each tag

-- the keys that count of a list, after those that were met
unfoldable pub early_after : List Rr → List Rr → List Rr
early_after met [] = []
early_after met (key ∷ keys) =
    cond (nat_lt (count_by (same_tag key) met) 2) (key ∷ early_after (met ++ key ∷ []) keys) (early_after (met ++ key ∷ []) keys)

take_met : (met rest : List Rr) → take (length met) (met ++ rest) ≡ met
take_met [] rest = refl
take_met (x ∷ met) rest = ap (λ xs. x ∷ xs) (take_met met rest)

early_step : (b : Bool) (n : ℕ) (key : Rr) (numbered : List (ℕ × Rr)) (keys : List Rr) → map (λ p. p.1) numbered ≡ keys
    → map (λ p. p.1) (cond b ((n, key) ∷ numbered) numbered) ≡ cond b (key ∷ keys) keys
early_step true n key numbered keys h = ap (λ ks. key ∷ ks) h
early_step false n key numbered keys h = h

early_from : (all met rest : List Rr) (n : ℕ) → met ++ rest ≡ all → n ≡ length met
    → map (λ p. p.1) (filter (is_early all) (enumerate_from n rest)) ≡ early_after met rest
unfolding early_after
early_from all met [] n is at = refl
early_from all met (key ∷ keys) n is at =
    let before : take n all ≡ met = ap (λ k. take k all) at ∙ ap (take (length met)) (sym is) ∙ take_met met (key ∷ keys) in
    let next : (met ++ key ∷ []) ++ keys ≡ all = append_assoc met (key ∷ []) keys ∙ is in
    let longer : n + 1 ≡ length (met ++ key ∷ []) = omega (arith, length-append met (key ∷ [])) in
    early_step (is_early all (n, key)) n key (filter (is_early all) (enumerate_from (n + 1) keys)) (early_after (met ++ key ∷ []) keys)
    (early_from all (met ++ key ∷ []) keys (n + 1) next longer)
    ∙ ap (λ ks. cond (nat_lt (count_by (same_tag key) ks) 2) (key ∷ early_after (met ++ key ∷ []) keys)
    (early_after (met ++ key ∷ []) keys)) before

pub first_two-after : (keys : List Rr) → first_two keys ≡ early_after [] keys
unfolding first_two
first_two-after keys = early_from keys [] keys 0 refl refl

-- ---- the first signature

-- a signature with its place, and the key that signs
abbrev pub signed_as : ℕ → Rr → Rr → SignedKeys
signed_as n signature key = record { place = n; signature = signature; key = key }

-- the first of some signatures, the number of the first of them given, for which a signer is found
unfoldable pub signed_from : (Rr → Option Rr) → ℕ → List Rr → Option SignedKeys
signed_from signer n signatures =
    slice_get (filter_map (λ p. option_map (signed_as p.0 p.1) (signer p.1)) (enumerate_from n signatures)) 0

pub first_signed-from : (may_sign : Rr → Bool) (j : Judge) (set : RrSet) (signatures : List Rr)
    → first_signed may_sign j set signatures ≡ signed_from (signer_among may_sign j set) 0 signatures
unfolding first_signed signed_from
first_signed-from may_sign j set signatures = refl

abbrev pub signed_or : ℕ → Rr → Option Rr → Option SignedKeys → Option SignedKeys
signed_or n signature None rest = rest
signed_or n signature (Some key) rest = Some (signed_as n signature key)

signed_step : (n : ℕ) (signature : Rr) (o : Option Rr) (rest : List SignedKeys)
    → slice_get (cons_option (option_map (signed_as n signature) o) rest) 0 ≡ signed_or n signature o (slice_get rest 0)
signed_step n signature None rest = refl
signed_step n signature (Some key) rest = refl

pub signed_none : (signer : Rr → Option Rr) (n : ℕ) → signed_from signer n [] ≡ None
unfolding signed_from
signed_none signer n = refl

-- the first signature decides, or one of the others
pub signed_more : (signer : Rr → Option Rr) (n : ℕ) (signature : Rr) (signatures : List Rr)
    → signed_from signer n (signature ∷ signatures) ≡ signed_or n signature (signer signature) (signed_from signer (n + 1) signatures)
unfolding signed_from
signed_more signer n signature signatures =
    signed_step n signature (signer signature)
    (filter_map (λ p. option_map (signed_as p.0 p.1) (signer p.1)) (enumerate_from (n + 1) signatures))

-- signers that agree on each signature find the same
pub signed_agree_each : (signer other : Rr → Option Rr) (n : ℕ) (signatures : List Rr) → AllByRecursion (λ r. signer r ≡ other r) signatures
    → signed_from signer n signatures ≡ signed_from other n signatures
signed_agree_each signer other n [] same = signed_none signer n ∙ sym (signed_none other n)
signed_agree_each signer other n (r ∷ rs) same =
    signed_more signer n r rs
    ∙ ap (λ o. signed_or n r o (signed_from signer (n + 1) rs)) same.0
    ∙ ap (signed_or n r (other r)) (signed_agree_each signer other (n + 1) rs same.1)
    ∙ sym (signed_more other n r rs)

pub signed_agree : (signer other : Rr → Option Rr) → ((r : Rr) → signer r ≡ other r) → (n : ℕ) (signatures : List Rr)
    → signed_from signer n signatures ≡ signed_from other n signatures
signed_agree signer other same n signatures =
    signed_agree_each signer other n signatures (each_of (λ r. signer r ≡ other r) same signatures)

unsigned_step : (n : ℕ) (r : Rr) (o : Option Rr) (rest : Option SignedKeys) → signed_or n r o rest ≡ None → (o ≡ None) × (rest ≡ None)
unsigned_step n r None rest h = (refl, h)
unsigned_step n r (Some key) rest h = cc

-- where no signature is found, there is a signer of none
pub unsigned_each : (signer : Rr → Option Rr) (n : ℕ) (signatures : List Rr) → signed_from signer n signatures ≡ None
    → AllByRecursion (λ r. signer r ≡ None) signatures
unsigned_each signer n [] h = tt
unsigned_each signer n (r ∷ rs) h =
    let parts = unsigned_step n r (signer r) (signed_from signer (n + 1) rs) (sym (signed_more signer n r rs) ∙ h) in
    (parts.0, unsigned_each signer (n + 1) rs parts.1)
