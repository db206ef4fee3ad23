-- The signatures of the zones: each is read as it was made, and is good by the zone's key.
use Rattle.std.proofs.Common.{◌≡◌, ℕ, zero, suc, ◌+◌, ◌*◌, ◌/◌, ◌%◌, ◌≤◌, ◌<◌, Bool, true, false, ◌==◌, List, [], ◌∷◌, ◌++◌, length, drop, None, Some, refl, ap, ◌∙◌, arith, if◌then◌else◌, nat_lt, nat_le}
use Rattle.std.specs.Prelude.{◌||◌, option_map}
use Rattle.std.specs.List.{list_any}
use Rattle.std.proofs.lemmas.Bool.{or_left, or_right}
use Rattle.std.proofs.lemmas.Bool.Decides.{nat_tests}
use Rattle.std.proofs.lemmas.List.Folds.{list_any-append}
use Rattle.dns_model.specs.Names.{Labels, folded, wire, at_or_above, num_labels}
use Rattle.dns_model.specs.NameForm.{name_in}
use Rattle.dns_model.specs.Types.{class_in}
use Rattle.dns_model.specs.Views.{RrsigValue, rrsig_in}
use Rattle.dns_model.specs.Views as views
use Rattle.dns_model.specs.Records.{Rr}
use Rattle.dns_model.specs.Keys.{AcceptedSignatureValue}
use Rattle.dns_model.specs.Signing.{key_tag_of}
use Rattle.dns_model.proofs.ChainLemmas.{bytes_refl}
use Rattle.dns_model.proofs.SetLemmas.{name_refl, number_refl, number_same}
use Rattle.dns_model.proofs.WireLemmas.{name_in-wire}
use Rattle.dns_rules.specs.ChainedSets.{ChainedSet}
use Rattle.dns_rules.specs.Marks.{first_two, counted_keys, is_key_set_of}
use Rattle.dns_rules.specs.Validity.{validity, is_good_by}
use Rattle.dns_evidence.specs.Listing.{is_entry}
use Rattle.dns_bench_zones.specs.NestedZones.{zone_name, key_rdata, record_of, key_record, ds_record, host_record, signature_by, signature_record, signature_octets, accepted_by, accepted_to, verifier, judge_of_zones}
use Rattle.dns_bench_zones.proofs.NameLemmas.{zone_is_name, folded_zone}
use Rattle.dns_bench_zones.proofs.PairLemmas.{Pair, pair_set, signature_of, AreItsKeys}
use Rattle.dns_bench_zones.proofs.ZoneKeyLemmas.{judged_keys_of, key_read}

-- ---- a signature is read

two_bytes : (n : ℕ) → n / 256 * 256 + n % 256 ≡ n
two_bytes n = omega arith

signer_read : (k : ℕ) → k ≤ 100
    → name_in (wire (folded (zone_name k)) ++ signature_octets) ≡ Some (zone_name k, signature_octets)
signer_read k low =
    ap (λ name. name_in (wire name ++ signature_octets)) (folded_zone k) ∙ name_in-wire
    (zone_name k) signature_octets (zone_is_name k low)

abbrev sig_with : ℕ → Rr → ℕ → ℕ → RrsigValue
sig_with k r covered tag = record (signature_by k r) { covered = covered; key_tag = tag }

-- what was written is what was said
said_is : (k : ℕ) (r : Rr)
    → views.rrsig_of (signature_record k r).rdata (zone_name k) signature_octets ≡ signature_by k r
said_is k r =
    let tag = key_tag_of (key_rdata k) in
    ap (λ c. sig_with k r c (tag / 256 * 256 + tag % 256)) (two_bytes r.rtype)
    ∙ ap (sig_with k r r.rtype) (two_bytes tag)

pub signature_is_read : (k : ℕ) → k ≤ 100 → (r : Rr) → rrsig_in (signature_record k r).rdata ≡ Some (signature_by k r)
unfolding rrsig_in
signature_is_read k low r =
    let rdata = (signature_record k r).rdata in
    let long : nat_lt (length rdata) 18 ≡ false = grind (arith, nat_tests) in
    ap (λ b. if b then None else option_map (λ signer. views.rrsig_of rdata signer.0 signer.1)
    (name_in (drop 18 rdata))) long
    ∙ ap (option_map (λ signer. views.rrsig_of rdata signer.0 signer.1)) (signer_read k low)
    ∙ ap (λ sig. Some sig) (said_is k r)

-- ---- it is accepted

itself : (e : AcceptedSignatureValue) → is_entry e e ≡ true
itself e = rw (number_refl e.algorithm, bytes_refl e.key, bytes_refl e.bytes, bytes_refl e.signature) refl

in_front : (e : AcceptedSignatureValue) (front back : List AcceptedSignatureValue) → list_any (is_entry e) front ≡ true
    → list_any (is_entry e) (front ++ back) ≡ true
in_front e front back h =
    list_any-append (is_entry e) front back ∙ or_left (list_any (is_entry e) front) (list_any (is_entry e) back) h

at_end : (e : AcceptedSignatureValue) (front : List AcceptedSignatureValue)
    → list_any (is_entry e) (front ++ e ∷ []) ≡ true
at_end e front =
    list_any-append (is_entry e) front (e ∷ [])
    ∙ or_right (list_any (is_entry e) front) (is_entry e e || false) (or_left (is_entry e e) false (itself e))

ds_accepted_to : (n k : ℕ) → k < n → list_any (is_entry (accepted_by k (ds_record (suc k)))) (accepted_to n) ≡ true
unfolding accepted_to
ds_accepted_to zero k low = absurd (omega (arith, low))
ds_accepted_to (suc n) k low = by_last (k == n) refl (λ less. ds_accepted_to n k less)
  where
    by_last : (b : Bool) → (k == n) ≡ b
        → (k < n → list_any (is_entry (accepted_by k (ds_record (suc k)))) (accepted_to n) ≡ true)
        → list_any (is_entry (accepted_by k (ds_record (suc k))))
        (accepted_to n ++ accepted_by n (ds_record (suc n)) ∷ []) ≡ true
    by_last true same later = rw (number_same k n same) (at_end (accepted_by n (ds_record (suc n))) (accepted_to n))
    by_last false other later =
        let less : k < n = grind (arith, nat_tests) in
        in_front (accepted_by k (ds_record (suc k))) (accepted_to n) (accepted_by n (ds_record (suc n)) ∷ [])
        (later less)

-- the signatures of the DS sets, and that of the host
abbrev pub Accepts : ℕ → ℕ → Rr → Type 0
Accepts n k r = list_any (is_entry (accepted_by k r)) (verifier n).accepted ≡ true

pub ds_accepted : (n k : ℕ) → k < n → Accepts n k (ds_record (suc k))
ds_accepted n k low =
    in_front (accepted_by k (ds_record (suc k))) (accepted_to n) (accepted_by n (host_record n) ∷ [])
    (ds_accepted_to n k low)

pub host_accepted : (n : ℕ) → Accepts n n (host_record n)
host_accepted n = at_end (accepted_by n (host_record n)) (accepted_to n)

-- ---- a record and a zone's signature of it

abbrev pub signed_pair : ℕ → Rr → Pair
signed_pair k r = record {
  owner = r.owner;
  rtype = r.rtype;
  rdata = r.rdata;
  text = (signature_record k r).rdata;
  sig = signature_by k r;
}

counted : (k : ℕ) → counted_keys (zone_name k) (key_record k ∷ []) ≡ key_record k ∷ []
unfolding first_two
counted k = rw (name_refl (zone_name k), key_read k) refl

-- the signature of a record at or below a zone is good by the zone's key
is_good : (n k : ℕ) → k ≤ 100 → (owner : Labels) (rtype : ℕ) (rdata : List ℕ) → at_or_above (zone_name k) owner ≡ true
    → Accepts n k (record_of owner rtype rdata)
    → is_good_by (judge_of_zones n) (pair_set (signed_pair k (record_of owner rtype rdata)))
    (signature_of (signed_pair k (record_of owner rtype rdata)))
    (key_record k) ≡ true
unfolding is_good_by validity
is_good n k low owner rtype rdata above accepted =
    let least : nat_le (num_labels owner) (num_labels owner) ≡ true = grind (arith, nat_tests) in
    rw (
      signature_is_read k low (record_of owner rtype rdata),
      name_refl owner,
      above,
      number_refl rtype,
      least,
      key_read k,
      name_refl (zone_name k),
      number_refl (key_tag_of (key_rdata k)),
      accepted,
    ) refl

-- so the zone's keys prove it
pub proved_by_zone : (n k : ℕ) → k ≤ 100 → (owner : Labels) (rtype : ℕ) (rdata : List ℕ)
    → at_or_above (zone_name k) owner ≡ true
    → Accepts n k (record_of owner rtype rdata) → (keys : ChainedSet) → keys.judged ≡ judged_keys_of k
    → AreItsKeys (judge_of_zones n) (signed_pair k (record_of owner rtype rdata)) keys (key_record k)
proved_by_zone n k low owner rtype rdata above accepted keys is = record {
  secure = ap (λ s. s.mark) is;
  of_signer = ap (is_key_set_of class_in (zone_name k)) is ∙ rw (name_refl (zone_name k)) refl;
  good = rw (is, counted k, is_good n k low owner rtype rdata above accepted) refl;
}
