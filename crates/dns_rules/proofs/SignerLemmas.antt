-- Keys with one rdata that may sign a key set sign alike, so that each is tried once (RFC 4035, 5.3.3).
use Rattle.std.proofs.Common.{◌≡◌, ℕ, Bool, true, false, not, ◌==◌, ◌&&◌, List, take, Option, None, Some, refl, sym, ap, ◌∙◌}
use Rattle.std.specs.Prelude.{is_some, if◌then◌else◌}
use Rattle.std.specs.Option.{option_map_or}
use Rattle.std.specs.List.{filter, find}
use Rattle.std.proofs.lemmas.Bool.{and_parts}
use Rattle.dns_model.specs.Names.{Labels, name_eq}
use Rattle.dns_model.specs.Types.{type_dnskey}
use Rattle.dns_model.specs.Views.{RrsigValue, DnskeyValue, dnskey_in, is_zone_key}
use Rattle.dns_model.specs.RecordViews.{rrsig_of, dnskey_of}
use Rattle.dns_model.specs.Signing.{key_tag_of}
use Rattle.dns_model.specs.Records.{Rr, RrSet}
use Rattle.dns_model.specs.Keys.{ds_covers_key}
use Rattle.dns_model.specs.Chains.{Judge}
use Rattle.dns_model.proofs.NameLemmas.{name_equiv}
use Rattle.dns_model.proofs.EachLemmas.{each_more, each_passes, find_agree_each, find_known}
use Rattle.dns_model.proofs.SetLemmas.{name_back, name_trans, name_left}
use Rattle.dns_rules.specs.Validity.{ValidRrsig, ExpiredRrsig, WrongDnskey, WrongRrsig, is_of_set, validity, is_valid, is_good_by}
use Rattle.dns_rules.specs.Marks.{most_signatures}
use Rattle.dns_rules.specs.Delegations.{ds_of, is_ds_for, counted_ds, matching_ds}
use Rattle.dns_rules.specs.KeySets.{is_anchored_key, is_matched_key, signer_among, signed_by}
use Rattle.dns_rules.specs.MarkParts.{is_accepted}
use Rattle.dns_rules.proofs.FindLemmas.{each_taken, each_fails, find-both}
use Rattle.dns_rules.proofs.FirstLemmas.{signed_from, first_signed-from, signed_agree, signed_agree_each, unsigned_each}

-- the keys that may sign are tried one after the other
pub signer_among-filter : (may_sign : Rr → Bool) (j : Judge) (set : RrSet) (r : Rr)
    → signer_among may_sign j set r ≡ find (is_good_by j set r) (filter may_sign set.records)
signer_among-filter may_sign j set r = find-both may_sign (is_good_by j set r) set.records

-- a signature is found among those keys, or among others that find the same
pub signed_among : (may_sign : Rr → Bool) (j : Judge) (set : RrSet) (keys : List Rr)
    → ((r : Rr) → find (is_good_by j set r) keys ≡ find (is_good_by j set r) (filter may_sign set.records))
    → signed_from (λ r. find (is_good_by j set r) keys) 0 (take most_signatures set.signatures) ≡ signed_by may_sign j set
signed_among may_sign j set keys same =
    let rs = take most_signatures set.signatures in
    signed_agree (λ r. find (is_good_by j set r) keys) (signer_among may_sign j set) (λ r. same r
    ∙ sym (signer_among-filter may_sign j set r)) 0 rs
    ∙ sym (first_signed-from may_sign j set rs)

-- ---- keys of a set

-- a key of the set's owner
pub record IsKeyOf (set : RrSet) (key : Rr) : Type 0 where
  pub owner : name_eq set.owner key.owner ≡ true
  pub rtype : (key.rtype == type_dnskey) ≡ true

pub anchored_is_key : (j : Judge) (set : RrSet) (key : Rr) → is_anchored_key j set key ≡ true → IsKeyOf set key
anchored_is_key j set key h =
    let one = and_parts (key.rtype == type_dnskey) (name_eq set.owner key.owner && j.is_anchored set.owner key.rdata) h in
    record { owner = (and_parts (name_eq set.owner key.owner) (j.is_anchored set.owner key.rdata) one.1).0; rtype = one.0 }

typed : {X : Type 0} (is : Bool) (o : Option X) (test : X → Bool) → option_map_or test (if is then o else None) false ≡ true → is ≡ true
typed true o test h = refl
typed false o test h = cc

matched_step : (j : Judge) (set : RrSet) (ds : List Rr) (key : Rr) (o : Option Rr) → matching_ds j.answers set.owner key ds ≡ o
    → is_some o ≡ true
    → (key.rtype == type_dnskey) ≡ true
matched_step j set ds key None is h = cc
matched_step j set ds key (Some d) is h =
    let For = λ (r : Rr). is_ds_for set.owner key r ≡ true in
    let counted = each_taken For 2 (filter (is_ds_for set.owner key) ds) (each_passes (is_ds_for set.owner key) ds) in
    let found = find_known (λ r. ds_covers_key j.answers set.owner key.rdata r.rdata) For (counted_ds set.owner key ds) d counted is in
    let of_key = λ (text : DnskeyValue). option_map_or (λ v. (text.algorithm == v.algorithm)
    && (key_tag_of key.rdata == v.key_tag)) (ds_of d) false in
    typed (key.rtype == type_dnskey) (dnskey_in key.rdata) of_key
    (and_parts (name_eq set.owner d.owner) (option_map_or of_key (dnskey_of key) false) found.known).1

pub matched_is_key : (j : Judge) (set : RrSet) (ds : List Rr) (key : Rr) → is_matched_key j set ds key ≡ true → IsKeyOf set key
matched_is_key j set ds key h =
    let parts = and_parts (name_eq set.owner key.owner) (is_some (matching_ds j.answers set.owner key ds)) h in
    record { owner = parts.0; rtype = matched_step j set ds key (matching_ds j.answers set.owner key ds) refl parts.1 }

-- ---- keys that sign alike

-- a signature is good by a key, of which this is known
abbrev good_by : Judge → RrSet → Rr → RrsigValue → Bool → ℕ → Option DnskeyValue → Bool
good_by j set r sig is_signer tag text =
    is_valid
    (if not (is_of_set set r sig) then WrongRrsig
    else if not (j.is_timely sig) then ExpiredRrsig
    else option_map_or
    (λ key. if is_signer && ((key.algorithm == sig.algorithm) && ((tag == sig.key_tag) && is_zone_key key)) then ValidRrsig
    else WrongDnskey)
    text WrongDnskey)
    && is_accepted j set (Some sig) text

abbrev good_read : Judge → RrSet → Rr → Rr → Option RrsigValue → Bool
good_read j set r key None = false
good_read j set r key (Some sig) = good_by j set r sig (name_eq sig.signer key.owner) (key_tag_of key.rdata) (dnskey_of key)

good_step : (j : Judge) (set : RrSet) (r key : Rr) (o : Option RrsigValue) → rrsig_of r ≡ o
    → is_good_by j set r key ≡ good_read j set r key o
unfolding is_good_by validity
good_step j set r key None is = rw is refl
good_step j set r key (Some sig) is = rw is refl

same_owner : (set : RrSet) (a b : Rr) → IsKeyOf set a → IsKeyOf set b → (name : Labels) → name_eq name a.owner ≡ name_eq name b.owner
same_owner set a b h k name =
    let both : name_eq a.owner b.owner ≡ true = name_trans a.owner set.owner b.owner (name_back set.owner a.owner h.owner) k.owner in
    name_equiv.symm name a.owner ∙ name_left a.owner b.owner name both ∙ name_equiv.symm b.owner name

same_text : (a b : Rr) → (a.rtype == type_dnskey) ≡ true → (b.rtype == type_dnskey) ≡ true → a.rdata ≡ b.rdata → dnskey_of a ≡ dnskey_of b
same_text a b h k same =
    ap (λ is. if is then dnskey_in a.rdata else None) h
    ∙ ap dnskey_in same
    ∙ sym (ap (λ is. if is then dnskey_in b.rdata else None) k)

read_step : (j : Judge) (set : RrSet) (r a b : Rr) (o : Option RrsigValue) → IsKeyOf set a → IsKeyOf set b → a.rdata ≡ b.rdata
    → good_read j set r a o ≡ good_read j set r b o
read_step j set r a b None h k same = refl
read_step j set r a b (Some sig) h k same =
    ap (λ is. good_by j set r sig is (key_tag_of a.rdata) (dnskey_of a)) (same_owner set a b h k sig.signer)
    ∙ ap (λ rdata. good_by j set r sig (name_eq sig.signer b.owner) (key_tag_of rdata) (dnskey_of a)) same
    ∙ ap (good_by j set r sig (name_eq sig.signer b.owner) (key_tag_of b.rdata)) (same_text a b h.rtype k.rtype same)

-- a signature is good by both of two keys with one rdata, or by neither
pub good_alike : (j : Judge) (set : RrSet) (r a b : Rr) → IsKeyOf set a → IsKeyOf set b → a.rdata ≡ b.rdata
    → is_good_by j set r a ≡ is_good_by j set r b
good_alike j set r a b h k same =
    good_step j set r a (rrsig_of r) refl ∙ read_step j set r a b (rrsig_of r) h k same ∙ sym (good_step j set r b (rrsig_of r) refl)

-- ---- keys that were tried

left_out : (may tried good : Bool) → (tried && good) ≡ false → (not tried && may && good) ≡ (may && good)
left_out true true good h = sym h
left_out true false good h = refl
left_out false true good h = refl
left_out false false good h = refl

-- keys that one test allows, but for those that another does
abbrev pub others : (Rr → Bool) → (Rr → Bool) → Rr → Bool
others may tried key = not (tried key) && may key

others_sign_one : (may tried : Rr → Bool) (j : Judge) (set : RrSet) (r : Rr) → signer_among tried j set r ≡ None
    → signer_among (others may tried) j set r ≡ signer_among may j set r
others_sign_one may tried j set r none =
    let test = λ (m : Rr → Bool) (key : Rr). m key && is_good_by j set r key in
    let Same = λ (key : Rr). test (others may tried) key ≡ test may key in
    find_agree_each (test (others may tried)) (test may) set.records
    (each_more (λ key. test tried key ≡ false) Same (λ key h. left_out (may key) (tried key) (is_good_by j set r key) h) set.records
    (each_fails (test tried) set.records none))

-- keys by which no signature is good may be left out
pub others_sign : (may tried : Rr → Bool) (j : Judge) (set : RrSet) → signed_by tried j set ≡ None
    → signed_by (others may tried) j set ≡ signed_by may j set
others_sign may tried j set none =
    let rs = take most_signatures set.signatures in
    let by = λ (m : Rr → Bool). signer_among m j set in
    let unsigned = unsigned_each (by tried) 0 rs (sym (first_signed-from tried j set rs) ∙ none) in
    first_signed-from (others may tried) j set rs
    ∙ signed_agree_each (by (others may tried)) (by may) 0 rs
    (each_more (λ r. by tried r ≡ None) (λ r. by (others may tried) r ≡ by may r) (others_sign_one may tried j set) rs unsigned)
    ∙ sym (first_signed-from may j set rs)
