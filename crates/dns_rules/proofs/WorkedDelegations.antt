-- Derivations on worked rows where the keys of `example.` ask for its DS set, which the root's anchored key signs, shown by
-- computing it; and what they become where one thing in them is another.
use Rattle.std.proofs.Common.{◌≡◌, ℕ, true, false, List, [], ◌∷◌, ◌++◌, map, drop, Option, None, Some, refl, ap}
use Rattle.dns_model.specs.declared.proof.Proof.{Proof}
use Rattle.dns_model.specs.declared.proof.Proof.TheVariants.{Secure, Insecure, Bogus}
use Rattle.dns_model.specs.declared.denial.Denial.TheVariants as denial
use Rattle.dns_model.specs.declared.trail.AskRef.{AskRef}
use Rattle.dns_model.specs.declared.trail.AskRef.TheVariants.{Step, TooDeep, TooMany}
use Rattle.dns_model.specs.Names.{Labels}
use Rattle.dns_model.specs.Records.{Rr, Question}
use Rattle.dns_model.specs.Views.{dnskey_in, ds_in}
use Rattle.dns_model.specs.Signing.{ds_digest, tag_sum}
use Rattle.dns_model.specs.Chains.{Judge, judge}
use Rattle.dns_model.specs.Trails.{AskedValue, JudgedSetValue, HeardValue, EndingValue, Fault, Answered, Failed}
use Rattle.dns_model.proofs.Worked.{example, letter_a, key, anchors}
use Rattle.dns_model.proofs.ChainLemmas.{bytes_same}
use Rattle.dns_model.proofs.Delegation.{trusting, ds_of_key, ds_matches, signature_of}
use Rattle.dns_rules.specs.Marks.{key_question}
use Rattle.dns_rules.specs.Delegations.{ds_question}
use Rattle.dns_rules.specs.Derivation.{derivation}
use Rattle.dns_rules.proofs.WorkedTrailValues.{record_of, reply_of, answer_entry, keys_found, within}
use Rattle.dns_rules.proofs.WorkedTrails.{computed}
use Rattle.std.specs.Option.{option_map_or}
use Rattle.dns_model.specs.Keys.{bytes_eq}

-- ---- records and judges

abbrev pub zone : Labels
zone = example ∷ []

abbrev pub ds_records : List Rr
ds_records = record_of zone 43 ds_of_key ∷ record_of zone 46 (signature_of 43 1 []) ∷ []

abbrev pub zone_keys : List Rr
zone_keys = record_of zone 48 key ∷ []

abbrev pub self_signed : List Rr
self_signed = record_of zone 48 key ∷ record_of zone 46 (signature_of 48 1 zone) ∷ []

-- the root's key is an anchor, each signature of algorithm 13 is accepted, and the moment is 1000
abbrev pub by_root : Judge
by_root = judge trusting anchors 1000

-- so is the zone's key
abbrev pub by_both : Judge
by_both = judge trusting (record { owner = zone; algorithm = 13; key = 170 ∷ 187 ∷ [] } ∷ anchors) 1000

-- ---- steps

abbrev pub step_of : ℕ → Question → HeardValue → List JudgedSetValue → EndingValue → AskedValue
step_of depth query reply sets ending = record {
  depth = depth;
  judged = true;
  query = query;
  reply = reply;
  sets = sets;
  ending = ending;
  excuse = [];
}

abbrev pub zone_entry : ℕ → Proof → Option ℕ → List AskRef → JudgedSetValue
zone_entry rtype mark sig asked = record (answer_entry rtype mark sig asked) { owner = zone }

-- the root's keys, which the DS set asks for
abbrev pub root_keys : AskedValue
root_keys = record keys_found { depth = 2 }

-- the DS set of the zone, which its keys ask for: these records came, and it got this mark
abbrev pub ds_step : List Rr → Proof → Option ℕ → List AskRef → AskedValue
ds_step records mark sig asked =
    step_of 1 (ds_question 1 zone) (reply_of records []) (zone_entry 43 mark sig asked ∷ []) (Answered denial.None)

abbrev pub ds_found : AskedValue
ds_found = ds_step ds_records Secure (Some 0) (Step 0 ∷ [])

-- no reply came for it
abbrev pub ds_fault : AskedValue
ds_fault = step_of 1 (ds_question 1 zone) Fault [] Failed

-- the zone's keys, at the top: these records came, and they got this mark
abbrev pub zone_step : List Rr → Proof → Option ℕ → List AskRef → AskedValue
zone_step records mark sig asked =
    step_of 0 (key_question 1 zone) (reply_of records []) (zone_entry 48 mark sig asked ∷ []) (Answered denial.None)

-- ---- a key that a Secure DS matches

is_this_digest : (o : Option (List ℕ)) (digest : List ℕ) → option_map_or (λ expected. bytes_eq expected digest) o false ≡ true
    → o ≡ Some digest
is_this_digest None digest h = cc
is_this_digest (Some bytes) digest h = ap Some (bytes_same bytes digest h)

pub digest_of_key : ds_digest 2 zone key ≡ Some (drop 4 ds_of_key)
unfolding dnskey_in ds_in tag_sum
digest_of_key = is_this_digest (ds_digest 2 zone key) (drop 4 ds_of_key) ds_matches

-- the key signed its set
pub signed_by_a_matched_key :
    derivation by_root (within 26) []
    (root_keys ∷ ds_found ∷ zone_step self_signed Secure (Some 0) (Step 1 ∷ []) ∷ []) ≡ true
unfolding computed
signed_by_a_matched_key = rw digest_of_key refl

-- no signature is needed where each key is matched
pub each_key_matched :
    derivation by_root (within 26) []
    (root_keys ∷ ds_found ∷ zone_step zone_keys Secure None (Step 1 ∷ []) ∷ []) ≡ true
unfolding computed
each_key_matched = rw digest_of_key refl

pub bogus_though_matched :
    derivation by_root (within 26) []
    (root_keys ∷ ds_found ∷ zone_step self_signed Bogus None (Step 1 ∷ []) ∷ []) ≡ false
unfolding computed
bogus_though_matched = rw digest_of_key refl

pub insecure_though_matched :
    derivation by_root (within 26) []
    (root_keys ∷ ds_found ∷ zone_step self_signed Insecure None (Step 1 ∷ []) ∷ []) ≡ false
unfolding computed
insecure_though_matched = rw digest_of_key refl

pub no_signature_decided :
    derivation by_root (within 26) []
    (root_keys ∷ ds_found ∷ zone_step self_signed Secure None (Step 1 ∷ []) ∷ []) ≡ false
unfolding computed
no_signature_decided = rw digest_of_key refl

-- the DS set is Secure, of these records
abbrev pub ds_by_root : List (List ℕ) → AskedValue
ds_by_root rdatas = ds_step (map (record_of zone 43) rdatas ++ record_of zone 46 (signature_of 43 1 []) ∷ []) Secure (Some 0) (Step 0 ∷ [])

abbrev pub other_digest : List ℕ
other_digest = 174 ∷ 201 ∷ 13 ∷ 2 ∷ 1 ∷ []

pub bogus_by_another_digest :
    derivation by_root (within 26) []
    (root_keys ∷ ds_by_root (other_digest ∷ []) ∷ zone_step self_signed Bogus None (Step 1 ∷ []) ∷ []) ≡ true
unfolding computed
bogus_by_another_digest = rw digest_of_key refl

pub secure_by_another_digest :
    derivation by_root (within 26) []
    (root_keys ∷ ds_by_root (other_digest ∷ []) ∷ zone_step self_signed Secure (Some 0) (Step 1 ∷ []) ∷ []) ≡ false
unfolding computed
secure_by_another_digest = rw digest_of_key refl

pub secure_by_the_second :
    derivation by_root (within 26) []
    (root_keys ∷ ds_by_root (other_digest ∷ ds_of_key ∷ []) ∷ zone_step self_signed Secure (Some 0) (Step 1 ∷ []) ∷ []) ≡ true
unfolding computed
secure_by_the_second = rw digest_of_key refl

-- two records with the key's algorithm and tag count
pub bogus_by_the_third :
    derivation by_root (within 26) []
    (root_keys ∷ ds_by_root (other_digest ∷ other_digest ∷ ds_of_key ∷ []) ∷ zone_step self_signed Bogus None (Step 1 ∷ []) ∷ []) ≡ true
unfolding computed
bogus_by_the_third = rw digest_of_key refl

pub secure_by_the_third :
    derivation by_root (within 26) []
    (root_keys ∷ ds_by_root (other_digest ∷ other_digest ∷ ds_of_key ∷ []) ∷ zone_step self_signed Secure (Some 0) (Step 1 ∷ []) ∷ [])
    ≡ false
unfolding computed
secure_by_the_third = rw digest_of_key refl

-- ---- the ask for the DS set

pub ds_left_out : derivation by_root (within 26) [] (zone_step self_signed Bogus None [] ∷ []) ≡ false
unfolding computed
ds_left_out = refl

-- 1,024 steps come before an ask that is one too many
pub ds_left_out_as_too_many : derivation by_root (within 26) []
    (zone_step self_signed Bogus None (TooMany ∷ []) ∷ []) ≡ false
unfolding computed
ds_left_out_as_too_many = refl

-- without an answer the keys are Bogus
pub ds_asked_once : derivation by_root (within 26) []
    (ds_fault ∷ zone_step self_signed Bogus None (Step 0 ∷ []) ∷ []) ≡ true
unfolding computed
ds_asked_once = refl

pub ds_asked_twice :
    derivation by_root (within 26) []
    (ds_fault ∷ ds_fault ∷ zone_step self_signed Bogus None (Step 0 ∷ Step 1 ∷ []) ∷ []) ≡ false
unfolding computed
ds_asked_twice = refl

pub another_name_asked :
    derivation by_root (within 26) []
    (record ds_fault { query = ds_question 1 (letter_a ∷ []) } ∷ zone_step self_signed Bogus None (Step 0 ∷ []) ∷ []) ≡ false
unfolding computed
another_name_asked = refl

pub another_class_asked :
    derivation by_root (within 26) []
    (record ds_fault { query = ds_question 3 zone } ∷ zone_step self_signed Bogus None (Step 0 ∷ []) ∷ []) ≡ false
unfolding computed
another_class_asked = refl

pub another_type_asked :
    derivation by_root (within 26) []
    (record ds_fault { query = key_question 1 zone } ∷ zone_step self_signed Bogus None (Step 0 ∷ []) ∷ []) ≡ false
unfolding computed
another_type_asked = refl

pub ds_asked_no_deeper :
    derivation by_root (within 26) []
    (record ds_fault { depth = 0 } ∷ zone_step self_signed Bogus None (Step 0 ∷ []) ∷ []) ≡ false
unfolding computed
ds_asked_no_deeper = refl

pub ds_asked_two_deeper :
    derivation by_root (within 26) []
    (record ds_fault { depth = 2 } ∷ zone_step self_signed Bogus None (Step 0 ∷ []) ∷ []) ≡ false
unfolding computed
ds_asked_two_deeper = refl

pub ds_asked_without_judging :
    derivation by_root (within 26) []
    (record ds_fault { judged = false } ∷ zone_step self_signed Bogus None (Step 0 ∷ []) ∷ []) ≡ false
unfolding computed
ds_asked_without_judging = refl

pub ds_too_deep : derivation by_root (within 0) [] (zone_step self_signed Bogus None (TooDeep ∷ []) ∷ []) ≡ true
unfolding computed
ds_too_deep = refl

pub ds_too_deep_and_secure : derivation by_root (within 0) []
    (zone_step self_signed Secure (Some 0) (TooDeep ∷ []) ∷ []) ≡ false
unfolding computed
ds_too_deep_and_secure = refl

pub ds_not_too_deep : derivation by_root (within 26) [] (zone_step self_signed Bogus None (TooDeep ∷ []) ∷ []) ≡ false
unfolding computed
ds_not_too_deep = refl

-- the DS set isn't too deep, and the root's keys are
pub root_keys_too_deep :
    derivation by_root (within 1) []
    (ds_step ds_records Bogus None (TooDeep ∷ []) ∷ zone_step self_signed Bogus None (Step 0 ∷ []) ∷ []) ≡ true
unfolding computed
root_keys_too_deep = refl

-- ---- key sets that ask for no DS set

pub signed_by_an_anchored_key : derivation by_both (within 26) [] (zone_step self_signed Secure (Some 0) [] ∷ []) ≡ true
unfolding computed
signed_by_an_anchored_key = refl

pub ds_asked_where_an_anchored_key_signs :
    derivation by_both (within 26) []
    (root_keys ∷ ds_found ∷ zone_step self_signed Secure (Some 0) (Step 1 ∷ []) ∷ []) ≡ false
unfolding computed
ds_asked_where_an_anchored_key_signs = refl

pub each_key_anchored : derivation by_both (within 26) [] (zone_step zone_keys Secure None [] ∷ []) ≡ true
unfolding computed
each_key_anchored = refl

pub ds_asked_where_each_key_is_anchored :
    derivation by_both (within 26) []
    (root_keys ∷ ds_found ∷ zone_step zone_keys Secure None (Step 1 ∷ []) ∷ []) ≡ false
unfolding computed
ds_asked_where_each_key_is_anchored = refl

-- the root's keys, at the top
abbrev pub root_step : Proof → List AskRef → AskedValue
root_step mark asked =
    step_of 0 (key_question 1 []) (reply_of (record_of [] 48 key ∷ []) []) (answer_entry 48 mark None asked ∷ []) (Answered denial.None)

pub root_without_an_anchor : derivation (judge trusting [] 1000) (within 26) [] (root_step Bogus [] ∷ []) ≡ true
unfolding computed
root_without_an_anchor = refl

pub ds_of_the_root_asked :
    derivation (judge trusting [] 1000) (within 26) []
    (record ds_fault { query = ds_question 1 [] } ∷ root_step Bogus (Step 0 ∷ []) ∷ []) ≡ false
unfolding computed
ds_of_the_root_asked = refl

-- ---- a DS set by which no key is trusted

pub secure_after_a_fault :
    derivation by_root (within 26) []
    (ds_fault ∷ zone_step self_signed Secure (Some 0) (Step 0 ∷ []) ∷ []) ≡ false
unfolding computed
secure_after_a_fault = refl

-- it has no signature
abbrev pub ds_unsigned : AskedValue
ds_unsigned = ds_step (record_of zone 43 ds_of_key ∷ []) Bogus None []

pub bogus_by_an_unsigned_ds :
    derivation by_root (within 26) []
    (ds_unsigned ∷ zone_step self_signed Bogus None (Step 0 ∷ []) ∷ []) ≡ true
unfolding computed
bogus_by_an_unsigned_ds = refl

pub secure_by_an_unsigned_ds :
    derivation by_root (within 26) []
    (ds_unsigned ∷ zone_step self_signed Secure (Some 0) (Step 0 ∷ []) ∷ []) ≡ false
unfolding computed
secure_by_an_unsigned_ds = refl

-- the zone itself signed it, whose keys may not sign it and aren't asked for
abbrev pub ds_by_the_zone : AskedValue
ds_by_the_zone = ds_step (record_of zone 43 ds_of_key ∷ record_of zone 46 (signature_of 43 1 zone) ∷ []) Bogus None []

pub bogus_by_a_ds_of_the_zone :
    derivation by_root (within 26) []
    (ds_by_the_zone ∷ zone_step self_signed Bogus None (Step 0 ∷ []) ∷ []) ≡ true
unfolding computed
bogus_by_a_ds_of_the_zone = refl

pub secure_by_a_ds_of_the_zone :
    derivation by_root (within 26) []
    (ds_by_the_zone ∷ zone_step self_signed Secure (Some 0) (Step 0 ∷ []) ∷ []) ≡ false
unfolding computed
secure_by_a_ds_of_the_zone = refl

abbrev pub other_tag : List ℕ
other_tag = 174 ∷ 202 ∷ 13 ∷ 2 ∷ 1 ∷ []

abbrev pub other_algorithm : List ℕ
other_algorithm = 174 ∷ 201 ∷ 8 ∷ 2 ∷ 1 ∷ []

abbrev pub other_digest_type : List ℕ
other_digest_type = 174 ∷ 201 ∷ 13 ∷ 3 ∷ 1 ∷ []

pub bogus_by_a_ds_of_another_tag :
    derivation by_root (within 26) []
    (root_keys ∷ ds_by_root (other_tag ∷ []) ∷ zone_step self_signed Bogus None (Step 1 ∷ []) ∷ []) ≡ true
unfolding computed
bogus_by_a_ds_of_another_tag = refl

pub secure_by_a_ds_of_another_tag :
    derivation by_root (within 26) []
    (root_keys ∷ ds_by_root (other_tag ∷ []) ∷ zone_step self_signed Secure (Some 0) (Step 1 ∷ []) ∷ []) ≡ false
unfolding computed
secure_by_a_ds_of_another_tag = refl

-- a Secure DS set of readable records none of which is supported: no more than Insecure can be expected
pub insecure_by_an_unsupported_algorithm :
    derivation by_root (within 26) []
    (root_keys ∷ ds_by_root (other_algorithm ∷ []) ∷ zone_step self_signed Insecure None (Step 1 ∷ []) ∷ []) ≡ true
unfolding computed
insecure_by_an_unsupported_algorithm = refl

pub bogus_by_an_unsupported_algorithm :
    derivation by_root (within 26) []
    (root_keys ∷ ds_by_root (other_algorithm ∷ []) ∷ zone_step self_signed Bogus None (Step 1 ∷ []) ∷ []) ≡ false
unfolding computed
bogus_by_an_unsupported_algorithm = refl

pub secure_by_an_unsupported_algorithm :
    derivation by_root (within 26) []
    (root_keys ∷ ds_by_root (other_algorithm ∷ []) ∷ zone_step self_signed Secure (Some 0) (Step 1 ∷ []) ∷ []) ≡ false
unfolding computed
secure_by_an_unsupported_algorithm = refl

pub insecure_by_an_unsupported_digest_type :
    derivation by_root (within 26) []
    (root_keys ∷ ds_by_root (other_digest_type ∷ []) ∷ zone_step self_signed Insecure None (Step 1 ∷ []) ∷ []) ≡ true
unfolding computed
insecure_by_an_unsupported_digest_type = refl

pub insecure_by_an_unsigned_ds :
    derivation by_root (within 26) []
    (record ds_unsigned { reply = reply_of (record_of zone 43 other_algorithm ∷ []) [] } ∷ zone_step self_signed Insecure
    None (Step 0 ∷ []) ∷ [])
    ≡ false
unfolding computed
insecure_by_an_unsigned_ds = refl

-- a DS that can't be read shows nothing
pub bogus_by_an_unreadable_ds :
    derivation by_root (within 26) []
    (root_keys ∷ ds_by_root ((174 ∷ 201 ∷ []) ∷ []) ∷ zone_step self_signed Bogus None (Step 1 ∷ []) ∷ []) ≡ true
unfolding computed
bogus_by_an_unreadable_ds = refl
