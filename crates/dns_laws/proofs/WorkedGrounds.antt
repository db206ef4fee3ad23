-- Grounds on worked trails, shown by computing them: what is one, and what isn't one where one thing in it is another; and trails that
-- mark a set Insecure without one.
use Rattle.std.proofs.Common.{◌≡◌, ℕ, Bool, true, false, List, [], ◌∷◌, ◌++◌, None, Some, refl}
use Rattle.dns_model.specs.declared.proof.Proof.{Proof}
use Rattle.dns_model.specs.declared.proof.Proof.TheVariants.{Secure, Insecure, Bogus}
use Rattle.dns_model.specs.declared.section.Section.{Section}
use Rattle.dns_model.specs.declared.section.Section.TheVariants.{Answer, Authority}
use Rattle.dns_model.specs.declared.denial.Denial.TheVariants as denial
use Rattle.dns_model.specs.declared.trail.AskRef.TheVariants.{Step}
use Rattle.dns_model.specs.declared.trail.MarkOrigin.TheVariants.{Repeat}
use Rattle.dns_model.specs.Names.{Labels}
use Rattle.dns_model.specs.Records.{Rr}
use Rattle.dns_model.specs.Views.{rrsig_in, ds_in, nsec_in, nsec3_in}
use Rattle.dns_model.specs.Shapes.{is_bitmap, bitmap_has, windows_in, window_in}
use Rattle.dns_model.specs.NameForm.{label_in, labels_in, name_in}
use Rattle.dns_model.specs.Sections.{leaders, sets_of}
use Rattle.dns_model.specs.Trails.{AskedValue, JudgedSetValue, Records, Answered, Failed}
use Rattle.dns_model.proofs.Worked.{letter_a}
use Rattle.dns_model.proofs.Delegation.{trusting, ds_of_key}
use Rattle.dns_rules.specs.Marks.{key_question}
use Rattle.dns_rules.specs.Nsec3Verdict.{shows_insecure_delegation}
use Rattle.dns_rules.specs.Delegations.{ds_question}
use Rattle.dns_rules.specs.Derivation.{derivation, steps_hold}
use Rattle.dns_rules.proofs.WorkedTrailValues.{record_of, within}
use Rattle.dns_rules.proofs.WorkedTrails.{computed}
use Rattle.dns_rules.proofs.WorkedDelegations.{zone, by_root, step_of, zone_entry, root_keys, ds_found, ds_by_root, other_algorithm, other_digest}
use Rattle.dns_rules.proofs.WorkedSearches.{host, host_seen, zone_seen, ds_unsupported, unsigned_step, searched, whole_search, below_an_alias}
use Rattle.dns_rules.proofs.WorkedExcuses.{keys_insecure, asked_by_the_signature, signed_step, unexpanded}
use Rattle.dns_rules.proofs.WorkedVerdicts.{with_ns, with_soa, with_ds, with_a}
use Rattle.dns_laws.specs.Ground.{is_ground, insecure_has_ground}

-- ---- what the examples compute with

unfoldable pub ground_computed : Labels → AskedValue → Bool
unfolding sets_of leaders shows_insecure_delegation rrsig_in ds_in nsec_in nsec3_in name_in labels_in label_in is_bitmap
    bitmap_has windows_in window_in
ground_computed name step = is_ground trusting name step

unfoldable pub grounds_computed : List AskedValue → Bool
unfolding sets_of leaders shows_insecure_delegation rrsig_in ds_in nsec_in nsec3_in name_in labels_in label_in is_bitmap
    bitmap_has windows_in window_in
grounds_computed trail = insecure_has_ground trusting trail

-- ---- a DS set of which no record is supported

-- the DS set of `example.` was asked for, and its only record has an algorithm that isn't supported
abbrev pub unsupported : AskedValue
unsupported = ds_unsupported (Step 0 ∷ [])

pub of_its_zone : ground_computed zone unsupported ≡ true
unfolding ground_computed
of_its_zone = refl

pub of_a_name_below : ground_computed host unsupported ≡ true
unfolding ground_computed
of_a_name_below = refl

pub not_of_a_name_above : ground_computed [] unsupported ≡ false
unfolding ground_computed
not_of_a_name_above = refl

pub not_of_a_name_beside : ground_computed (letter_a ∷ []) unsupported ≡ false
unfolding ground_computed
not_of_a_name_beside = refl

pub not_by_a_bogus_ds : ground_computed host (record unsupported { sets = zone_entry 43 Bogus None [] ∷ [] }) ≡ false
unfolding ground_computed
not_by_a_bogus_ds = refl

pub not_by_a_supported_ds : ground_computed host ds_found ≡ false
unfolding ground_computed
not_by_a_supported_ds = refl

-- one supported record among others
pub not_by_a_supported_record : ground_computed host (ds_by_root (other_algorithm ∷ other_digest ∷ [])) ≡ false
unfolding ground_computed
not_by_a_supported_record = refl

pub not_by_an_unreadable_ds : ground_computed host (ds_by_root ((1 ∷ []) ∷ [])) ≡ false
unfolding ground_computed
not_by_an_unreadable_ds = refl

pub not_if_only_seen : ground_computed host (record unsupported { judged = false }) ≡ false
unfolding ground_computed
not_if_only_seen = refl

pub not_if_it_failed : ground_computed host (record unsupported { ending = Failed }) ≡ false
unfolding ground_computed
not_if_it_failed = refl

pub not_by_another_question : ground_computed host (record unsupported { query = key_question 1 zone }) ≡ false
unfolding ground_computed
not_by_another_question = refl

-- the root has no DS set
pub not_by_the_root : ground_computed host (record unsupported { query = ds_question 1 [] }) ≡ false
unfolding ground_computed
not_by_the_root = refl

pub not_by_another_class : ground_computed host (record unsupported { query = ds_question 3 zone }) ≡ false
unfolding ground_computed
not_by_another_class = refl

-- ---- an NSEC that shows an unsigned delegation

-- an NSEC of `example.` came in answer to the question for its DS set, with this mark and this bitmap of types
abbrev pub nsec_entry : Section → Proof → JudgedSetValue
nsec_entry section mark = record (zone_entry 47 mark None []) { section = section }

abbrev pub nsec_record : List ℕ → Rr
nsec_record bitmap = record_of zone 47 (1 ∷ 97 ∷ 0 ∷ bitmap)

abbrev pub by_nsec : List ℕ → Proof → AskedValue
by_nsec bitmap mark =
    step_of 1 (ds_question 1 zone)
    (Records (record { code = 0; answers = []; authorities = nsec_record bitmap ∷ []; additionals = [] }) false)
    (nsec_entry Authority mark ∷ [])
    (Answered denial.None)

pub of_an_unsigned_delegation : ground_computed host (by_nsec with_ns Secure) ≡ true
unfolding ground_computed
of_an_unsigned_delegation = refl

pub not_by_a_bogus_nsec : ground_computed host (by_nsec with_ns Bogus) ≡ false
unfolding ground_computed
not_by_a_bogus_nsec = refl

pub not_by_an_insecure_nsec : ground_computed host (by_nsec with_ns Insecure) ≡ false
unfolding ground_computed
not_by_an_insecure_nsec = refl

pub not_where_there_is_a_ds : ground_computed host (by_nsec with_ds Secure) ≡ false
unfolding ground_computed
not_where_there_is_a_ds = refl

pub not_by_an_apex : ground_computed host (by_nsec with_soa Secure) ≡ false
unfolding ground_computed
not_by_an_apex = refl

pub not_without_a_delegation : ground_computed host (by_nsec with_a Secure) ≡ false
unfolding ground_computed
not_without_a_delegation = refl

-- the NSEC is that of another name
pub not_by_another_owner : ground_computed host (record (by_nsec with_ns Secure) { query = ds_question 1 host }) ≡ false
unfolding ground_computed
not_by_another_owner = refl

pub not_by_an_nsec_in_the_answer :
    ground_computed host
    (step_of 1 (ds_question 1 zone)
    (Records (record { code = 0; answers = nsec_record with_ns ∷ []; authorities = []; additionals = [] }) false)
    (nsec_entry Answer Secure ∷ [])
    (Answered denial.None)) ≡ false
unfolding ground_computed
not_by_an_nsec_in_the_answer = refl

-- a DS set of the zone came with it
pub not_beside_a_ds :
    ground_computed host
    (step_of 1 (ds_question 1 zone)
    (Records (record {
      code = 0;
      answers = record_of zone 43 ds_of_key ∷ [];
      authorities = nsec_record with_ns ∷ [];
      additionals = [];
    }) false)
    (zone_entry 43 Bogus None [] ∷ nsec_entry Authority Secure ∷ []) (Answered denial.None)) ≡ false
unfolding ground_computed
not_beside_a_ds = refl

-- an NSEC3 shows nothing yet
pub not_by_an_nsec3 :
    ground_computed host
    (step_of 1 (ds_question 1 zone)
    (Records (record { code = 0; answers = []; authorities = record_of zone 50 [] ∷ []; additionals = [] }) false)
    (record (nsec_entry Authority Secure) { rtype = 50 } ∷ []) (Answered denial.None)) ≡ false
unfolding ground_computed
not_by_an_nsec3 = refl

-- ---- whole trails

-- an unsigned address, by the search for its zone
pub of_an_unsigned_set : grounds_computed (searched host_seen zone_seen (unsigned_step Insecure whole_search)) ≡ true
unfolding grounds_computed
of_an_unsigned_set = refl

-- the zone's keys, and by them an address that they signed
pub of_a_signed_set : grounds_computed (asked_by_the_signature ++ signed_step unexpanded (Answered denial.None) [] ∷ []) ≡ true
unfolding grounds_computed
of_a_signed_set = refl

-- the zone's keys once more, as the earlier step found them
abbrev pub keys_again : List AskedValue
keys_again =
    asked_by_the_signature ++ record keys_insecure { sets = record (zone_entry 48 Insecure None []) { origin = Repeat 2 } ∷ [] } ∷ []

pub again_as_found : steps_hold by_root (within 26) [] [] keys_again ≡ true
unfolding computed
again_as_found = refl

pub of_a_set_found_again : grounds_computed keys_again ≡ true
unfolding grounds_computed
of_a_set_found_again = refl

-- an SOA beside an alias, and by it an address below
pub of_a_set_by_another : grounds_computed (below_an_alias Insecure Insecure) ≡ true
unfolding grounds_computed
of_a_set_by_another = refl

-- a ground that comes later is none
pub not_by_a_later_step :
    grounds_computed
    (host_seen ∷ zone_seen ∷ root_keys ∷ unsigned_step Insecure whole_search ∷ ds_unsupported (Step 2 ∷ []) ∷ []) ≡ false
unfolding grounds_computed
not_by_a_later_step = refl

-- ---- every unsigned set Insecure

-- no zone is searched
pub none_without_a_search : grounds_computed (unsigned_step Insecure [] ∷ []) ≡ false
unfolding grounds_computed
none_without_a_search = refl

-- the zone is searched, and it is signed: a table by which an unsigned set is Insecure whatever its zone is would make this trail a
-- derivation, and nothing in it is a ground
abbrev pub signed_zone : Proof → List AskedValue
signed_zone mark = host_seen ∷ zone_seen ∷ root_keys ∷ record ds_found {
  sets =
      zone_entry 43 Secure (Some 0) (Step 2 ∷ []) ∷ [];
} ∷ unsigned_step mark whole_search ∷ []

pub bogus_in_a_signed_zone : derivation by_root (within 26) [] (signed_zone Bogus) ≡ true
unfolding computed
bogus_in_a_signed_zone = refl

pub insecure_in_a_signed_zone : derivation by_root (within 26) [] (signed_zone Insecure) ≡ false
unfolding computed
insecure_in_a_signed_zone = refl

pub none_in_a_signed_zone : grounds_computed (signed_zone Insecure) ≡ false
unfolding grounds_computed
none_in_a_signed_zone = refl

pub none_needed_where_it_is_bogus : grounds_computed (signed_zone Bogus) ≡ true
unfolding grounds_computed
none_needed_where_it_is_bogus = refl
