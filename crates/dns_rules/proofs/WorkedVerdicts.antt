-- The DS verdict of `example.` by answers without a DS set, on worked rows: an NSEC that shows an unsigned delegation, or an Insecure
-- set at the zone or above it; and what it becomes where one thing in them is another.
use Rattle.std.specs.Prelude.{◌≡◌, ℕ, List, [], ◌∷◌, Option, None, Some, refl}
use Rattle.dns_model.specs.declared.proof.Proof.{Proof}
use Rattle.dns_model.specs.declared.proof.Proof.TheVariants.{Secure, Insecure, Bogus, Indeterminate}
use Rattle.dns_model.specs.declared.section.Section.{Section}
use Rattle.dns_model.specs.declared.section.Section.TheVariants.{Answer, Authority, Additional}
use Rattle.dns_model.specs.Names.{Labels}
use Rattle.dns_model.specs.Views.{ds_in, nsec_in}
use Rattle.dns_model.specs.Shapes.{is_bitmap, bitmap_has, windows_in, window_in}
use Rattle.dns_model.specs.NameForm.{label_in, labels_in, name_in}
use Rattle.dns_model.proofs.Worked.{letter_a}
use Rattle.dns_model.proofs.Delegation.{trusting, ds_of_key}
use Rattle.dns_rules.specs.MarkedSets.{MarkedSet}
use Rattle.dns_rules.specs.ProofErrors.{Net, DsRecordShouldExist, DsResponseInsecure, UnknownKeyAlgorithm}
use Rattle.dns_rules.specs.Nsec3Verdict.{shows_insecure_delegation}
use Rattle.dns_rules.specs.Delegations.{ZoneVerdict, Signed, Insecure as Unsigned, Bogus as Unshown, ds_question, zone_verdict}
use Rattle.dns_rules.proofs.WorkedTrailValues.{record_of}
use Rattle.dns_rules.proofs.WorkedDelegations.{zone, other_algorithm}

-- ---- sets of an answer

abbrev pub set_of_one : Section → Labels → ℕ → List ℕ → Proof → MarkedSet
set_of_one section owner rtype rdata mark = record {
  section = section;
  set = record { owner = owner; rtype = rtype; class = 1; records = record_of owner rtype rdata ∷ []; signatures = [] };
  mark = mark;
  sig = None;
}

unfoldable pub verdict_computed : Option (List MarkedSet) → ZoneVerdict
unfolding zone_verdict shows_insecure_delegation ds_in nsec_in name_in labels_in label_in is_bitmap bitmap_has windows_in window_in
verdict_computed answer = zone_verdict trusting 1 zone answer

-- an NSEC with a bitmap of types, whose next name is `a.`
abbrev pub nsec : Section → Labels → List ℕ → Proof → MarkedSet
nsec section owner bitmap mark = set_of_one section owner 47 (1 ∷ 97 ∷ 0 ∷ bitmap) mark

-- the types NS; NS and SOA; NS and DS; A
abbrev pub with_ns : List ℕ
with_ns = 0 ∷ 1 ∷ 32 ∷ []

abbrev pub with_soa : List ℕ
with_soa = 0 ∷ 1 ∷ 34 ∷ []

abbrev pub with_ds : List ℕ
with_ds = 0 ∷ 6 ∷ 32 ∷ 0 ∷ 0 ∷ 0 ∷ 0 ∷ 16 ∷ []

abbrev pub with_a : List ℕ
with_a = 0 ∷ 1 ∷ 64 ∷ []

-- ---- no DS, by an NSEC

pub shown_unsigned : verdict_computed (Some (nsec Authority zone with_ns Secure ∷ [])) ≡ Unsigned (DsResponseInsecure zone)
unfolding verdict_computed
shown_unsigned = refl

pub not_by_an_apex : verdict_computed (Some (nsec Authority zone with_soa Secure ∷ [])) ≡ Unshown (DsRecordShouldExist zone)
unfolding verdict_computed
not_by_an_apex = refl

pub not_where_there_is_a_ds : verdict_computed (Some (nsec Authority zone with_ds Secure ∷ [])) ≡ Unshown (DsRecordShouldExist zone)
unfolding verdict_computed
not_where_there_is_a_ds = refl

pub not_without_a_delegation : verdict_computed (Some (nsec Authority zone with_a Secure ∷ [])) ≡ Unshown (DsRecordShouldExist zone)
unfolding verdict_computed
not_without_a_delegation = refl

pub not_by_a_bogus_nsec : verdict_computed (Some (nsec Authority zone with_ns Bogus ∷ [])) ≡ Unshown (DsRecordShouldExist zone)
unfolding verdict_computed
not_by_a_bogus_nsec = refl

pub not_by_an_nsec_above : verdict_computed (Some (nsec Authority [] with_ns Secure ∷ [])) ≡ Unshown (DsRecordShouldExist zone)
unfolding verdict_computed
not_by_an_nsec_above = refl

pub not_by_an_answer : verdict_computed (Some (nsec Answer zone with_ns Secure ∷ [])) ≡ Unshown (DsRecordShouldExist zone)
unfolding verdict_computed
not_by_an_answer = refl

-- ---- no DS, beside an Insecure set

abbrev pub soa : Section → Labels → Proof → MarkedSet
soa section owner mark = set_of_one section owner 6 [] mark

pub insecure_at_the_zone : verdict_computed (Some (soa Authority zone Insecure ∷ [])) ≡ Unsigned (DsResponseInsecure zone)
unfolding verdict_computed
insecure_at_the_zone = refl

pub insecure_above_the_zone : verdict_computed (Some (soa Additional [] Insecure ∷ [])) ≡ Unsigned (DsResponseInsecure zone)
unfolding verdict_computed
insecure_above_the_zone = refl

pub insecure_below_the_zone : verdict_computed (Some (soa Authority (letter_a ∷ zone) Insecure ∷ [])) ≡ Unshown (DsRecordShouldExist zone)
unfolding verdict_computed
insecure_below_the_zone = refl

pub bogus_above_the_zone : verdict_computed (Some (soa Authority [] Bogus ∷ [])) ≡ Unshown (DsRecordShouldExist zone)
unfolding verdict_computed
bogus_above_the_zone = refl

pub unmarked_above_the_zone : verdict_computed (Some (soa Authority [] Indeterminate ∷ [])) ≡ Unshown (DsRecordShouldExist zone)
unfolding verdict_computed
unmarked_above_the_zone = refl

-- ---- a DS set decides before both

abbrev pub ds : List ℕ → Proof → MarkedSet
ds rdata mark = set_of_one Answer zone 43 rdata mark

pub signed_by_its_ds : verdict_computed (Some (ds ds_of_key Secure ∷ nsec Authority zone with_ns Secure ∷ []))
    ≡ Signed (record_of zone 43 ds_of_key ∷ [])
unfolding verdict_computed
signed_by_its_ds = refl

pub insecure_ds : verdict_computed (Some (ds ds_of_key Insecure ∷ soa Authority zone Insecure ∷ [])) ≡ Unshown (DsRecordShouldExist zone)
unfolding verdict_computed
insecure_ds = refl

pub unsupported_ds : verdict_computed (Some (ds other_algorithm Secure ∷ [])) ≡ Unsigned UnknownKeyAlgorithm
unfolding verdict_computed
unsupported_ds = refl

pub unreadable_ds : verdict_computed (Some (ds (1 ∷ []) Secure ∷ nsec Authority zone with_ns Secure ∷ []))
    ≡ Unshown (DsRecordShouldExist zone)
unfolding verdict_computed
unreadable_ds = refl

-- a DS set elsewhere doesn't
pub ds_beside_the_answer :
    verdict_computed (Some (record (ds ds_of_key Secure) { section = Authority } ∷ soa Authority zone Insecure ∷ []))
    ≡ Unsigned (DsResponseInsecure zone)
unfolding verdict_computed
ds_beside_the_answer = refl

pub failed : verdict_computed None ≡ Unshown (Net (ds_question 1 zone))
unfolding verdict_computed
failed = refl
