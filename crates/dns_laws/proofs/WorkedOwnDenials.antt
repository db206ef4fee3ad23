-- What an answer denies by its own records, on worked records: which zone made the denials, and that no zone did, and nothing is
-- denied, where the signature is taken out or isn't Secure.
use Rattle.std.proofs.Common.{◌≡◌, true, false, ◌==◌, List, [], ◌++◌, map, refl, sym, ◌∙◌}
use Rattle.dns_model.specs.declared.proof.Proof.TheVariants.{Secure, Insecure}
use Rattle.dns_model.specs.declared.denial.Denial.TheVariants as denial
use Rattle.dns_model.specs.Names.{Labels}
use Rattle.dns_model.specs.Views.{rrsig_in}
use Rattle.dns_model.specs.NameForm.{label_in, labels_in, name_in}
use Rattle.dns_model.specs.Types.{type_nsec}
use Rattle.dns_model.specs.Records.{Rr}
use Rattle.dns_model.specs.Sections.{leaders, sets_of, unsigned_part}
use Rattle.dns_model.specs.Trails.{Answered}
use Rattle.dns_model.proofs.SetLemmas.{number_same}
use Rattle.dns_model.proofs.TestLemmas.{or_false}
use Rattle.dns_rules.specs.Marking.{marked_told}
use Rattle.dns_rules.specs.Derivation.{judged_sets}
use Rattle.dns_rules.proofs.WorkedTrailValues.{within}
use Rattle.dns_rules.proofs.WorkedDelegations.{zone, by_root}
use Rattle.dns_rules.proofs.WorkedDenials.{missing, expanded, nsec_of_a, query_of, told_of, both_covered, name_error, by_both_covered, no_such_name, expansion, by_expansion, nothing_closer}
use Rattle.dns_laws.specs.OwnDenials.{IsDenyingZone, IsDeniedByRecords, AbsentByNsec, AbsentByNsec3, DeniesAnswer, DeniesCloser, DeniesByRecords}
use Rattle.dns_laws.proofs.DenialLemmas.{denials_hold}
use Rattle.dns_laws.proofs.SignatureDenials.{denies_by_records}

-- ---- the zone that made the denials

abbrev secure : List Rr → List Rr
secure records = map (λ (r : Rr). record r { proof = Secure }) records

-- the NSEC of `a.` and its signature by the root, both Secure
abbrev pub of_the_root : List Rr
of_the_root = secure nsec_of_a

pub made_by_the_root : IsDenyingZone type_nsec (query_of missing 1) of_the_root []
unfolding rrsig_in name_in labels_in label_in
made_by_the_root = record { holds = refl; some = refl; signed = refl; made = refl }

pub not_made_by_another : IsDenyingZone type_nsec (query_of missing 1) of_the_root missing → ⊥
unfolding rrsig_in name_in labels_in label_in
not_made_by_another zone = let never : false ≡ true = zone.signed in cc

pub made_by_none_without_a_signature : (apex : Labels) → IsDenyingZone type_nsec (query_of missing 1) (unsigned_part of_the_root) apex → ⊥
unfolding rrsig_in name_in labels_in label_in
made_by_none_without_a_signature apex zone = let never : false ≡ true = zone.signed in cc

-- the NSEC alone is Secure
abbrev pub half_secure : List Rr
half_secure = secure (unsigned_part nsec_of_a) ++ nsec_of_a

pub made_by_none_without_a_secure_signature : (apex : Labels) → IsDenyingZone type_nsec (query_of missing 1) half_secure apex → ⊥
unfolding rrsig_in name_in labels_in label_in
made_by_none_without_a_secure_signature apex zone = let never : false ≡ true = zone.signed in cc

-- ---- a name that doesn't exist

pub name_is_denied :
    DeniesAnswer (query_of missing 1) (marked_told 1000 (judged_sets (name_error (Answered (denial.Absent Secure)))) both_covered)
unfolding sets_of leaders rrsig_in name_in labels_in label_in
name_is_denied =
    let each = denials_hold by_root (within 26) [] (by_both_covered (Answered (denial.Absent Secure))) no_such_name in
    (denies_by_records 1000 (query_of missing 1) both_covered (judged_sets (name_error (Answered (denial.Absent Secure))))
    (denial.Absent Secure) refl
    (each.1.1.0 both_covered (denial.Absent Secure) refl refl refl)).absent refl

pub nothing_is_denied_without_a_signature : DeniesAnswer (query_of missing 1) (told_of 3 [] (unsigned_part of_the_root)) → ⊥
nothing_is_denied_without_a_signature denies = never_denied denies.apex denies.denied
  where
    never_denied : (apex : Labels) → IsDeniedByRecords (query_of missing 1) (told_of 3 [] (unsigned_part of_the_root)) apex → ⊥
    never_denied apex (AbsentByNsec zone holds) = made_by_none_without_a_signature apex zone
    never_denied apex (AbsentByNsec3 zone holds) = let never : false ≡ true = zone.some in cc

-- a record that answers stands beside no denial that says there is none, whatever its mark
pub nothing_is_absent_beside_an_answer : DeniesByRecords (query_of missing 1) (told_of 0 expanded []) (denial.Absent Insecure) → ⊥
nothing_is_absent_beside_an_answer denies = let never : true ≡ false = denies.unanswered Insecure refl in cc

-- ---- an answer from a wildcard

pub closer_names_are_denied :
    DeniesCloser (query_of missing 1)
    (marked_told 1000 (judged_sets (expansion (Answered (denial.Expanded Secure)))) (told_of 0 expanded nsec_of_a))
unfolding sets_of leaders rrsig_in name_in labels_in label_in
closer_names_are_denied =
    let told = told_of 0 expanded nsec_of_a in
    let each = denials_hold by_root (within 26) [] (by_expansion (Answered (denial.Expanded Secure))) nothing_closer in
    (denies_by_records 1000 (query_of missing 1) told (judged_sets (expansion (Answered (denial.Expanded Secure))))
    (denial.Expanded Secure) refl
    (each.1.1.0 told (denial.Expanded Secure) refl refl refl)).expanded refl

-- the wildcard is the one below the root, as the signature says
pub labels_are_those_of_the_signature : (denies : DeniesCloser (query_of missing 1) (told_of 0 (secure expanded) of_the_root))
    → denies.labels ≡ 0
unfolding rrsig_in name_in labels_in label_in
labels_are_those_of_the_signature denies = number_same denies.labels 0 (sym (or_false (denies.labels == 0)) ∙ denies.some)

pub nothing_closer_is_denied_without_a_signature :
    DeniesCloser (query_of missing 1) (told_of 0 (unsigned_part (secure expanded)) of_the_root) → ⊥
unfolding rrsig_in name_in labels_in label_in
nothing_closer_is_denied_without_a_signature denies = let never : false ≡ true = denies.some in cc
