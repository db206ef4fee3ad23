-- What the law of denials says of worked trails: of a name that doesn't exist, and of an answer from a wildcard.
use Rattle.std.proofs.Common.{[], refl}
use Rattle.dns_model.specs.declared.proof.Proof.TheVariants.{Secure}
use Rattle.dns_model.specs.declared.denial.Denial.TheVariants as denial
use Rattle.dns_model.specs.Trails.{Answered}
use Rattle.dns_rules.specs.Derivation.{judged_sets}
use Rattle.dns_rules.proofs.WorkedTrailValues.{within}
use Rattle.dns_rules.proofs.WorkedDelegations.{by_root}
use Rattle.dns_rules.proofs.WorkedDenials.{missing, expanded, nsec_of_a, query_of, told_of, both_covered, name_error, by_both_covered, no_such_name, expansion, by_expansion, nothing_closer}
use Rattle.dns_laws.specs.Denials.{ShowsAbsence, ShowsExpansion}
use Rattle.dns_laws.proofs.DenialLemmas.{denials_hold}

pub name_is_absent : ShowsAbsence (query_of missing 1) both_covered (judged_sets (name_error (Answered (denial.Absent Secure))))
name_is_absent =
    let each = denials_hold by_root (within 26) [] (by_both_covered (Answered (denial.Absent Secure))) no_such_name in
    (each.1.1.0 both_covered (denial.Absent Secure) refl refl refl).absent refl

pub nothing_is_closer :
    ShowsExpansion (query_of missing 1) (told_of 0 expanded nsec_of_a) (judged_sets (expansion (Answered (denial.Expanded Secure))))
nothing_is_closer =
    let each = denials_hold by_root (within 26) [] (by_expansion (Answered (denial.Expanded Secure))) nothing_closer in
    (each.1.1.0 (told_of 0 expanded nsec_of_a) (denial.Expanded Secure) refl refl refl).expanded refl
