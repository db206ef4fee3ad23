-- What the Secure denials of a trail promise of zones (RFC 4035, 5.3.4 and 5.4; RFC 4592; RFC 5155, 6 and 8).
use Rattle.std.specs.Prelude.{◌≡◌, ℕ, true, false, List, Some}
use Rattle.std.specs.List.{AllByRecursion, list_any, list_all}
use Rattle.dns_model.specs.declared.proof.Proof.{Proof}
use Rattle.dns_model.specs.declared.proof.Proof.TheVariants.{Secure}
use Rattle.dns_model.specs.declared.denial.Denial.{Denial}
use Rattle.dns_model.specs.declared.denial.Denial.TheVariants.{Absent, Expanded as Expansion}
use Rattle.dns_model.specs.Names.{Labels}
use Rattle.dns_model.specs.Types.{type_nsec, type_nsec3}
use Rattle.dns_model.specs.Records.{Question}
use Rattle.dns_model.specs.SoundAnswers.{Told}
use Rattle.dns_model.specs.Trails.{AskedValue, Answered}
use Rattle.dns_model.specs.declared.answered.Answered.TheVariants.{Expanded}
use Rattle.dns_rules.specs.NsecVerdict.{holds_query}
use Rattle.dns_rules.specs.DenialInZones.{IsDeniedIn, IsExpandedIn}
use Rattle.dns_hashed_denial.specs.HashedDenial.{IsDeniedByHashes, IsExpandedByHashes}
use Rattle.dns_rules.specs.MarkedSets.{MarkedSet}
use Rattle.dns_rules.specs.Denying.{is_denying_as, denying_as, denials, hashed_denials}
use Rattle.dns_rules.specs.Outcome.{has_answer, answered, is_expanded_for, is_made_by}
use Rattle.dns_rules.specs.Derivation.{told_in, judged_sets}

-- a zone holds the query and made the denials of a type, of which there is one at least: it is the signer of each Secure set of this
-- type in the authority section
pub record IsDenierAs (rtype : ℕ) (q : Question) (sets : List MarkedSet) (apex : Labels) : Type 0 where
  pub some : list_any (is_denying_as rtype) sets ≡ true
  pub made : list_all (is_made_by apex) (denying_as rtype sets) ≡ true
  pub holds : holds_query apex q ≡ true

-- no record answers the query in any zone with that apex in which the Secure NSEC records of the authority section are true; or in
-- any in which its Secure NSEC3 records are, but for what opt-out leaves open
pub data IsDeniedFor (q : Question) (code : ℕ) (sets : List MarkedSet) (apex : Labels) : Type 0 where
  AbsentByNsec : IsDenierAs type_nsec q sets apex → IsDeniedIn q apex code (denials sets) → IsDeniedFor q code sets apex
  AbsentByNsec3 : IsDenierAs type_nsec3 q sets apex → IsDeniedByHashes q apex code (hashed_denials sets) → IsDeniedFor q code sets apex

-- no record answers the query, and none does in such zones
pub record ShowsAbsence (q : Question) (told : Told) (sets : List MarkedSet) : Type 0 where
  pub unanswered : has_answer q told ≡ false
  pub apex : Labels
  pub denied : IsDeniedFor q told.code sets apex

-- in each such zone neither the name nor a wildcard with more labels exists; light names aside, where NSEC3 records say so by opt-out
pub data IsExpandedFor (q : Question) (labels : ℕ) (sets : List MarkedSet) (apex : Labels) : Type 0 where
  ExpandedByNsec : IsDenierAs type_nsec q sets apex → IsExpandedIn q apex labels (denials sets) → IsExpandedFor q labels sets apex
  ExpandedByNsec3 : IsDenierAs type_nsec3 q sets apex → IsExpandedByHashes q labels (hashed_denials sets) → IsExpandedFor q labels sets apex

-- the answer was expanded from a wildcard, and no closer one exists in such zones
pub record ShowsExpansion (q : Question) (told : Told) (sets : List MarkedSet) : Type 0 where
  pub labels : ℕ
  pub expanded : answered q told sets ≡ Expanded labels
  pub apex : Labels
  pub denied : IsExpandedFor q labels sets apex

-- what an answer with this denial shows; of whatever mark it is, where it says that there is no answer, no record answers; and a Secure
-- set that answers and was expanded stands only beside a Secure expansion
pub record ShowsDenial (q : Question) (told : Told) (sets : List MarkedSet) (denial : Denial) : Type 0 where
  pub unanswered : (mark : Proof) → denial ≡ Absent mark → has_answer q told ≡ false
  pub absent : denial ≡ Absent Secure → ShowsAbsence q told sets
  pub expanded : denial ≡ Expansion Secure → ShowsExpansion q told sets
  pub denied : list_any (is_expanded_for q) sets ≡ true → denial ≡ Expansion Secure

-- a judged step that ends with an answer shows what it denies
abbrev pub StepDenies : AskedValue → Type 0
StepDenies step =
    (told : Told) (denial : Denial) → step.judged ≡ true → told_in step.reply ≡ Some told → step.ending ≡ Answered denial
    → ShowsDenial step.query told (judged_sets step) denial

-- and so does each step of a trail
abbrev pub HasDenials : List AskedValue → Type 0
HasDenials trail = AllByRecursion StepDenies trail
